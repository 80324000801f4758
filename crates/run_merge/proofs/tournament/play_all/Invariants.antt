use Rattle.std.proofs.Common.{◌≤◌, length}
use Rattle.run_merge.specs.Cursors.{cursors_of, ranks_of}
use Rattle.run_merge.specs.Winners.{AreRightBut}
use Rattle.run_merge.proofs.Rounds.{From}
use Rattle.run_merge.proofs.tournament.play_all.Given as goal

abbrev pub invariant-loop-place : goal.invariant-loop-place
invariant-loop-place l = record {
  right : AreRightBut (From l.place) (length (cursors_of l.readers)) (ranks_of (cursors_of l.readers)) l.winners;
  small : l.place ≤ length (cursors_of l.readers);
}

abbrev pub decreases-loop-place : goal.decreases-loop-place
decreases-loop-place l = l.place
