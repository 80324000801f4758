use Rattle.std.proofs.Common.{◌<◌, length}
use Rattle.run_merge.specs.Cursors.{cursors_of, ranks_of}
use Rattle.run_merge.specs.Winners.{AreRightBut, IsAbove}
use Rattle.run_merge.proofs.tournament.replay.Given as goal

abbrev pub invariant-loop-place : goal.invariant-loop-place
invariant-loop-place l = record {
  right : AreRightBut (λ m. IsAbove m l.place) (length (cursors_of l.readers)) (ranks_of (cursors_of l.readers)) l.winners;
  small : l.place < length (cursors_of l.readers);
}

abbrev pub decreases-loop-place : goal.decreases-loop-place
decreases-loop-place l = l.place
