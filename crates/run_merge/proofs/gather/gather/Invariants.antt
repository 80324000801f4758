use Rattle.std.proofs.Common.{◌≡◌}
use Rattle.run_merge.specs.Cursors.{cursors_of}
use Rattle.run_merge.specs.Objects.{objects_of}
use Rattle.run_merge.specs.Steps.{bytes_left}
use Rattle.run_merge.specs.Winners.{AreWinners}
use Rattle.run_merge.proofs.Gathering.{SoFar}
use Rattle.run_merge.proofs.gather.gather.Given as goal

abbrev pub invariant-loop-number : goal.invariant-loop-number
invariant-loop-number g l =
    let seen = g.S.Spill.seen in
    record {
      objects : objects_of seen l.lanes l.spool ≡ objects_of seen l.fn.lanes l.fn.spool;
      winners : AreWinners (cursors_of l.readers) l.winners;
      so_far : SoFar 1 (objects_of seen l.fn.lanes l.fn.spool) l.layers l.part l.tile l.fn.readers l.readers l.gathered;
    }

abbrev pub decreases-loop-number : goal.decreases-loop-number
decreases-loop-number g l = bytes_left (cursors_of l.readers)
