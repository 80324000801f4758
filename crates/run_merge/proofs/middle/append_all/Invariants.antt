use Rattle.run_merge.specs.Cursors.{cursors_of}
use Rattle.run_merge.specs.Objects.{objects_of}
use Rattle.run_merge.specs.Steps.{bytes_left}
use Rattle.run_merge.specs.Winners.{AreWinners}
use Rattle.run_merge.proofs.Middles.{Writing}
use Rattle.run_merge.proofs.middle.append_all.Given as goal

abbrev pub invariant-loop-number : goal.invariant-loop-number
invariant-loop-number g l =
    let seen = g.S.Spill.seen in
    record {
      writing : Writing (objects_of seen l.fn.lanes l.fn.spool) (objects_of seen l.lanes l.spool) l.layers l.fn.readers l.readers l.block.items l.appended;
      winners : AreWinners (cursors_of l.readers) l.winners;
    }

abbrev pub decreases-loop-number : goal.decreases-loop-number
decreases-loop-number g l = bytes_left (cursors_of l.readers)
