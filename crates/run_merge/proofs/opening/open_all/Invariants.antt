use Rattle.std.proofs.Common.{◌≡◌, take}
use Rattle.run_merge.specs.Objects.{objects_of}
use Rattle.run_merge.specs.Steps.{Opens}
use Rattle.run_merge.proofs.opening.open_all.Given as goal

abbrev pub invariant-loop-run : goal.invariant-loop-run
invariant-loop-run g l =
    let seen = g.S.Spill.seen in
    record {
      objects : objects_of seen l.lanes l.spool ≡ objects_of seen l.fn.lanes l.fn.spool;
      opens : Opens (objects_of seen l.fn.lanes l.fn.spool) l.layers (take l.run-index l.runs) l.readers.items;
    }
