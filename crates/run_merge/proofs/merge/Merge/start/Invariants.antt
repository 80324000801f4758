use Rattle.std.proofs.Common.{length}
use Rattle.run_merge.specs.Objects.{objects_of, Keeps, NoneRose}
use Rattle.run_merge.specs.Steps.{HaveAll}
use Rattle.run_merge.specs.Answers.{named_runs}
use Rattle.run_merge.proofs.merge.Merge.start.Given as goal

abbrev pub invariant-loop-waiting : goal.invariant-loop-waiting
invariant-loop-waiting g l =
    let seen = g.S.Spill.seen in
    let o = objects_of seen l.fn.lanes l.fn.spool in
    let now = objects_of seen l.lanes l.spool in
    record {
      keeps : Keeps o now;
      counts : NoneRose o now;
      all : HaveAll o now l.layers (named_runs l.runs) l.waiting.items;
    }

abbrev pub decreases-loop-waiting : goal.decreases-loop-waiting
decreases-loop-waiting g l = length l.waiting.items
