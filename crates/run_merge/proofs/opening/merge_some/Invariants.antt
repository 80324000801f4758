use Rattle.std.proofs.Common.{◌≡◌, ◌+◌, ◌<◌, ◌⊎◌, ◌++◌, List, length}
use Rattle.run_merge.specs.declared.named_run.NamedRun.{NamedRun}
use Rattle.run_merge.specs.Objects.{objects_of, Keeps, NoneRose}
use Rattle.run_merge.specs.Steps.{HaveAll}
use Rattle.run_merge.proofs.opening.merge_some.Given as goal

abbrev pub invariant-loop-rest : goal.invariant-loop-rest
invariant-loop-rest g l =
    let seen = g.S.Spill.seen in
    let o = objects_of seen l.fn.lanes l.fn.spool in
    let now = objects_of seen l.lanes l.spool in
    record {
      keeps : Keeps o now;
      counts : NoneRose o now;
      parts : (done : List NamedRun) × (l.waiting ≡ done ++ l.rest) × HaveAll o now l.layers done l.merged.items;
      fewer : ((length l.merged.items ≡ 0) × (length l.rest ≡ length l.waiting)) ⊎ (length l.merged.items + length l.rest < length l.waiting);
    }

abbrev pub decreases-loop-rest : goal.decreases-loop-rest
decreases-loop-rest g l = length l.rest
