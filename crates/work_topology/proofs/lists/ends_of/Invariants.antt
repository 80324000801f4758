use Rattle.std.proofs.Common.{◌≡◌, ◌++◌}
use Rattle.work_topology.specs.Sums.{SumsUp}
use Rattle.work_topology.proofs.lists.ends_of.Given as goal

abbrev pub invariant-loop-report : goal.invariant-loop-report
invariant-loop-report g l =
    (l.fn.reports.items ≡ l.yielded ++ l.report-iterator.rest.items) × SumsUp l.blocks l.yielded l.lists.outs.items l.lists.claims.items l.lists.pushed.items l.lists.popped.items l.lists.done.items
