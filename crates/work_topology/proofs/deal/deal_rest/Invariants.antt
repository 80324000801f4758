use Rattle.std.proofs.Common.{◌≡◌, ◌++◌, length}
use Rattle.std.specs.Prelude.{vec_len, vec_capacity}
use Rattle.work_topology.specs.Parts.{DealsRest}
use Rattle.work_topology.proofs.deal.deal_rest.Given as goal

abbrev pub invariant-loop-report : goal.invariant-loop-report
invariant-loop-report g l =
    (l.fn.reports.items ≡ l.yielded ++ l.report-iterator.rest.items) × DealsRest l.desk l.queue l.yielded l.seat l.pass l.posts.items × (vec_len l.posts ≡ length l.yielded)
    × (vec_capacity l.posts ≡ vec_capacity l.initial.posts)
