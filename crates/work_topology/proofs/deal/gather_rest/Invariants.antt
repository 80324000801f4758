use Rattle.std.proofs.Common.{◌≡◌, ◌+◌, ◌++◌, length}
use Rattle.std.specs.Prelude.{vec_len, vec_capacity}
use Rattle.work_topology.specs.Parts.{GathersRest}
use Rattle.work_topology.proofs.deal.gather_rest.Given as goal

abbrev pub invariant-loop-post : goal.invariant-loop-post
invariant-loop-post g l =
    (l.fn.posts.items ≡ l.yielded ++ l.post-iterator.rest.items)
    × GathersRest l.desk l.yielded l.initial.seat l.initial.pass l.initial.reports.items l.seat l.pass l.reports.items
    × (vec_len l.reports ≡ vec_len l.initial.reports + length l.yielded)
    × (vec_capacity l.reports ≡ vec_capacity l.initial.reports)
