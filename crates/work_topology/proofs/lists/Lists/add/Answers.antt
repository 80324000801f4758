use Rattle.std.proofs.Common.{rules, subst}
use Rattle.work_topology.specs.Sums.{ArePlaces}
use Rattle.work_topology.proofs.Summing.{sums_more}
use Rattle.work_topology.proofs.lists.Lists.add.Goals as goal

pub returns : goal.returns
returns g c =
    λ reports s.
    sums_more c.args.blocks.now reports c.args.report _ _ _ _ _ _ _ _ _ _ c.in_ok-popped.popped.items s (search rules) (search rules) (search rules) (search rules) (subst (λ ds. ArePlaces c.args.blocks.now ds c.in_ok-popped.popped.items) c.as_slice-2.ensures c.in_ok-popped.ensures) (search rules)
