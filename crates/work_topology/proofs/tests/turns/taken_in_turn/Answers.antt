use Rattle.std.proofs.Common.{rules, ◌≡◌, ◌*◌, ◌<◌, ◌≤◌, length, subst, sym}
use Rattle.tb_outside.specs.Memory.{as_source}
use Rattle.work_topology.proofs.Ready.{may_work}
use Rattle.work_topology.proofs.Tens.{AreTens, AreOver, may_tens}
use Rattle.work_topology.proofs.tests.turns.taken_in_turn.Goals as goal

pub work_all-gathered-requires-clause-may : goal.work_all-gathered-requires-clause-may
work_all-gathered-requires-clause-may g c κs within =
    let row : (0 < c.args.row.now.lanes) × (c.args.row.now.lanes ≤ 64) × (0 < c.args.row.now.queue) × (c.args.row.now.queue ≤ 1024) × (c.args.row.now.blocks ≤ 100) × (65696 ≤ c.args.row.now.budget) = search rules in
    let seeded : length c.in_ok-seeds.seeds.items ≡ c.args.row.now.lanes = search rules in
    let blocks = subst (λ l. AreTens c.args.row.now.blocks l) (sym c.as_slice.ensures.value) c.in_ok-blocks.ensures in
    let lanes = subst (λ l. (length l ≡ c.args.row.now.lanes) × AreOver as_source (10 * c.args.row.now.blocks) l) (sym c.as_mut_slice.ensures.value) c.in_ok-lanes.ensures in
    let may = may_tens _ as_source c.as_slice.result.now c.as_mut_slice.result.now c.in_ok-seeds.seeds.items c.args.row.now.lanes c.args.row.now.queue c.args.row.now.blocks c.args.row.now.budget row blocks lanes seeded (λ k seed out objects s. s.0) in
    may_work _ as_source c.as_slice.result.now c.as_mut_slice.result.now c.in_ok-seeds.seeds.items c.args.row.now.queue c.args.row.now.budget _ _ may c.in_ok-starts.ensures (search rules)
