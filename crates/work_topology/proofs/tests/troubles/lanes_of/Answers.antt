use Rattle.std.proofs.Common.{rules, ◌≡◌, ◌+◌, ◌*◌, ◌++◌, ◌∷◌, [], length, subst, sym}
use Rattle.tb_outside.specs.Memory.{as_source}
use Rattle.work_topology.proofs.Tens.{AreOver, over_push}
use Rattle.work_topology.proofs.tests.troubles.lanes_of.Goals as goal

pub loop-number-preserved : goal.loop-number-preserved
loop-number-preserved c =
    let pushed : c.push.new.self.items ≡ c.loop-number.lanes.items ++ c.in_ok-lane.lane ∷ [] = search rules in
    subst (λ l. (length l ≡ c.loop-number.number + 1) × AreOver as_source (10 * c.args.row.now.blocks) l) (sym pushed) (over_push as_source (10 * c.args.row.now.blocks) c.loop-number.number c.loop-number.lanes.items c.in_ok-lane.lane c.loop-number.invariant c.in_ok-lane.ensures)
