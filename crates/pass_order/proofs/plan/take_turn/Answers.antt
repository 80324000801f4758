-- As something is left, some lane has an event, and it is about a unit.
use Rattle.std.proofs.Common.{sym, subst, ◌<◌}
use Rattle.pass_order.proofs.Planning.{some-found, some-unit}
use Rattle.pass_order.proofs.plan.take_turn.Goals as goal

pub unreachable-requires : goal.unreachable-requires
unreachable-requires c = some-found c.args.core.now c.args.first c.requires.kept c.requires.goes_on (subst (λ n. c.args.first < n) c.requires.lanes c.requires.first) (sym c.in_default.ensures)

pub unreachable-requires-in_default-unit_of : goal.unreachable-requires-in_default-unit_of
unreachable-requires-in_default-unit_of c = some-unit c.args.core.now c.args.first c.in-Some.event (sym c.in-Some.ensures) (sym c.in_default-unit_of.ensures.value)
