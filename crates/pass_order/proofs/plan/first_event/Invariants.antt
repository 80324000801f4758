use Rattle.std.proofs.Common.{◌≡◌, ◌-◌}
use Rattle.std.specs.List.{range_with_len}
use Rattle.pass_order.specs.Turns.{first_event}
use Rattle.pass_order.proofs.plan.first_event.Given as goal

abbrev pub invariant-loop-lane : goal.invariant-loop-lane
invariant-loop-lane l = first_event l.core (range_with_len l.lane (l.to - l.lane)) ≡ first_event l.core (range_with_len l.from (l.to - l.from))
