use Rattle.std.proofs.Common.{◌≡◌, None, replicate}
use Rattle.pass_order.proofs.walk.nothing_held.Given as goal

abbrev pub invariant-loop-unit : goal.invariant-loop-unit
invariant-loop-unit g l = l.held.items ≡ replicate l._unit None
