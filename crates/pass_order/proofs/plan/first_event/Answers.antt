-- A lane without an event is passed over.
use Rattle.std.proofs.Common.{◌∙◌}
use Rattle.pass_order.proofs.Planning.{next-lane}
use Rattle.pass_order.proofs.plan.first_event.Goals as goal

pub loop-lane-preserved : goal.loop-lane-preserved
loop-lane-preserved c = next-lane c.args.core.now c.loop-lane.lane c.args.to c.next_of.result c.loop-lane-test.true c.next_of.ensures.value c.in_default.is ∙ c.loop-lane.invariant
