-- The lanes from the drawn one on, and then those before it.
use Rattle.pass_order.proofs.Planning.{found-here, found-before}
use Rattle.pass_order.proofs.plan.event_of.Goals as goal

pub returns-in-Some : goal.returns-in-Some
returns-in-Some c = found-here c.args.core.now c.args.lanes c.args.first c.in-Some.event c.requires.lanes c.in-Some.ensures

pub returns-in-None : goal.returns-in-None
returns-in-None c = found-before c.args.core.now c.args.lanes c.args.first c.first_event-in-None.result c.requires.lanes c.in-None.ensures c.first_event-in-None.ensures
