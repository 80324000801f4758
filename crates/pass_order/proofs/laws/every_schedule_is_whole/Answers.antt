-- The law over every list of events.
use Rattle.pass_order.proofs.Following.{schedule-whole}
use Rattle.pass_order.proofs.laws.every_schedule_is_whole.Goals as goal

pub returns : goal.returns
returns c = schedule-whole
