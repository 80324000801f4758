-- The law over every list of events.
use Rattle.flow_core.proofs.RunLemmas.{has_end}
use Rattle.flow_core.proofs.laws.every_schedule_ends.Goals as goal

pub returns : goal.returns
returns c = λ needs lanes queue part events may. has_end needs lanes queue part may events
