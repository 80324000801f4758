use Rattle.std.proofs.Common.{◌≡◌, drop}
use Rattle.std.specs.List.{find}
use Rattle.flow_core.specs.Events.{is_possible}
use Rattle.flow_core.proofs.machine.Core.first_of.Given as goal

abbrev pub invariant-loop-event : goal.invariant-loop-event
invariant-loop-event l = find (is_possible l.self) (drop l.event-index l.events) ≡ find (is_possible l.self) l.events
