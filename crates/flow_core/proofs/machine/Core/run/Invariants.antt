use Rattle.std.proofs.Common.{◌≡◌, drop}
use Rattle.flow_core.specs.Runs.{run_of}
use Rattle.flow_core.proofs.machine.Core.run.Given as goal

abbrev pub invariant-loop-event : goal.invariant-loop-event
invariant-loop-event l = run_of (drop l.event-index l.events) l.self ≡ run_of l.events l.fn.self
