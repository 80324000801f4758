-- One turn of drawn lanes, as it is planned.
use Rattle.std.specs.Prelude.{◌≡◌, ℕ, ◌+◌, Some, List, ◌++◌}
use Rattle.flow_core.specs.declared.event.Event.{Event}
use Rattle.flow_core.specs.State.{CoreState, left_of}
use Rattle.flow_core.specs.Kept.{IsKept}
use Rattle.flow_core.specs.Runs.{step_of, IsSameMachine}
use Rattle.pass_order.specs.declared.step.Step.{Step}
use Rattle.pass_order.specs.Turns.{event_of}
use Rattle.pass_order.specs.Whole.{steps_at}

-- the event of the lane that was drawn is done, which is one event less, and if it is a step it is planned
pub record TakesTurn (first : ℕ) (old new : CoreState) (before after : List Step) : Type 0 where
  pub event : Event
  pub drawn : event_of first old ≡ Some event
  pub done : new ≡ step_of event old
  pub planned : after ≡ before ++ steps_at event old
  pub less : left_of new + 1 ≡ left_of old
  pub kept : IsKept new
  pub machine : IsSameMachine old new
