-- Lists of events, one after another. One that isn't possible changes nothing.
use Rattle.std.specs.Prelude.{◌≡◌, ℕ, ◌+◌, if◌then◌else◌, List, [], ◌∷◌, length}
use Rattle.std.specs.Option.{unwrap_or}
use Rattle.flow_core.specs.declared.event.Event.{Event}
use Rattle.flow_core.specs.State.{CoreState}
use Rattle.flow_core.specs.Events.{after, is_possible}

-- the state after the event, or the same state
abbrev pub step_of : Event → CoreState → CoreState
step_of event state = unwrap_or (after event state) state

abbrev pub run_of : List Event → CoreState → CoreState
run_of [] state = state
run_of (event ∷ events) state = run_of events (step_of event state)

-- how many of them were possible when their turn came
abbrev pub taken : List Event → CoreState → ℕ
taken [] state = 0
taken (event ∷ events) state = (if is_possible state event then 1 else 0) + taken events (step_of event state)

-- the parameters stay
pub record IsSameMachine (old new : CoreState) : Type 0 where
  pub needs : new.needs ≡ old.needs
  pub capacity : new.capacity ≡ old.capacity
  pub part : new.part ≡ old.part
  pub lanes : length new.lanes ≡ length old.lanes
