-- Lists of steps: whose units they load, put and emit, and where they are a whole pass.
use Rattle.std.specs.Prelude.{ℕ, ◌≤◌, Option, Some, None, List, [], ◌∷◌, ◌++◌, flat_map, take}
use Rattle.tb_types.specs.Bags.{below, times, IsEachOnce}
use Rattle.flow_core.specs.declared.event.Event.{Event}
use Rattle.flow_core.specs.declared.event.Event.TheVariants as events
use Rattle.flow_core.specs.State.{CoreState}
use Rattle.flow_core.specs.Events.{unit_of}
use Rattle.flow_core.specs.Runs.{step_of}
use Rattle.pass_order.specs.declared.step.Step.{Step}
use Rattle.pass_order.specs.declared.step.Step.TheVariants.{Load, Put, Emit}

-- the unit that a step loads, puts or emits, if it does
abbrev pub load_of : Step → List ℕ
load_of (Load unit) = unit ∷ []
load_of _ = []

abbrev pub put_of : Step → List ℕ
put_of (Put unit) = unit ∷ []
put_of _ = []

abbrev pub emit_of : Step → List ℕ
emit_of (Emit unit) = unit ∷ []
emit_of _ = []

-- the units that are loaded, put and emitted, in order
abbrev pub loaded : List Step → List ℕ
loaded steps = flat_map load_of steps

abbrev pub stored : List Step → List ℕ
stored steps = flat_map put_of steps

abbrev pub emitted : List Step → List ℕ
emitted steps = flat_map emit_of steps

-- no unit is emitted more often than it is put, nor put more often than it is loaded
pub record IsBehind (steps : List Step) : Type 0 where
  pub puts : (unit : ℕ) → times unit (stored steps) ≤ times unit (loaded steps)
  pub emits : (unit : ℕ) → times unit (emitted steps) ≤ times unit (stored steps)

-- each of n units is loaded, put and emitted once, and at any time what is emitted has been put, and what is put has been loaded
pub record IsWhole (n : ℕ) (steps : List Step) : Type 0 where
  pub loads : IsEachOnce n (loaded steps)
  pub puts : IsEachOnce n (stored steps)
  pub emits : IsEachOnce n (emitted steps)
  pub in_turn : (k : ℕ) → IsBehind (take k steps)

-- the steps of one unit, and those of all of them, unit after unit
abbrev pub steps_on : ℕ → List Step
steps_on unit = Load unit ∷ Put unit ∷ Emit unit ∷ []

abbrev pub steps_in_file : ℕ → List Step
steps_in_file n = flat_map steps_on (below n)

-- the step that an event of the machine of lanes is, if it is one
abbrev pub event_step : Event → ℕ → List Step
event_step (events.Load _) unit = Load unit ∷ []
event_step (events.Put _) unit = Put unit ∷ []
event_step (events.Emit _) unit = Emit unit ∷ []
event_step _ unit = []

abbrev pub on_unit : Event → Option ℕ → List Step
on_unit event None = []
on_unit event (Some unit) = event_step event unit

abbrev pub steps_at : Event → CoreState → List Step
steps_at event state = on_unit event (unit_of event state)

-- the steps among the events from a state on
abbrev pub steps_along : List Event → CoreState → List Step
steps_along [] state = []
steps_along (event ∷ events) state = steps_at event state ++ steps_along events (step_of event state)
