-- A pass of drawn lanes: whose turn it is, what is done in it, and all events up to the end.
use Rattle.std.specs.Prelude.{◌≡◌, ℕ, zero, suc, ◌-◌, Option, Some, None, List, [], ◌∷◌, ◌++◌, length}
use Rattle.std.specs.List.{range_with_len}
use Rattle.std.specs.Option.{option_or, option_map_or}
use Rattle.gen_world.specs.Numbers.{number, draw}
use Rattle.flow_core.specs.declared.event.Event.{Event}
use Rattle.flow_core.specs.State.{CoreState, left_of}
use Rattle.flow_core.specs.Events.{next_event}
use Rattle.flow_core.specs.Runs.{step_of}

-- lane k and those behind it, and then those before it
abbrev pub round : ℕ → ℕ → List ℕ
round k lanes = range_with_len k (lanes - k) ++ range_with_len 0 k

-- the event of the first of these lanes that has one
abbrev pub first_event : CoreState → List ℕ → Option Event
first_event state [] = None
first_event state (lane ∷ lanes) = option_or (next_event lane state) (first_event state lanes)

-- what is done where lane k is drawn
abbrev pub event_of : ℕ → CoreState → Option Event
event_of k state = first_event state (round k (length state.lanes))

-- what is done where `last` is the number that was taken last: a lane is drawn by the next number
unfoldable pub drawn_event : ℕ → CoreState → Option Event
drawn_event last state = event_of (draw last 1 (length state.lanes)) state

-- At most so many events of drawn lanes, up to where no lane has one. The first number behind `last` draws the first lane.
abbrev pub drawn_from : ℕ → ℕ → CoreState → List Event
drawn_from zero last state = []
drawn_from (suc more) last state =
    option_map_or (λ event. event ∷ drawn_from more (number last 1) (step_of event state)) (drawn_event last state) []

-- all of them: no schedule has more events than are left
unfoldable pub drawn_events : ℕ → CoreState → List Event
drawn_events last state = drawn_from (left_of state) last state

-- the same as a relation: each event is that of the lane that is drawn then, and behind the last one no lane has any
abbrev pub IsDrawn : ℕ → CoreState → List Event → Type 0
IsDrawn last state [] = (lane : ℕ) → next_event lane state ≡ None
IsDrawn last state (event ∷ events) = (drawn_event last state ≡ Some event) × IsDrawn (number last 1) (step_of event state) events
