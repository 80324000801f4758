-- The events: when each is possible, and what it does.
use Rattle.std.specs.Prelude.{◌≡◌, ℕ, ◌+◌, ◌-◌, ◌<◌, ◌≤◌, Bool, false, if◌then◌else◌, nat_lt, nat_le, Option, Some, None, is_some, IsSome, List, [], ◌∷◌, ◌++◌, length, drop, slice_get}
use Rattle.std.specs.Option.{option_and_then, option_map}
use Rattle.std.specs.List.{find}
use Rattle.flow_core.specs.declared.event.Event.{Event}
use Rattle.flow_core.specs.declared.event.Event.TheVariants.{Claim, Book, Load, Push, Pop, Put, Emit, Give}
use Rattle.flow_core.specs.declared.lane.Own.{Own}
use Rattle.flow_core.specs.declared.lane.Work.{Work}
use Rattle.flow_core.specs.declared.lane.Own.TheVariants.{Free, Claimed, Booked, Loaded}
use Rattle.flow_core.specs.declared.lane.Work.TheVariants.{Idle, Popped, Stored, Emitted}
use Rattle.flow_core.specs.declared.lane.LaneState.{LaneState}
use Rattle.flow_core.specs.declared.lane.Entry.{Entry}
use Rattle.flow_core.specs.Lanes.{with_own, with_work, with_over}
use Rattle.flow_core.specs.State.{CoreState, need_of}

-- the lane that acts
abbrev pub lane_of : Event → ℕ
lane_of (Claim lane) = lane
lane_of (Book lane) = lane
lane_of (Load lane) = lane
lane_of (Push lane) = lane
lane_of (Pop lane) = lane
lane_of (Put lane) = lane
lane_of (Emit lane) = lane
lane_of (Give lane) = lane

-- The unit that the event is about, if it is possible in a lane with these in hand, which is over or isn't. A claim is about the next unit, also where none is left.
abbrev pub unit_in : Event → CoreState → Own → Work → Bool → Option ℕ
unit_in (Claim _) state Free Idle false = Some state.next
unit_in (Book _) state (Claimed unit) Idle _ = if nat_le (state.booked + need_of state.needs unit) state.part then Some unit else None
unit_in (Load _) state (Booked unit) _ _ = Some unit
unit_in (Push _) state (Loaded unit) Idle _ = if nat_lt (length state.queue) state.capacity then Some unit else None
unit_in (Pop _) state (Booked _) _ _ = None
unit_in (Pop _) state _ Idle _ = slice_get state.queue 0
unit_in (Put _) state _ (Popped unit) _ = Some unit
unit_in (Emit _) state _ (Stored unit) _ = Some unit
unit_in (Give _) state _ (Emitted unit) _ = Some unit
unit_in _ _ _ _ _ = None

abbrev pub unit_at : Event → CoreState → LaneState → Option ℕ
unit_at event state lane = unit_in event state lane.own lane.work lane.over

-- the unit that the event is about; none exactly if the event isn't possible now
abbrev pub unit_of : Event → CoreState → Option ℕ
unit_of event state = option_and_then (unit_at event state) (slice_get state.lanes (lane_of event))

abbrev pub entry_of : ℕ → ℕ → Entry
entry_of lane unit = record { lane = lane; unit = unit }

-- a claim of a unit, and one where none is left
abbrev pub claim_effect : ℕ → ℕ → CoreState → CoreState
claim_effect lane unit state =
    record state {
      lanes = with_own state.lanes lane (Claimed unit);
      next = unit + 1;
      claims = state.claims ++ entry_of lane unit ∷ [];
    }

abbrev pub over_effect : ℕ → CoreState → CoreState
over_effect lane state = record state { lanes = with_over state.lanes lane }

-- what the event does with its unit
abbrev pub effect : Event → ℕ → CoreState → CoreState
effect (Claim lane) unit state = if nat_lt unit (length state.needs) then claim_effect lane unit state else over_effect lane state
effect (Book lane) unit state =
    record state {
      lanes = with_own state.lanes lane (Booked unit);
      booked = state.booked + need_of state.needs unit;
    }
effect (Load lane) unit state = record state { lanes = with_own state.lanes lane (Loaded unit) }
effect (Push lane) unit state =
    record state {
      lanes = with_own state.lanes lane Free;
      queue = state.queue ++ unit ∷ [];
      pushed = state.pushed ++ entry_of lane unit ∷ [];
    }
effect (Pop lane) unit state =
    record state {
      lanes = with_work state.lanes lane (Popped unit);
      queue = drop 1 state.queue;
      popped = state.popped ++ entry_of lane unit ∷ [];
    }
effect (Put lane) unit state = record state { lanes = with_work state.lanes lane (Stored unit) }
effect (Emit lane) unit state = record state { lanes = with_work state.lanes lane (Emitted unit) }
effect (Give lane) unit state =
    record state {
      lanes = with_work state.lanes lane Idle;
      booked = state.booked - need_of state.needs unit;
      done = state.done ++ entry_of lane unit ∷ [];
    }

-- the state after the event; none exactly if it isn't possible now
abbrev pub after : Event → CoreState → Option CoreState
after event state = option_map (λ unit. effect event unit state) (unit_of event state)

-- a lane's events, the preferred ones first
abbrev pub in_order : ℕ → List Event
in_order lane =
    Give lane ∷ Emit lane ∷ Load lane ∷ Push lane ∷ Put lane ∷ Book lane ∷ Claim lane ∷ Pop lane ∷ []

abbrev pub is_possible : CoreState → Event → Bool
is_possible state event = is_some (unit_of event state)

-- the first event of the lane that is possible
abbrev pub next_event : ℕ → CoreState → Option Event
next_event lane state = find (is_possible state) (in_order lane)

-- the lane can do none of its events
abbrev pub CanDoNothing : ℕ → CoreState → Type 0
CanDoNothing lane state = (event : Event) → lane_of event ≡ lane → after event state ≡ None

-- the lane can do this event
abbrev pub MayDo : ℕ → CoreState → Event → Type 0
MayDo lane state event = (lane_of event ≡ lane) × IsSome (after event state)

-- the unit is one of n, or after the last of them where the event is a claim
abbrev pub IsUnitOf : Event → ℕ → ℕ → Type 0
IsUnitOf (Claim _) n unit = unit ≤ n
IsUnitOf (Book _) n unit = unit < n
IsUnitOf (Load _) n unit = unit < n
IsUnitOf (Push _) n unit = unit < n
IsUnitOf (Pop _) n unit = unit < n
IsUnitOf (Put _) n unit = unit < n
IsUnitOf (Emit _) n unit = unit < n
IsUnitOf (Give _) n unit = unit < n
