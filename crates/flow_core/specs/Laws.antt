-- What holds of every machine and of every list of events.
use Rattle.std.specs.Prelude.{◌≡◌, ◌≢◌, ℕ, ◌+◌, ◌*◌, ◌^◌, ◌<◌, ◌≤◌, List, length, IsSome}
use Rattle.std.specs.List.{All}
use Rattle.tb_types.specs.Bags.{IsEachOnce}
use Rattle.std.specs.List.{concat}
use Rattle.flow_core.specs.declared.event.Event.{Event}
use Rattle.flow_core.specs.State.{CoreState, start_state, left_of}
use Rattle.flow_core.specs.Events.{next_event}
use Rattle.flow_core.specs.Runs.{run_of, taken}
use Rattle.flow_core.specs.Kept.{IsKept}
use Rattle.flow_core.specs.Settled.{Settled, by_lane, IsKeptInLane}

-- some lane has an event
abbrev pub SomeLaneMay : CoreState → Type 0
SomeLaneMay state = (lane : ℕ) × (lane < length state.lanes) × IsSome (next_event lane state)

-- all units are settled, and nothing is booked
pub record IsSettled (state : CoreState) : Type 0 where
  pub units :
      Settled (length state.needs) (by_lane (length state.lanes) state.claims) (by_lane (length state.lanes) state.pushed)
      (by_lane (length state.lanes) state.popped)
      (by_lane (length state.lanes) state.done)
  pub nothing_booked : state.booked ≡ 0

-- a state that has what is kept goes on until it is settled
pub record Progresses (state : CoreState) : Type 0 where
  pub kept : IsKept state
  pub goes_on : left_of state ≢ 0 → SomeLaneMay state
  pub settled : left_of state ≡ 0 → IsSettled state

-- a machine may start so
pub record MayStart (needs : List ℕ) (lanes queue part : ℕ) : Type 0 where
  pub few_units : length needs ≤ 2 ^ 24
  pub fit : All (λ need. need ≤ part) needs
  pub some_lane : 1 ≤ lanes
  pub few_lanes : lanes ≤ 64
  pub some_place : 1 ≤ queue
  pub few_places : queue ≤ 1024

-- From the start on, for every list of events: those that were possible and what is left add up to 8 for each unit and 1
-- for each lane, so that no more of them are possible; and the state goes on until it is settled.
pub record HasEnd (needs : List ℕ) (lanes queue part : ℕ) (events : List Event) : Type 0 where
  pub counted :
      taken events (start_state needs lanes queue part) + left_of (run_of events (start_state needs lanes queue part)) ≡ 8 * length needs + lanes
  pub bounded : taken events (start_state needs lanes queue part) ≤ 8 * length needs + lanes
  pub end : Progresses (run_of events (start_state needs lanes queue part))

abbrev pub EveryScheduleEnds : Type 0
EveryScheduleEnds = (needs : List ℕ) (lanes queue part : ℕ) (events : List Event) → MayStart needs lanes queue part → HasEnd needs lanes queue part events

-- where units are settled, all that was done is the numbers below n, each once
abbrev pub SettledMeansDone : Type 0
SettledMeansDone =
    (n : ℕ) (claims pushed popped done : List (List ℕ)) → Settled n claims pushed popped done → IsEachOnce n (concat done)

-- what is kept, lane by lane
abbrev pub KeptByLane : Type 0
KeptByLane = (state : CoreState) (lane : ℕ) → IsKept state → IsKeptInLane state lane
