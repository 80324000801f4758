-- What every machine keeps, whatever events come.
use Rattle.std.specs.Prelude.{◌≡◌, ℕ, suc, ◌+◌, ◌^◌, ◌<◌, ◌≤◌, true, Option, Some, None, List, [], ◌∷◌, ◌++◌, length, map}
use Rattle.std.specs.List.{sum_by, All}
use Rattle.tb_types.specs.Bags.{below, IsSameBag}
use Rattle.flow_core.specs.declared.lane.Own.{Own}
use Rattle.flow_core.specs.declared.lane.Own.TheVariants.{Free, Claimed, Booked, Loaded}
use Rattle.flow_core.specs.declared.lane.LaneState.{LaneState}
use Rattle.flow_core.specs.declared.lane.Entry.{Entry}
use Rattle.flow_core.specs.Lanes.{own_unit, work_unit}
use Rattle.flow_core.specs.State.{CoreState, need_of}
use Rattle.flow_core.specs.Events.{entry_of}

-- the units of entries
abbrev pub units : List Entry → List ℕ
units entries = map (λ entry. entry.unit) entries

-- a unit in a lane's hand, as an entry
abbrev pub in_hand : ℕ → Option ℕ → List Entry
in_hand lane None = []
in_hand lane (Some unit) = entry_of lane unit ∷ []

-- what a list of lanes has of something, the first lane having this number
abbrev pub each_lane : (ℕ → LaneState → List Entry) → ℕ → List LaneState → List Entry
each_lane f number [] = []
each_lane f number (lane ∷ lanes) = f number lane ++ each_lane f (suc number) lanes

-- the lanes' own units, and the units that they work
abbrev pub own_entry : ℕ → LaneState → List Entry
own_entry number lane = in_hand number (own_unit lane.own)

abbrev pub work_entry : ℕ → LaneState → List Entry
work_entry number lane = in_hand number (work_unit lane.work)

abbrev pub owned : List LaneState → List Entry
owned lanes = each_lane own_entry 0 lanes

abbrev pub worked : List LaneState → List Entry
worked lanes = each_lane work_entry 0 lanes

-- what a lane has booked: the need of its own unit from booking on, and that of the unit that it works
abbrev pub own_need : List ℕ → Own → ℕ
own_need needs Free = 0
own_need needs (Claimed unit) = 0
own_need needs (Booked unit) = need_of needs unit
own_need needs (Loaded unit) = need_of needs unit

abbrev pub unit_need : List ℕ → Option ℕ → ℕ
unit_need needs None = 0
unit_need needs (Some unit) = need_of needs unit

abbrev pub lane_need : List ℕ → LaneState → ℕ
lane_need needs lane = own_need needs lane.own + unit_need needs (work_unit lane.work)

-- the parameters are within their limits
pub record IsWithin (needs : List ℕ) (capacity part lanes : ℕ) : Type 0 where
  pub few_units : length needs ≤ 2 ^ 24
  pub fit : (unit : ℕ) → need_of needs unit ≤ part
  pub some_lane : 1 ≤ lanes
  pub few_lanes : lanes ≤ 64
  pub some_place : 1 ≤ capacity
  pub few_places : capacity ≤ 1024

-- each entry names one of so many lanes
abbrev pub IsOfLanes : ℕ → List Entry → Type 0
IsOfLanes lanes entries = All (λ entry. entry.lane < lanes) entries

-- the claims of all lanes are the numbers below next, in order, and a lane is over only if no unit is left
pub record IsClaimed (needs : List ℕ) (next : ℕ) (lanes : List LaneState) (claims : List Entry) : Type 0 where
  pub in_order : units claims ≡ below next
  pub within : next ≤ length needs
  pub of_lanes : IsOfLanes (length lanes) claims
  pub over : All (λ lane. lane.over ≡ true → next ≡ length needs) lanes

-- what is booked is the needs of all units that are booked, loaded, in the queue or worked, within the part
pub record IsBooked (needs : List ℕ) (part booked : ℕ) (lanes : List LaneState) (queue : List ℕ) : Type 0 where
  pub total : booked ≡ sum_by (lane_need needs) lanes + sum_by (need_of needs) queue
  pub within : booked ≤ part

-- the queue has room for its units, and all that was pushed is all that was popped and the queue, each as often
pub record IsQueued (capacity : ℕ) (queue : List ℕ) (pushed popped : List Entry) : Type 0 where
  pub short : length queue ≤ capacity
  pub moved : IsSameBag (units pushed) (units popped ++ queue)

-- All of it. An entry has its lane, so the last two hold lane by lane: a lane's claims are its own unit and what it
-- pushed, and what it popped is what it did and the unit that it works, each as often.
pub record IsKept (state : CoreState) : Type 0 where
  pub limits : IsWithin state.needs state.capacity state.part (length state.lanes)
  pub claims : IsClaimed state.needs state.next state.lanes state.claims
  pub booked : IsBooked state.needs state.part state.booked state.lanes state.queue
  pub queue : IsQueued state.capacity state.queue state.pushed state.popped
  pub own : IsSameBag state.claims (owned state.lanes ++ state.pushed)
  pub work : IsSameBag state.popped (worked state.lanes ++ state.done)
  pub popped_of_lanes : IsOfLanes (length state.lanes) state.popped
