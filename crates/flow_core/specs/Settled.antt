-- Where every list of events ends: each unit was claimed, pushed, popped and done once.
use Rattle.std.specs.Prelude.{ℕ, ◌==◌, Option, Some, None, option_to_list, List, [], ◌++◌, map, slice_get, slice_index_or}
use Rattle.std.specs.List.{concat, filter}
use Rattle.tb_types.specs.Bags.{below, IsEachOnce, IsSameBag}
use Rattle.flow_core.specs.declared.lane.Entry.{Entry}
use Rattle.flow_core.specs.declared.lane.LaneState.{LaneState}
use Rattle.flow_core.specs.Lanes.{own_unit, work_unit}
use Rattle.flow_core.specs.State.{CoreState}
use Rattle.flow_core.specs.Kept.{units}

-- a lane's list, of the lists of all lanes
abbrev pub list_at : List (List ℕ) → ℕ → List ℕ
list_at lists lane = slice_index_or lists lane []

-- n units are settled, by what each lane claimed, pushed, popped and did, one list a lane
pub record Settled (n : ℕ) (claims pushed popped done : List (List ℕ)) : Type 0 where
  -- all claims together are the numbers below n, each once
  pub claimed_once : IsEachOnce n (concat claims)
  -- all that was pushed is all that was popped, each as often
  pub moved : IsSameBag (concat pushed) (concat popped)
  -- each lane pushed what it claimed, and did what it popped
  pub lane_pushed : (lane : ℕ) → IsSameBag (list_at claims lane) (list_at pushed lane)
  pub lane_did : (lane : ℕ) → IsSameBag (list_at done lane) (list_at popped lane)

-- the units of one lane's entries, and those of each lane
abbrev pub of_lane : List Entry → ℕ → List ℕ
of_lane entries lane = units (filter (λ entry. entry.lane == lane) entries)

abbrev pub by_lane : ℕ → List Entry → List (List ℕ)
by_lane lanes entries = map (of_lane entries) (below lanes)

-- a lane's own unit, and the unit that it works, as lists
abbrev pub own_of : Option LaneState → List ℕ
own_of None = []
own_of (Some lane) = option_to_list (own_unit lane.own)

abbrev pub work_of : Option LaneState → List ℕ
work_of None = []
work_of (Some lane) = option_to_list (work_unit lane.work)

-- of a lane: its claims are its own unit and what it pushed, and what it did and the unit that it works are what it
-- popped, each as often
pub record IsKeptInLane (state : CoreState) (lane : ℕ) : Type 0 where
  pub claims : IsSameBag (of_lane state.claims lane) (own_of (slice_get state.lanes lane) ++ of_lane state.pushed lane)
  pub popped : IsSameBag (of_lane state.done lane ++ work_of (slice_get state.lanes lane)) (of_lane state.popped lane)
