-- The machine's state, and where it starts.
use Rattle.std.specs.Prelude.{ℕ, ◌+◌, ◌-◌, ◌*◌, List, [], length, replicate, slice_index}
use Rattle.std.specs.List.{sum_by}
use Rattle.flow_core.specs.declared.lane.LaneState.{LaneState}
use Rattle.flow_core.specs.declared.lane.Entry.{Entry}
use Rattle.flow_core.specs.Lanes.{fresh_lane, lane_left}

pub record CoreState : Type 0 where
  -- what never changes: each unit's need, the queue's capacity, and the part that needs are booked in
  pub needs : List ℕ
  pub capacity : ℕ
  pub part : ℕ
  -- the next unit to claim, what is booked, the queue from its front on, and each lane
  pub next : ℕ
  pub booked : ℕ
  pub queue : List ℕ
  pub lanes : List LaneState
  -- what the lanes claimed, pushed, popped and did, in order, each entry with its lane
  pub claims : List Entry
  pub pushed : List Entry
  pub popped : List Entry
  pub done : List Entry

-- nothing has happened
abbrev pub start_state : List ℕ → ℕ → ℕ → ℕ → CoreState
start_state needs lanes queue part =
    record {
      needs = needs;
      capacity = queue;
      part = part;
      next = 0;
      booked = 0;
      queue = [];
      lanes = replicate lanes fresh_lane;
      claims = [];
      pushed = [];
      popped = [];
      done = [];
    }

-- a unit's need, which is 0 if there is no such unit
abbrev pub need_of : List ℕ → ℕ → ℕ
need_of needs unit = slice_index needs unit

-- How many events are left: for each unit 8 if it is unclaimed, 4 in the queue, and in a lane's hand as `own_left` and
-- `work_left` say; and 1 for each lane that isn't over.
abbrev pub left_of : CoreState → ℕ
left_of state = 8 * (length state.needs - state.next) + 4 * length state.queue + sum_by lane_left state.lanes
