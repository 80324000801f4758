-- What a lane has in hand, what it may do with it, and how far it is from done.
use Rattle.std.specs.Prelude.{ℕ, ◌+◌, Bool, true, false, Option, Some, None, List, slice_set, slice_index_or}
use Rattle.flow_core.specs.declared.lane.Own.{Own}
use Rattle.flow_core.specs.declared.lane.Own.TheVariants.{Free, Claimed, Booked, Loaded}
use Rattle.flow_core.specs.declared.lane.Work.{Work}
use Rattle.flow_core.specs.declared.lane.Work.TheVariants.{Idle, Popped, Stored, Emitted}
use Rattle.flow_core.specs.declared.lane.LaneState.{LaneState}

-- the lane's own unit, and the unit that it works
abbrev pub own_unit : Own → Option ℕ
own_unit Free = None
own_unit (Claimed unit) = Some unit
own_unit (Booked unit) = Some unit
own_unit (Loaded unit) = Some unit

abbrev pub work_unit : Work → Option ℕ
work_unit Idle = None
work_unit (Popped unit) = Some unit
work_unit (Stored unit) = Some unit
work_unit (Emitted unit) = Some unit

-- nothing in hand, and not over
abbrev pub fresh_lane : LaneState
fresh_lane = record { own = Free; work = Idle; over = false }

-- one lane changed
abbrev pub lane_at : List LaneState → ℕ → LaneState
lane_at lanes lane = slice_index_or lanes lane fresh_lane

abbrev pub with_own : List LaneState → ℕ → Own → List LaneState
with_own lanes lane own = slice_set lanes lane (record (lane_at lanes lane) { own = own })

abbrev pub with_work : List LaneState → ℕ → Work → List LaneState
with_work lanes lane work = slice_set lanes lane (record (lane_at lanes lane) { work = work })

abbrev pub with_over : List LaneState → ℕ → List LaneState
with_over lanes lane = slice_set lanes lane (record (lane_at lanes lane) { over = true })

-- how many events the units in a lane's hand are from done, and the lane from over
abbrev pub own_left : Own → ℕ
own_left Free = 0
own_left (Claimed unit) = 7
own_left (Booked unit) = 6
own_left (Loaded unit) = 5

abbrev pub work_left : Work → ℕ
work_left Idle = 0
work_left (Popped unit) = 3
work_left (Stored unit) = 2
work_left (Emitted unit) = 1

abbrev pub over_left : Bool → ℕ
over_left true = 0
over_left false = 1

abbrev pub lane_left : LaneState → ℕ
lane_left lane = own_left lane.own + work_left lane.work + over_left lane.over
