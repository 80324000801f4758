use Rattle.std.proofs.Common.{◌≡◌, replicate}
use Rattle.flow_core.specs.Lanes.{fresh_lane}
use Rattle.flow_core.proofs.lane.fresh_lanes.Given as goal

abbrev pub invariant-loop-lane : goal.invariant-loop-lane
invariant-loop-lane l = l.lanes.items ≡ replicate l._lane fresh_lane
