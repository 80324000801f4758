use Rattle.std.proofs.Common.{◌-◌, ◌≤◌, length}
use Rattle.osm_elements.proofs.walk.body_count.Given as goal

abbrev pub invariant-loop-body : goal.invariant-loop-body
invariant-loop-body l = record {
  counted : l.count ≤ l.at;
  within : l.at ≤ length l.bytes;
}

abbrev pub decreases-loop-body : goal.decreases-loop-body
decreases-loop-body l = length l.bytes - l.at
