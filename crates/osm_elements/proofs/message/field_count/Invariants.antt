use Rattle.std.proofs.Common.{◌-◌, ◌≤◌, length}
use Rattle.osm_elements.proofs.message.field_count.Given as goal

abbrev pub invariant-loop-field : goal.invariant-loop-field
invariant-loop-field l = record {
  counted : l.count ≤ l.at;
  within : l.at ≤ length l.bytes;
}

abbrev pub decreases-loop-field : goal.decreases-loop-field
decreases-loop-field l = length l.bytes - l.at
