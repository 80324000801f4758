use Rattle.std.proofs.Common.{◌-◌, ◌≤◌, length}
use Rattle.osm_elements.proofs.Looking.{Passed}
use Rattle.osm_elements.proofs.group.look.Given as goal

abbrev pub invariant-loop-field : goal.invariant-loop-field
invariant-loop-field l = record {
  within : l.at ≤ length l.group;
  passed : Passed l.group l.seen l.at;
}

abbrev pub decreases-loop-field : goal.decreases-loop-field
decreases-loop-field l = length l.group - l.at
