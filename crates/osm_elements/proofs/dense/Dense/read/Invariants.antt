use Rattle.std.proofs.Common.{◌-◌, ◌≤◌, length}
use Rattle.osm_elements.specs.DenseLists.{Four, Hold}
use Rattle.osm_elements.proofs.DenseGroups.{Told}
use Rattle.osm_elements.proofs.dense.Dense.read.Given as goal

abbrev pub invariant-loop-message : goal.invariant-loop-message
invariant-loop-message l = record {
  within : l.at ≤ length l.group;
  told : (read : Four) × Told l.group read l.at × Hold read l.self;
}

abbrev pub decreases-loop-message : goal.decreases-loop-message
decreases-loop-message l = length l.group - l.at
