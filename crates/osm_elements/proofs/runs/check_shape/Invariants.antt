use Rattle.std.proofs.Common.{◌≡◌}
use Rattle.osm_elements.specs.Dense.{are_runs}
use Rattle.osm_elements.proofs.runs.check_shape.Given as goal

abbrev pub invariant-loop-left : goal.invariant-loop-left
invariant-loop-left l = are_runs l.left l.rest ≡ are_runs l.nodes l.pairs

abbrev pub decreases-loop-left : goal.decreases-loop-left
decreases-loop-left l = l.left
