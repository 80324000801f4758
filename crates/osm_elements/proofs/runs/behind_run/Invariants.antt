use Rattle.std.proofs.Common.{◌≡◌, length}
use Rattle.osm_elements.specs.Dense.{behind_run}
use Rattle.osm_elements.proofs.runs.behind_run.Given as goal

abbrev pub invariant-loop-key : goal.invariant-loop-key
invariant-loop-key l = behind_run l.rest ≡ behind_run l.pairs

abbrev pub decreases-loop-key : goal.decreases-loop-key
decreases-loop-key l = length l.rest
