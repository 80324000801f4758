use Rattle.std.proofs.Common.{◌≡◌, [], length, map}
use Rattle.osm_elements.specs.Runs.{run_check}
use Rattle.osm_elements.specs.Words.{seen_words}
use Rattle.osm_elements.proofs.runs.check_run.Given as goal

abbrev pub invariant-loop-key : goal.invariant-loop-key
invariant-loop-key l = run_check (seen_words l.strings) [] l.rest ≡ run_check (seen_words l.strings) [] l.pairs

abbrev pub decreases-loop-key : goal.decreases-loop-key
decreases-loop-key l = length l.rest
