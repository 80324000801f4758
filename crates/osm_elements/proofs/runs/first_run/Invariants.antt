use Rattle.std.proofs.Common.{◌≡◌, [], length, map}
use Rattle.osm_elements.specs.Dense.{first_run}
use Rattle.osm_elements.specs.TagRefs.{seen_tags}
use Rattle.osm_elements.specs.Words.{seen_words}
use Rattle.osm_elements.proofs.runs.first_run.Given as goal

abbrev pub invariant-loop-key : goal.invariant-loop-key
invariant-loop-key l = first_run (seen_words l.strings) (seen_tags l.tags.tags.items) l.rest ≡ first_run (seen_words l.strings) [] l.pairs

abbrev pub decreases-loop-key : goal.decreases-loop-key
decreases-loop-key l = length l.rest
