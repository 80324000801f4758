use Rattle.std.proofs.Common.{◌≡◌, map}
use Rattle.osm_elements.specs.Dense.{tag_lists}
use Rattle.osm_elements.specs.Runs.{check_of}
use Rattle.osm_elements.specs.Words.{seen_words}
use Rattle.osm_elements.proofs.runs.check_pairs.Given as goal

abbrev pub invariant-loop-left : goal.invariant-loop-left
invariant-loop-left l = check_of (tag_lists (seen_words l.strings) l.left l.rest) ≡ check_of (tag_lists (seen_words l.strings) l.nodes l.pairs)

abbrev pub decreases-loop-left : goal.decreases-loop-left
decreases-loop-left l = l.left
