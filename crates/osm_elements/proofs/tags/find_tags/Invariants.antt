use Rattle.std.proofs.Common.{◌≡◌, [], length, map, drop}
use Rattle.osm_elements.specs.Tags.{tags_from}
use Rattle.osm_elements.specs.TagRefs.{seen_tags}
use Rattle.osm_elements.specs.Words.{seen_words}
use Rattle.osm_elements.proofs.tags.find_tags.Given as goal

abbrev pub invariant-loop-i : goal.invariant-loop-i
invariant-loop-i l = record {
  same : length l.keys ≡ length l.values;
  told : tags_from (seen_words l.strings) (seen_tags l.tags.tags.items) (drop l.i l.keys) (drop l.i l.values) ≡ tags_from (seen_words l.strings) [] l.keys l.values;
}
