use Rattle.std.proofs.Common.{◌≡◌, drop}
use Rattle.osm_elements.specs.Tags.{has_key}
use Rattle.osm_elements.specs.TagRefs.{seen_tags}
use Rattle.osm_elements.proofs.tag_list.has_key.Given as goal

abbrev pub invariant-loop-tag : goal.invariant-loop-tag
invariant-loop-tag l = has_key l.key (seen_tags (drop l.tag-index l.tags)) ≡ has_key l.key (seen_tags l.tags)
