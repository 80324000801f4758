use Rattle.std.proofs.Common.{◌≡◌, take}
use Rattle.osm_elements.specs.TagRefs.{seen_tags}
use Rattle.osm_elements.proofs.kept.copy_tags.Given as goal

abbrev pub invariant-loop-tag : goal.invariant-loop-tag
invariant-loop-tag l = l.pairs.items ≡ seen_tags (take l.tag-index l.tags)
