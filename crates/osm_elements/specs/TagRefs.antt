-- Tags as they lie in the table of strings.
use Rattle.std.specs.Prelude.{List, map}
use Rattle.osm_elements.specs.declared.element.TagRef.{TagRef}
use Rattle.osm_elements.specs.Tags.{Tag}

abbrev pub seen_tag : TagRef → Tag
seen_tag t = (t.key.now, t.value.now)

abbrev pub seen_tags : List TagRef → List Tag
seen_tags tags = map seen_tag tags
