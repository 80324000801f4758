-- The texts that tags are made of.
use Rattle.std.specs.Prelude.{ℕ, List, ◌++◌, codes, decimal}
use Rattle.gen_world.specs.declared.word.Word.{Word}
use Rattle.gen_world.specs.declared.word.Word.TheVariants.{Amenity, Cafe, Bench, Building, Yes, Highway, Residential, Name, WayName, Kind, Multipolygon, Landuse, Forest}
use Rattle.gen_world.specs.declared.word.Tag.{Tag}

-- a tag: its key and its value
abbrev pub Pair : Type 0
Pair = List ℕ × List ℕ

-- how a word is written
unfoldable pub text_of : Word → List ℕ
text_of Amenity = codes "amenity"
text_of Cafe = codes "cafe"
text_of Bench = codes "bench"
text_of Building = codes "building"
text_of Yes = codes "yes"
text_of Highway = codes "highway"
text_of Residential = codes "residential"
text_of Name = codes "name"
text_of (WayName way) = codes "Way " ++ decimal way.id
text_of Kind = codes "type"
text_of Multipolygon = codes "multipolygon"
text_of Landuse = codes "landuse"
text_of Forest = codes "forest"

-- how a tag is written
abbrev pub pair_of : Tag → Pair
pair_of t = (text_of t.key, text_of t.value)
