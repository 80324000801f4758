-- The blocks of data frames (osmformat.proto): the table of texts, and one group of elements of one kind.
use Rattle.std.specs.Prelude.{ℕ, ◌*◌, ◌==◌, if◌then◌else◌, ℤ, pos, ◌-ℤ◌, List, [], ◌∷◌, ◌++◌, map, flat_map, length, is_some}
use Rattle.std.specs.List.{list_any}
use Rattle.tb_types.specs.Zigzag.{zigzag_of}
use Rattle.tb_wire.specs.Varint.{encoding}
use Rattle.tb_wire.specs.Message.{len_text}
use Rattle.gen_world.specs.declared.node.Node.{Node}
use Rattle.gen_world.specs.declared.way.Way.{Way}
use Rattle.gen_world.specs.declared.relation.Relation.{Relation}
use Rattle.gen_world.specs.Words.{Pair}
use Rattle.gen_world.specs.Elements.{node_tags, way_tags, relation_tags, refs_of, members_of}
use Rattle.gen_world.specs.Tables.{uses_of, keys_in, values_in, places_in}

-- a field whose value is a varint
unfoldable pub number_text : ℕ → ℕ → List ℕ
number_text number n = encoding (number * 8) ++ encoding n

-- a packed list, which is left out where it is empty
unfoldable pub packed_text : ℕ → List ℕ → List ℕ
packed_text number numbers = if length numbers == 0 then [] else len_text number (flat_map encoding numbers)

-- what each number is more than the one before it, the first of them than `last`
abbrev pub steps_from : ℤ → List ℤ → List ℕ
steps_from last [] = []
steps_from last (z ∷ numbers) = zigzag_of (z -ℤ last) ∷ steps_from z numbers

-- a packed list coded by differences, which is left out where it is empty
unfoldable pub steps_text : ℕ → List ℤ → List ℕ
steps_text number numbers = if length numbers == 0 then [] else len_text number (flat_map encoding (steps_from (pos 0) numbers))

-- the tags of nodes: for each its places and a 0, or nothing at all where none of them has a tag
abbrev pub dense_tags : List (List ℕ) → List Node → List ℕ
dense_tags uses nodes =
    if list_any (λ n. is_some n.amenity) nodes then flat_map (λ n. places_in uses (node_tags n) ++ 0 ∷ []) nodes else []

unfoldable pub dense_text : List (List ℕ) → List Node → List ℕ
dense_text uses nodes =
    steps_text 1 (map (λ n. n.id) nodes) ++ steps_text 8 (map (λ n. n.lat) nodes) ++ steps_text 9 (map (λ n. n.lon) nodes)
    ++ packed_text 10 (dense_tags uses nodes)

-- id, keys and values
unfoldable pub tagged_text : List (List ℕ) → ℕ → List Pair → List ℕ
tagged_text uses id tags = number_text 1 id ++ packed_text 2 (keys_in uses tags) ++ packed_text 3 (values_in uses tags)

unfoldable pub way_text : List (List ℕ) → Way → List ℕ
way_text uses w = tagged_text uses w.id (way_tags w) ++ steps_text 8 (refs_of w)

-- each member is a way, and has the first of all roles, the empty text
unfoldable pub relation_text : List (List ℕ) → Relation → List ℕ
relation_text uses r =
    tagged_text uses r.id (relation_tags r) ++ packed_text 8 (map (λ _. 0) (members_of r)) ++ steps_text 9 (members_of r)
    ++ packed_text 10 (map (λ _. 1) (members_of r))

-- a block: the table, and the group
unfoldable pub block_text : List (List ℕ) → List ℕ → List ℕ
block_text uses group = len_text 1 (flat_map (len_text 1) ([] ∷ uses)) ++ len_text 2 group

unfoldable pub node_block : List Node → List ℕ
node_block nodes = let uses = uses_of (flat_map node_tags nodes) in block_text uses (len_text 2 (dense_text uses nodes))

unfoldable pub way_block : List Way → List ℕ
way_block ways = let uses = uses_of (flat_map way_tags ways) in block_text uses (flat_map (λ w. len_text 3 (way_text uses w)) ways)

unfoldable pub relation_block : List Relation → List ℕ
relation_block relations =
    let uses = uses_of (flat_map relation_tags relations) in
    block_text uses (flat_map (λ r. len_text 4 (relation_text uses r)) relations)
