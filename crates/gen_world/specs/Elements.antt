-- The elements of the extract: how many there are, and what each of them is.
use Rattle.std.specs.Prelude.{ℕ, ◌+◌, ◌-◌, ◌*◌, ◌/◌, ◌%◌, ◌==◌, if◌then◌else◌, ℤ, pos, ◌+ℤ◌, Option, None, Some, List, [], ◌∷◌, ◌++◌, map, codes, decimal}
use Rattle.gen_world.specs.declared.counts.Counts.{Counts}
use Rattle.gen_world.specs.declared.node.Node.{Node}
use Rattle.gen_world.specs.declared.node.Amenity.{Amenity}
use Rattle.gen_world.specs.declared.node.Amenity.TheVariants.{Cafe, Bench}
use Rattle.gen_world.specs.declared.way.Way.{Way}
use Rattle.gen_world.specs.declared.relation.Relation.{Relation}
use Rattle.gen_world.specs.Numbers.{draw, around}
use Rattle.gen_world.specs.Words.{Pair}

-- a hundredth are relations, a tenth are ways, and the rest are nodes
unfoldable pub counts_of : ℕ → Counts
counts_of count = record { nodes = count - count / 100 - count / 10; ways = count / 10; relations = count / 100 }

-- Nodes stand in clusters of ten. The first of a cluster is anywhere within 8 degrees of 0, each other one within a tenth of a degree of
-- the first. A node makes three draws: latitude, longitude and tag.
unfoldable pub coordinate : ℕ → ℕ → ℕ → ℤ
coordinate seed i axis =
    if i % 10 == 0 then around seed (3 * i + axis) 80000000
    else around seed (3 * (i - i % 10) + axis) 80000000 +ℤ around seed (3 * i + axis) 1000000

abbrev pub amenity_of : ℕ → Option Amenity
amenity_of kind = if kind == 0 then Some Cafe else if kind == 1 then Some Bench else None

-- the node behind the first i ones
unfoldable pub node_of : ℕ → ℕ → Node
node_of seed i = record { id = pos (i + 1); lat = coordinate seed i 1; lon = coordinate seed i 2; amenity = amenity_of (draw seed (3 * i + 3) 4) }

unfoldable pub amenity_tags : Option Amenity → List Pair
amenity_tags None = []
amenity_tags (Some Cafe) = (codes "amenity", codes "cafe") ∷ []
amenity_tags (Some Bench) = (codes "amenity", codes "bench") ∷ []

abbrev pub node_tags : Node → List Pair
node_tags n = amenity_tags n.amenity

-- the draws of the first ways: one for each, but none for the ways 3, 7, 11, ..
unfoldable pub way_draws : ℕ → ℕ
way_draws ways = ways - (ways + 1) / 4

-- The way of an id: its cluster is what was drawn last up to it, among all whole clusters.
unfoldable pub way_of : ℕ → Counts → ℕ → Way
way_of seed counts id = record { id = id; cluster = draw seed (3 * counts.nodes + way_draws id) (counts.nodes / 10) }

-- the nodes of a way, counted from 1 in its cluster
unfoldable pub corners_of : ℕ → List ℕ
corners_of id =
    if id % 4 == 0 then 1 ∷ 2 ∷ 3 ∷ 4 ∷ 5 ∷ 6 ∷ 1 ∷ []
    else if id % 4 == 1 then 1 ∷ 2 ∷ 3 ∷ 4 ∷ 5 ∷ 6 ∷ 7 ∷ 8 ∷ 9 ∷ 10 ∷ []
    else if id % 4 == 2 then 1 ∷ 2 ∷ 3 ∷ 4 ∷ []
    else 4 ∷ 5 ∷ 6 ∷ 1 ∷ []

abbrev pub refs_of : Way → List ℤ
refs_of w = map (λ corner. pos (10 * w.cluster + corner)) (corners_of w.id)

unfoldable pub street_tags : ℕ → List Pair
street_tags id = (codes "highway", codes "residential") ∷ (codes "name", codes "Way " ++ decimal id) ∷ []

unfoldable pub way_tags : Way → List Pair
way_tags w = if w.id % 4 == 0 then (codes "building", codes "yes") ∷ [] else if w.id % 4 == 1 then street_tags w.id else []

-- the relation of an id: an area is two ways of one cluster, which are drawn among all such pairs
unfoldable pub relation_of : ℕ → Counts → ℕ → Relation
relation_of seed counts id = record { id = id; area = draw seed (3 * counts.nodes + way_draws counts.ways + id) ((counts.ways + 1) / 4) }

abbrev pub members_of : Relation → List ℤ
members_of r = pos (4 * r.area + 2) ∷ pos (4 * r.area + 3) ∷ []

unfoldable pub relation_tags : Relation → List Pair
relation_tags r = (codes "type", codes "multipolygon") ∷ (codes "landuse", codes "forest") ∷ []
