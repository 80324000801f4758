-- Ways joined end to end.
use Rattle.std.specs.Prelude.{ℕ, zero, suc, ◌-◌, Bool, not, ◌&&◌, ◌||◌, if◌then◌else◌, Option, Some, None, List, [], ◌∷◌, ◌++◌, length, reverse, take, drop}
use Rattle.std.specs.Ordering.{int_eq}
use Rattle.std.specs.List.{cons_option}
use Rattle.tb_types.specs.declared.location.World.{World}
use Rattle.tb_types.specs.declared.element.OsmId.{OsmId}
use Rattle.ring_assembly.specs.declared.way.WayShape.{WayShape}
use Rattle.ring_assembly.specs.Rings.{clean_ring}

-- two ids are of one node
abbrev pub same_node : OsmId → OsmId → Bool
same_node a b = int_eq a.0 b.0

-- Ways that were joined: the nodes where they begin and end, and their points, with each joint once.
pub record Chain : Type 0 where
  pub start : OsmId
  pub end : OsmId
  pub points : List World

abbrev pub is_closed : Chain → Bool
is_closed chain = same_node chain.start chain.end

-- a way alone
abbrev pub chain_of : WayShape → Chain
chain_of way = record { start = way.first; end = way.last; points = way.points }

-- a way that isn't a ring by itself has a node as its first or as its last one
abbrev pub fits : OsmId → WayShape → Bool
fits node way = not (same_node way.first way.last) && (same_node node way.first || same_node node way.last)

-- a chain with one more way, which is reversed where only its last node is the chain's end
abbrev pub extended : Chain → WayShape → Chain
extended chain way =
    if same_node chain.end way.first then record { start = chain.start; end = way.last; points = chain.points ++ drop 1 way.points }
    else record { start = chain.start; end = way.first; points = chain.points ++ drop 1 (reverse way.points) }

-- the first of some ways that fits a node, and the others
abbrev pub keeping : WayShape → Option (WayShape × List WayShape) → Option (WayShape × List WayShape)
keeping way None = None
keeping way (Some found) = Some (found.0, way ∷ found.1)

abbrev pub first_fit : OsmId → List WayShape → Option (WayShape × List WayShape)
first_fit node [] = None
first_fit node (way ∷ ways) = if fits node way then Some (way, ways) else keeping way (first_fit node ways)

-- what is done with a way that was found, or else what stays
abbrev pub if_found : {A : Type 0} → Option (WayShape × List WayShape) → A → (WayShape → List WayShape → A) → A
if_found None stays next = stays
if_found (Some found) stays next = next found.0 found.1

-- A chain and the unused ways, after the first way that fits its end was joined to it, as often as it isn't closed and
-- there is one. It grows at most as often as there are unused ways.
unfoldable pub grown : ℕ → Chain → List WayShape → Chain × List WayShape
grown zero chain unused = (chain, unused)
grown (suc most) chain unused =
    if is_closed chain then (chain, unused)
    else if_found (first_fit chain.end unused) (chain, unused) (λ way rest. grown most (extended chain way) rest)

-- the ring of a chain, if it closes: its last point is its first again
unfoldable pub ring_of : Chain → Option (List World)
ring_of chain = if is_closed chain then clean_ring (take (length chain.points - 1) chain.points) else None

-- The rings of unused ways: the first begins a chain, and what that leaves is treated likewise.
unfoldable pub rings_of : ℕ → List WayShape → List (List World)
rings_of zero unused = []
rings_of (suc most) [] = []
rings_of (suc most) (way ∷ unused) =
    let chain = grown (length unused) (chain_of way) unused in
    cons_option (ring_of chain.0) (rings_of most chain.1)

-- the rings of ways in member order
unfoldable pub assembled : List WayShape → List (List World)
assembled ways = rings_of (length ways) ways
