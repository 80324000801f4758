-- How the unused ways are kept, and found by a node.
use Rattle.std.specs.Prelude.{◌≡◌, ℕ, ◌+◌, ◌-◌, ◌*◌, ◌/◌, ◌%◌, ◌^◌, ◌<◌, ◌≤◌, Bool, true, if◌then◌else◌, Option, Some, None, List, [], ◌∷◌, length, slice_index, slice_index_or, All, Contains, FitsSigned, pos, int_lt, unsigned_abs}
use Rattle.std.specs.Int.{w64}
use Rattle.std.specs.List.Sorted.{IsNonDecreasing}
use Rattle.tb_types.specs.declared.location.World.{World}
use Rattle.tb_types.specs.declared.element.OsmId.{OsmId}
use Rattle.ring_assembly.specs.declared.way.WayShape.{WayShape}
use Rattle.ring_assembly.specs.Chains.{Chain, is_closed, chain_of, fits, grown}

-- the ways that aren't marked as used
abbrev pub unused_of : List Bool → List WayShape → List WayShape
unused_of [] ways = []
unused_of (used ∷ marks) [] = []
unused_of (used ∷ marks) (way ∷ ways) = if used then unused_of marks ways else way ∷ unused_of marks ways

-- the chain that a way begins, and the ways that it leaves
abbrev pub grown_from : List WayShape → List Bool → WayShape → Chain × List WayShape
grown_from ways used way = grown (length (unused_of used ways)) (chain_of way) (unused_of used ways)

-- a chain by its parts, and its points where it closes
abbrev pub chain : OsmId → OsmId → List World → Chain
chain start end points = record { start = start; end = end; points = points }

abbrev pub closed_points : Chain → Option (List World)
closed_points chain = if is_closed chain then Some chain.points else None

-- a way is marked as used, or isn't there
abbrev pub IsUsed : List Bool → ℕ → Type 0
IsUsed used k = slice_index_or used k true ≡ true

-- marks stay
pub record StaysUsed (old new : List Bool) : Type 0 where
  pub at : (k : ℕ) → IsUsed old k → IsUsed new k

-- all ways below a number are used
pub record IsUsedBelow (n : ℕ) (used : List Bool) : Type 0 where
  pub at : (k : ℕ) → k < n → IsUsed used k

-- the number of a node: ids in ascending order from 0 on
unfoldable pub node_number : OsmId → ℕ
node_number node = if int_lt node.0 (pos 0) then 2 ^ 63 - unsigned_abs node.0 else 2 ^ 63 + unsigned_abs node.0

-- The number of an end of a way: of its node, and below that of the way.
abbrev pub end_number : OsmId → ℕ → ℕ
end_number node way = node_number node * 2 ^ 64 + way

-- a number is that of an end: its way has each node of that number at an end, and isn't a ring by itself
pub record IsEnd (ways : List WayShape) (n : ℕ) : Type 0 where
  pub within : n % 2 ^ 64 < length ways
  pub fitting : (node : OsmId) (d : WayShape) → FitsSigned w64 node.0 → node_number node ≡ n / 2 ^ 64 → fits node (slice_index_or ways (n % 2 ^ 64) d) ≡ true

-- the ends of the ways below a number are in a list
pub record HasEnds (ways : List WayShape) (below : ℕ) (ends : List ℕ) : Type 0 where
  pub at : (k : ℕ) (node : OsmId) (d : WayShape) → FitsSigned w64 node.0 → k < below → fits node (slice_index_or ways k d) ≡ true → Contains ends (end_number node k)

-- The ends in ascending order, and for each index one from it on, such that all ends from the first up to the second are of
-- used ways.
pub record IsIndexed (ways : List WayShape) (used : List Bool) (ends next : List ℕ) : Type 0 where
  pub marks : length used ≡ length ways
  pub indexes : length next ≡ length ends
  pub sorted : IsNonDecreasing ends
  pub sound : All (IsEnd ways) ends
  pub complete : HasEnds ways (length ways) ends
  pub forward : (s : ℕ) → s < length ends → s ≤ slice_index next s
  pub skipped : (s p : ℕ) → s ≤ p → p < slice_index next s → IsUsed used (slice_index ends p % 2 ^ 64)
