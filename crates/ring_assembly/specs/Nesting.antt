-- Polygons of rings.
use Rattle.std.specs.Prelude.{◌≡◌, ℕ, ◌+◌, ◌%◌, ◌<◌, Bool, false, not, ◌&&◌, ◌||◌, ◌==◌, nat_lt, if◌then◌else◌, Option, Some, None, List, [], map, length, slice_index, slice_index_or, count_by, filter, filter_map, find}
use Rattle.std.specs.List.{range_with_len}
use Rattle.tb_types.specs.declared.location.World.{World}
use Rattle.ring_assembly.specs.declared.polygon.Polygon.{Polygon}
use Rattle.ring_assembly.specs.Rings.{absolute_doubled_area}
use Rattle.ring_assembly.specs.Sides.{lies_on, is_inside}

-- One ring encloses another by a point of the second that lies on no edge of the first; where there is none, by their areas, and
-- of equal ones where it stands first.
abbrev pub decided_by : Option World → List World → List World → Bool → Bool
decided_by (Some p) outer inner first = is_inside outer p
decided_by None outer inner first = nat_lt (absolute_doubled_area inner) (absolute_doubled_area outer) || ((absolute_doubled_area inner == absolute_doubled_area outer) && first)

unfoldable pub encloses : List World → List World → Bool → Bool
encloses outer inner first = decided_by (find (λ p. not (lies_on outer p)) inner) outer inner first

-- the numbers of a list's items, from 0 on
abbrev pub numbers : {A : Type 0} → List A → List ℕ
numbers xs = range_with_len 0 (length xs)

abbrev pub ring_at : List (List World) → ℕ → List World
ring_at rings i = slice_index_or rings i []

-- ring i contains ring j
unfoldable pub contains : List (List World) → ℕ → ℕ → Bool
contains rings i j = not (i == j) && encloses (ring_at rings i) (ring_at rings j) (nat_lt i j)

-- how many rings contain ring j
unfoldable pub depth_of : List (List World) → ℕ → ℕ
depth_of rings j = count_by (λ i. contains rings i j) (numbers rings)

-- ring i contains ring j, and is by one less deep
unfoldable pub is_outer_of : List (List World) → ℕ → ℕ → Bool
is_outer_of rings i j = (depth_of rings i + 1 == depth_of rings j) && contains rings i j

-- the number of the outer ring of ring j where that is an inner ring, that is one of odd depth: the lowest, if there is one
unfoldable pub outer_of : List (List World) → ℕ → Option ℕ
outer_of rings j = if depth_of rings j % 2 == 0 then None else find (λ i. is_outer_of rings i j) (numbers rings)

abbrev pub is_number : Option ℕ → ℕ → Bool
is_number None i = false
is_number (Some number) i = number == i

-- the inner rings of the polygon whose outer ring is ring i
unfoldable pub inners_at : List (List World) → ℕ → List (List World)
inners_at rings i = map (ring_at rings) (filter (λ j. is_number (outer_of rings j) i) (numbers rings))

-- the polygon whose outer ring is ring i, if that is one
unfoldable pub polygon_at : List (List World) → ℕ → Option Polygon
polygon_at rings i =
    if depth_of rings i % 2 == 0 then Some (record { outer = ring_at rings i; inners = inners_at rings i })
    else None

-- the polygons of rings
unfoldable pub nested : List (List World) → List Polygon
nested rings = filter_map (polygon_at rings) (numbers rings)

-- depths and outer rings are those of the rings
pub record AreDepths (rings : List (List World)) (depths : List ℕ) : Type 0 where
  pub count : length depths ≡ length rings
  pub each : (k : ℕ) → k < length rings → slice_index depths k ≡ depth_of rings k

pub record AreOuters (rings : List (List World)) (outers : List (Option ℕ)) : Type 0 where
  pub count : length outers ≡ length rings
  pub each : (k : ℕ) (d : Option ℕ) → k < length rings → slice_index_or outers k d ≡ outer_of rings k
