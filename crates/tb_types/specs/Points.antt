-- Paths and rings of points, whatever kind of points: they are seen by their two coordinates.
use Rattle.std.specs.Prelude.{Bool, ◌&&◌, if◌then◌else◌, ℤ, pos, ◌+ℤ◌, ◌-ℤ◌, ◌*ℤ◌, List, [], ◌∷◌}
use Rattle.std.specs.Ordering.{int_eq}

module _ {P : Type 0} (x y : P → ℤ) where
  -- two points are one
  abbrev pub same : P → P → Bool
  same p q = int_eq (x p) (x q) && int_eq (y p) (y q)

  -- the points after p, without each that is the same as the one before it
  abbrev pub distinct_after : P → List P → List P
  distinct_after p [] = []
  distinct_after p (q ∷ rest) = if same p q then distinct_after p rest else q ∷ distinct_after q rest

  -- a path without repeated neighbours
  abbrev pub distinct : List P → List P
  distinct [] = []
  distinct (p ∷ rest) = p ∷ distinct_after p rest

  -- the points of a ring after its first, without the last one where that is the same as the first
  abbrev pub unclosed : P → List P → List P
  unclosed first [] = []
  unclosed first (p ∷ []) = if same first p then [] else p ∷ []
  unclosed first (p ∷ q ∷ rest) = p ∷ unclosed first (q ∷ rest)

  abbrev pub opened : List P → List P
  opened [] = []
  opened (p ∷ rest) = p ∷ unclosed p rest

  -- a ring without repeated neighbours, also round its end: its first point stays
  abbrev pub distinct_ring : List P → List P
  distinct_ring points = opened (distinct points)

  -- what an edge adds to a ring's doubled area
  unfoldable pub turn : P → P → ℤ
  turn p q = (x p *ℤ y q) -ℤ (x q *ℤ y p)

  -- what the edges along some points from p on, and then to the end, add
  abbrev pub area_along : P → List P → P → ℤ
  area_along p [] end = turn p end
  area_along p (q ∷ rest) end = turn p q +ℤ area_along q rest end

  -- the doubled area of a ring, by the surveyor's formula: positive where x turns to y
  abbrev pub doubled_area : List P → ℤ
  doubled_area [] = pos 0
  doubled_area (p ∷ rest) = area_along p rest p
