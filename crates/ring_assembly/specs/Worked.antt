-- Worked rings and polygons.
use Rattle.std.specs.Prelude.{◌≡◌, ℕ, ◌+◌, List, [], ◌∷◌, pos}
use Rattle.tb_types.specs.declared.location.World.{World}
use Rattle.ring_assembly.specs.declared.way.WayShape.{WayShape}
use Rattle.ring_assembly.specs.declared.polygon.Polygon.{Polygon}
use Rattle.ring_assembly.specs.Chains.{assembled}
use Rattle.ring_assembly.specs.Nesting.{nested}

abbrev pub at : ℕ → ℕ → World
at x y = record { x = x; y = y }

-- a way by the ids of its first and last node and its points
abbrev pub way : ℕ → ℕ → List World → WayShape
way first last points = record { first = record { 0 = pos first }; last = record { 0 = pos last }; points = points }

abbrev pub polygon : List World → List (List World) → Polygon
polygon outer inners = record { outer = outer; inners = inners }

-- a square by its upper left corner and its side
abbrev pub square : ℕ → ℕ → ℕ → List World
square x y side = at x y ∷ at (x + side) y ∷ at (x + side) (y + side) ∷ at x (y + side) ∷ []

-- two ways and a reversed one close, a way closes by itself, and one that closes with none goes
abbrev pub shared_ways : List WayShape
shared_ways =
    way 1 2 (at 0 0 ∷ at 100 0 ∷ []) ∷ way 3 2 (at 100 100 ∷ at 100 0 ∷ []) ∷ way 3 1 (at 100 100 ∷ at 0 100 ∷ at 0 0 ∷ [])
    ∷ way 5 5 (at 20 20 ∷ at 40 20 ∷ at 40 40 ∷ at 20 40 ∷ at 20 20 ∷ []) ∷ way 9 10 (at 200 200 ∷ at 300 200 ∷ []) ∷ []

-- four ways meet in one node, and the lowest that fits is taken
abbrev pub crossing_ways : List WayShape
crossing_ways =
    way 1 3 (at 0 0 ∷ at 10 0 ∷ at 10 10 ∷ []) ∷ way 1 6 (at 0 0 ∷ at 0 90 ∷ at 90 90 ∷ []) ∷ way 3 1 (at 10 10 ∷ at 0 10 ∷ at 0 0 ∷ [])
    ∷ way 6 1 (at 90 90 ∷ at 0 0 ∷ []) ∷ []

-- one way twice comes back on itself, and has no area
abbrev pub twice : List WayShape
twice = way 1 3 (at 0 0 ∷ at 10 0 ∷ at 10 10 ∷ []) ∷ way 1 3 (at 0 0 ∷ at 10 0 ∷ at 10 10 ∷ []) ∷ []

-- a closed way is no part of a chain through its node, and ways of no or one point add nothing
abbrev pub closed_in_chain : List WayShape
closed_in_chain =
    way 1 2 (at 0 0 ∷ at 10 0 ∷ []) ∷ way 2 2 (at 10 0 ∷ at 20 0 ∷ at 20 5 ∷ at 10 0 ∷ []) ∷ way 2 3 [] ∷ way 7 7 [] ∷ way 4 3 (at 10 10 ∷ [])
    ∷ way 4 1 (at 10 10 ∷ at 10 10 ∷ at 0 10 ∷ at 0 0 ∷ []) ∷ []

pub record WorkedRings : Type 0 where
  pub shared : assembled shared_ways ≡ (at 0 0 ∷ at 100 0 ∷ at 100 100 ∷ at 0 100 ∷ []) ∷ square 20 20 20 ∷ []
  pub crossing : assembled crossing_ways ≡ square 0 0 10 ∷ (at 0 0 ∷ at 0 90 ∷ at 90 90 ∷ []) ∷ []
  pub there_and_back : assembled twice ≡ []
  pub closed_way_in_chain : assembled closed_in_chain ≡ (at 0 0 ∷ at 10 0 ∷ at 10 10 ∷ at 0 10 ∷ []) ∷ (at 10 0 ∷ at 20 0 ∷ at 20 5 ∷ []) ∷ []

pub record WorkedPolygons : Type 0 where
  pub hole : nested (square 0 0 100 ∷ square 20 20 20 ∷ []) ≡ polygon (square 0 0 100) (square 20 20 20 ∷ []) ∷ []
  pub equal : nested (square 0 0 10 ∷ square 0 0 10 ∷ []) ≡ polygon (square 0 0 10) (square 0 0 10 ∷ []) ∷ []
  pub four : nested (square 3 3 1 ∷ square 0 0 9 ∷ square 1 1 7 ∷ square 2 2 5 ∷ []) ≡ polygon (square 0 0 9) (square 1 1 7 ∷ []) ∷ polygon (square 2 2 5) (square 3 3 1 ∷ []) ∷ []
  pub touching : nested (square 0 0 10 ∷ square 0 0 5 ∷ []) ≡ polygon (square 0 0 10) (square 0 0 5 ∷ []) ∷ []
  pub beside : nested (square 0 0 10 ∷ square 10 0 10 ∷ []) ≡ polygon (square 0 0 10) [] ∷ polygon (square 10 0 10) [] ∷ []
  -- a ring of odd depth in no ring of one less depth goes
  pub dropped : nested (square 0 0 10 ∷ square 5 5 25 ∷ square 20 20 5 ∷ []) ≡ polygon (square 0 0 10) (square 5 5 25 ∷ []) ∷ []
  pub none : nested [] ≡ []
