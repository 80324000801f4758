-- Worked cases that the definitions were checked on.
use Rattle.std.specs.Prelude.{◌≡◌, ℤ, pos, negsuc, [], ◌∷◌}
use Rattle.tb_types.specs.declared.location.Grid.{Grid}
use Rattle.tb_types.specs.Clean.{x_of, y_of, doubled_area}
use Rattle.tb_types.specs.Points.{distinct, distinct_ring}
use Rattle.tb_types.specs.Zigzag.{zigzag_of, unzigzag_of}

abbrev pub at : ℤ → ℤ → Grid
at x y = record { x = x; y = y }

pub record WorkedPoints : Type 0 where
  -- a path keeps its end where that is its start again, a ring doesn't
  pub path : distinct x_of y_of (at (pos 0) (pos 0) ∷ at (pos 0) (pos 0) ∷ at (pos 1) (pos 0) ∷ at (pos 0) (pos 0) ∷ []) ≡ at (pos 0) (pos 0) ∷ at (pos 1) (pos 0) ∷ at (pos 0) (pos 0) ∷ []
  pub ring : distinct_ring x_of y_of (at (pos 0) (pos 0) ∷ at (pos 0) (pos 0) ∷ at (pos 1) (pos 0) ∷ at (pos 0) (pos 0) ∷ []) ≡ at (pos 0) (pos 0) ∷ at (pos 1) (pos 0) ∷ []
  -- a ring of one point keeps it
  pub one_point : distinct_ring x_of y_of (at (pos 3) (pos 4) ∷ at (pos 3) (pos 4) ∷ []) ≡ at (pos 3) (pos 4) ∷ []
  pub no_point : distinct_ring x_of y_of [] ≡ []
  -- a unit square from x to y, and back
  pub square : doubled_area (at (pos 0) (pos 0) ∷ at (pos 1) (pos 0) ∷ at (pos 1) (pos 1) ∷ at (pos 0) (pos 1) ∷ []) ≡ pos 2
  pub square_back : doubled_area (at (pos 0) (pos 1) ∷ at (pos 1) (pos 1) ∷ at (pos 1) (pos 0) ∷ at (pos 0) (pos 0) ∷ []) ≡ negsuc 1
  pub zigzag : zigzag_of (negsuc 1) ≡ 3
  pub unzigzag : unzigzag_of 3 ≡ negsuc 1
