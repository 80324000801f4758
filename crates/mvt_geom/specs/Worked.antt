-- Worked shapes and integers that the definitions were checked on.
use Rattle.std.specs.Prelude.{◌≡◌, ℤ, pos, negsuc, true, false, None, Some, List, [], ◌∷◌}
use Rattle.tb_types.specs.declared.location.Grid.{Grid}
use Rattle.tb_types.specs.declared.shape.Shape.{Shape}
use Rattle.tb_types.specs.declared.shape.Shape.TheVariants.{Point, Line, Area}
use Rattle.mvt_geom.specs.Commands.{has_form}
use Rattle.mvt_geom.specs.Rings.{polygon}
use Rattle.mvt_geom.specs.Geometry.{geometry_of, origin, points_of}
use Rattle.mvt_geom.specs.Text.{ints_of}

abbrev pub at : ℤ → ℤ → Grid
at x y = record { x = x; y = y }

-- the square with these bounds on both axes, with positive area, and with negative area
abbrev pub square : ℤ → ℤ → List Grid
square lo hi = at lo lo ∷ at hi lo ∷ at hi hi ∷ at lo hi ∷ []

abbrev pub hole : ℤ → ℤ → List Grid
hole lo hi = at lo lo ∷ at lo hi ∷ at hi hi ∷ at hi lo ∷ []

-- an area that covers a tile and its buffer of 64; a square with a hole and one beside it; a street
abbrev pub cover : Shape
cover = Area (polygon (square (negsuc 63) (pos 4160)) [] ∷ [])

abbrev pub two_squares : Shape
two_squares = Area (polygon (square (pos 0) (pos 9)) (hole (pos 2) (pos 5) ∷ []) ∷ polygon (square (pos 10) (pos 12)) [] ∷ [])

abbrev pub street : Shape
street = Line ((at (pos 3072) (pos 2048) ∷ at (pos 2560) (pos 2048) ∷ []) ∷ [])

pub record WorkedGeometry : Type 0 where
  pub a_point : ints_of (Point (at (pos 3072) (pos 1473))) ≡ 9 ∷ 6144 ∷ 2946 ∷ []
  pub a_street : ints_of street ≡ 9 ∷ 6144 ∷ 4096 ∷ 10 ∷ 1023 ∷ 0 ∷ []
  pub a_cover : ints_of cover ≡ 9 ∷ 127 ∷ 127 ∷ 26 ∷ 8448 ∷ 0 ∷ 0 ∷ 8448 ∷ 8447 ∷ 0 ∷ 15 ∷ []
  -- ClosePath leaves the cursor at the last point of the ring
  pub squares : ints_of two_squares ≡
      9 ∷ 0 ∷ 0 ∷ 26 ∷ 18 ∷ 0 ∷ 0 ∷ 18 ∷ 17 ∷ 0 ∷ 15 ∷ 9 ∷ 4 ∷ 13 ∷ 26 ∷ 0 ∷ 6 ∷ 6 ∷ 0 ∷ 0 ∷ 5 ∷ 15 ∷ 9 ∷ 10 ∷ 16 ∷ 26 ∷ 4 ∷ 0 ∷ 0 ∷ 4 ∷ 3 ∷ 0 ∷ 15 ∷ []
  -- the coordinates' ends, one step apart
  pub far_apart : ints_of (Line ((at (negsuc 2147483647) (pos 0) ∷ at (negsuc 0) (pos 2147483647) ∷ []) ∷ [])) ≡ 9 ∷ 4294967295 ∷ 0 ∷ 10 ∷ 4294967294 ∷ 4294967294 ∷ []
  pub a_street_again : geometry_of 2 (9 ∷ 6144 ∷ 4096 ∷ 10 ∷ 1023 ∷ 0 ∷ []) ≡ Some street
  pub a_cover_again : geometry_of 3 (9 ∷ 127 ∷ 127 ∷ 26 ∷ 8448 ∷ 0 ∷ 0 ∷ 8448 ∷ 8447 ∷ 0 ∷ 15 ∷ []) ≡ Some cover
  pub squares_again : geometry_of 3 (ints_of two_squares) ≡ Some two_squares
  -- an inner ring belongs to the polygon before it, here the second
  pub second_hole : geometry_of 3 (9 ∷ 20 ∷ 0 ∷ 18 ∷ 2 ∷ 0 ∷ 0 ∷ 2 ∷ 15 ∷ 9 ∷ 21 ∷ 1 ∷ 26 ∷ 18 ∷ 0 ∷ 0 ∷ 18 ∷ 17 ∷ 0 ∷ 15 ∷ 9 ∷ 4 ∷ 13 ∷ 26 ∷ 0 ∷ 6 ∷ 6 ∷ 0 ∷ 0 ∷ 5 ∷ 15 ∷ [])
      ≡ Some (Area (polygon (at (pos 10) (pos 0) ∷ at (pos 11) (pos 0) ∷ at (pos 11) (pos 1) ∷ []) [] ∷ polygon (square (pos 0) (pos 9)) (hole (pos 2) (pos 5) ∷ []) ∷ []))
  -- a parameter alone is no point, and a command of no points is none
  pub half_a_point : points_of origin (2 ∷ 2 ∷ 2 ∷ []) ≡ None
  pub no_move : has_form 1 (1 ∷ []) ≡ false
  pub short_move : has_form 1 (17 ∷ 2 ∷ 2 ∷ []) ≡ false
  pub long_move : has_form 1 (9 ∷ 2 ∷ 2 ∷ 2 ∷ []) ≡ false
  -- several points have the form, and are no shape
  pub points : has_form 1 (17 ∷ 2 ∷ 2 ∷ 2 ∷ 2 ∷ []) ≡ true
  pub no_points : geometry_of 1 (17 ∷ 2 ∷ 2 ∷ 2 ∷ 2 ∷ []) ≡ None
  -- a sum that leaves 32 bits, likewise
  pub far : has_form 2 (9 ∷ 4294967294 ∷ 0 ∷ 10 ∷ 2 ∷ 0 ∷ []) ≡ true
  pub too_far : geometry_of 2 (9 ∷ 4294967294 ∷ 0 ∷ 10 ∷ 2 ∷ 0 ∷ []) ≡ None
  pub far_below : geometry_of 2 (9 ∷ 0 ∷ 4294967295 ∷ 10 ∷ 0 ∷ 1 ∷ []) ≡ None
  -- a ring without area, likewise, and one of negative area that is the first
  pub flat : has_form 3 (9 ∷ 0 ∷ 0 ∷ 18 ∷ 2 ∷ 2 ∷ 2 ∷ 2 ∷ 15 ∷ []) ≡ true
  pub no_area : geometry_of 3 (9 ∷ 0 ∷ 0 ∷ 18 ∷ 2 ∷ 2 ∷ 2 ∷ 2 ∷ 15 ∷ []) ≡ None
  pub inner_first : geometry_of 3 (9 ∷ 0 ∷ 0 ∷ 18 ∷ 0 ∷ 2 ∷ 2 ∷ 0 ∷ 15 ∷ []) ≡ None
  -- a ring without ClosePath, a path of one point, integers behind a path, no integers
  pub not_closed : has_form 3 (9 ∷ 0 ∷ 0 ∷ 18 ∷ 2 ∷ 0 ∷ 0 ∷ 2 ∷ []) ≡ false
  pub one_point : has_form 2 (9 ∷ 0 ∷ 0 ∷ []) ≡ false
  pub more_behind : has_form 2 (9 ∷ 0 ∷ 0 ∷ 10 ∷ 2 ∷ 0 ∷ 9 ∷ []) ≡ false
  pub no_line : has_form 2 [] ≡ false
  pub two_points : has_form 3 (9 ∷ 0 ∷ 0 ∷ 10 ∷ 2 ∷ 2 ∷ 15 ∷ []) ≡ false
  pub other_close : has_form 3 (9 ∷ 0 ∷ 0 ∷ 18 ∷ 2 ∷ 0 ∷ 0 ∷ 2 ∷ 23 ∷ []) ≡ false
  pub unknown : has_form 0 (1 ∷ 2 ∷ []) ≡ true
  pub no_type : has_form 4 [] ≡ false
