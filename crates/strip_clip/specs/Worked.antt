-- Worked lines and shapes.
use Rattle.std.specs.Prelude.{◌≡◌, ℤ, pos, negsuc, Some, None, List, [], ◌∷◌}
use Rattle.tb_types.specs.declared.location.Grid.{Grid}
use Rattle.tb_types.specs.declared.tile.TileXyz.{TileXyz}
use Rattle.tb_types.specs.declared.shape.Shape.TheVariants.{Line, Area}
use Rattle.tb_types.specs.declared.shape.GridPolygon.{GridPolygon}
use Rattle.strip_clip.specs.declared.axis.Axis.TheVariants.{X}
use Rattle.strip_clip.specs.declared.strip.Strip.{Strip}
use Rattle.strip_clip.specs.Lines.{line_paths}
use Rattle.strip_clip.specs.Cuts.{cut_of}

abbrev pub at : ℤ → ℤ → Grid
at x y = record { x = x; y = y }

abbrev pub between : ℤ → ℤ → Strip
between lo hi = record { axis = X; lo = lo; hi = hi }

abbrev pub world : TileXyz
world = record { z = 0; x = 0; y = 0 }

-- the square with these bounds on both axes
abbrev pub square : ℤ → ℤ → List Grid
square lo hi = at lo lo ∷ at hi lo ∷ at hi hi ∷ at lo hi ∷ []

abbrev pub polygon : List Grid → List (List Grid) → GridPolygon
polygon outer inners = record { outer = outer; inners = inners }

-- the last tile of zoom 1
abbrev pub last_of_four : TileXyz
last_of_four = record { z = 1; x = 1; y = 1 }

-- a hole in the sense of an inner ring
abbrev pub hole : List Grid
hole = at (pos 10) (pos 10) ∷ at (pos 10) (pos 20) ∷ at (pos 20) (pos 20) ∷ at (pos 20) (pos 10) ∷ []

pub record WorkedCuts : Type 0 where
  pub through : line_paths (between (pos 4) (pos 6)) (at (pos 0) (pos 0) ∷ at (pos 10) (pos 5) ∷ []) ≡ (at (pos 4) (pos 2) ∷ at (pos 6) (pos 3) ∷ []) ∷ []
  pub half_up : line_paths (between (pos 1) (pos 9)) (at (pos 0) (pos 0) ∷ at (pos 2) (pos 1) ∷ []) ≡ (at (pos 1) (pos 1) ∷ at (pos 2) (pos 1) ∷ []) ∷ []
  pub half_below_0 : line_paths (between (pos 1) (pos 9)) (at (pos 0) (pos 0) ∷ at (pos 2) (negsuc 0) ∷ []) ≡ (at (pos 1) (pos 0) ∷ at (pos 2) (negsuc 0) ∷ []) ∷ []
  pub forth : line_paths (between (pos 0) (pos 10)) (at (negsuc 4) (pos 0) ∷ at (pos 15) (pos 10) ∷ []) ≡ (at (pos 0) (pos 3) ∷ at (pos 10) (pos 8) ∷ []) ∷ []
  pub back : line_paths (between (pos 0) (pos 10)) (at (pos 15) (pos 10) ∷ at (negsuc 4) (pos 0) ∷ []) ≡ (at (pos 10) (pos 8) ∷ at (pos 0) (pos 3) ∷ []) ∷ []
  pub covered : cut_of world 64 (Area (polygon (square (negsuc 99) (pos 5000)) [] ∷ [])) ≡ Some (Area (polygon (square (negsuc 63) (pos 4160)) [] ∷ []))
  pub filled : cut_of world 64 (Area (polygon (square (pos 1) (pos 9)) (square (pos 1) (pos 9) ∷ []) ∷ [])) ≡ None
  pub rows_too : cut_of world 64 (Line ((at (pos 100) (negsuc 199) ∷ at (pos 303) (pos 4400) ∷ []) ∷ [])) ≡ Some (Line ((at (pos 106) (negsuc 63) ∷ at (pos 292) (pos 4160) ∷ []) ∷ []))
  pub touch : cut_of last_of_four 64 (Line ((at (pos 0) (pos 0) ∷ at (pos 4032) (pos 4032) ∷ at (pos 0) (pos 5000) ∷ []) ∷ [])) ≡ None
  pub hole_stays : cut_of world 64 (Area (polygon (square (pos 0) (pos 100)) (square (pos 10) (pos 20) ∷ []) ∷ [])) ≡ Some (Area (polygon (square (pos 0) (pos 100)) (hole ∷ []) ∷ []))
