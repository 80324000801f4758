-- A worked line and a worked area, which lie on the grid of zoom 2.
use Rattle.std.specs.Prelude.{◌≡◌, ℕ, ℤ, pos, List, [], ◌∷◌}
use Rattle.tb_types.specs.declared.tile.TileXyz.{TileXyz}
use Rattle.tb_types.specs.declared.shape.Shape.{Shape}
use Rattle.tb_types.specs.declared.shape.Shape.TheVariants.{Line, Area}
use Rattle.strip_clip.specs.Worked.{at, square, polygon}
use Rattle.tile_clip.specs.Pieces.{tile_at, pieces_of}

-- a line along the middle of the first row of tiles, from its left end to its right end
abbrev pub middle_line : ℤ → Shape
middle_line end = Line ((at (pos 0) (pos 2048) ∷ at end (pos 2048) ∷ []) ∷ [])

-- a square area
abbrev pub square_area : ℤ → Shape
square_area side = Area (polygon (square (pos 0) side) [] ∷ [])

-- four tiles of a row, each with a line; 16 tiles by columns, each with an area
abbrev pub line_tile : ℕ → TileXyz × Shape
line_tile x = (tile_at 2 x 0, middle_line (pos 4096))

abbrev pub area_column : ℕ → List (TileXyz × Shape) → List (TileXyz × Shape)
area_column x more = (tile_at 2 x 0, square_area (pos 4096)) ∷ (tile_at 2 x 1, square_area (pos 4096)) ∷ (tile_at 2 x 2, square_area (pos 4096)) ∷ (tile_at 2 x 3, square_area (pos 4096)) ∷ more

pub record WorkedPieces : Type 0 where
  pub line : pieces_of 2 0 (middle_line (pos 16384)) ≡ line_tile 0 ∷ line_tile 1 ∷ line_tile 2 ∷ line_tile 3 ∷ []
  pub area : pieces_of 2 0 (square_area (pos 16384)) ≡ area_column 0 (area_column 1 (area_column 2 (area_column 3 [])))
