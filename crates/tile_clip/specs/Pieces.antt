-- The tiles of a zoom that a shape is cut into, with its piece in each.
use Rattle.std.specs.Prelude.{ℕ, zero, suc, ◌+◌, ◌^◌, ◌<◌, Option, None, Some, List, [], ◌∷◌, ◌++◌, All}
use Rattle.tb_types.specs.declared.tile.TileXyz.{TileXyz}
use Rattle.tb_types.specs.declared.shape.Shape.{Shape}
use Rattle.strip_clip.specs.Cuts.{cut_of}
use Rattle.strip_clip.specs.CleanCuts.{IsCleanCut, points_of}

-- the tile of a column and a row
abbrev pub tile_at : ℕ → ℕ → ℕ → TileXyz
tile_at z x y = record { z = z; x = x; y = y }

-- what f gives of each of so many numbers from a first one on, in order
abbrev pub of_each : {A : Type 0} → (ℕ → List A) → ℕ → ℕ → List A
of_each f first zero = []
of_each f first (suc count) = f first ++ of_each f (first + 1) count

-- a tile with its piece, unless it has none
abbrev pub with_tile : TileXyz → Option Shape → List (TileXyz × Shape)
with_tile tile None = []
with_tile tile (Some piece) = (tile, piece) ∷ []

-- by columns, and in them by rows: each tile of a zoom where the cut isn't empty, with that cut
unfoldable pub pieces_of : ℕ → ℕ → Shape → List (TileXyz × Shape)
pieces_of z buffer shape = of_each (λ x. of_each (λ y. with_tile (tile_at z x y) (cut_of (tile_at z x y) buffer shape)) 0 (2 ^ z)) 0 (2 ^ z)

-- a piece that a taker can be given
pub record IsPiece (piece : Shape) : Type 0 where
  pub clean : IsCleanCut piece
  pub few : points_of piece < 2 ^ 29

abbrev pub AreTakable : List (TileXyz × Shape) → Type 0
AreTakable pieces = All (λ given. IsPiece given.1) pieces
