-- The pieces of a shape are those of its outline, and can be taken.
use Rattle.std.proofs.Common.{◌≡◌, ℕ, ◌*◌, ◌<◌, ◌≤◌, ◌^◌, Option, Some, None, IfSome, sym, ap, subst, arith}
use Rattle.tb_types.specs.declared.shape.Shape.{Shape}
use Rattle.strip_clip.specs.Cuts.{cut_of}
use Rattle.strip_clip.specs.CleanCuts.{IsCleanCut, points_of}
use Rattle.strip_clip.proofs.CutLaws.{cut_law}
use Rattle.strip_clip.proofs.Counts.{few_points}
use Rattle.tile_clip.specs.Pieces.{tile_at, with_tile, of_each, pieces_of, IsPiece, AreTakable}
use Rattle.tile_clip.specs.Outlines.{outline_of, tile_cut, tile_piece, column_pieces}
use Rattle.tile_clip.proofs.Cutting.{tile_cut-cut}
use Rattle.tile_clip.proofs.Giving.{of_each-same}
use Rattle.tile_clip.proofs.Takable.{each-takable, takable-tile}

fits_case : (o : Option Shape) (n : ℕ) → n < 2 ^ 27 → IfSome o IsCleanCut → IfSome o (λ part. points_of part ≤ 4 * n) → IfSome o IsPiece
fits_case None n h left few = tt
fits_case (Some part) n h left few = record { clean = left; few = omega (arith, few) }

tile-fits : (z buffer : ℕ) (shape : Shape) (x y : ℕ) → buffer ≤ 256 → points_of shape < 2 ^ 27 → IfSome (tile_cut z buffer x y (outline_of shape)) IsPiece
tile-fits z buffer shape x y small h =
    subst (λ o. IfSome o IsPiece) (sym (tile_cut-cut z buffer x y shape)) (fits_case (cut_of (tile_at z x y) buffer shape) (points_of shape) h (cut_law (tile_at z x y) buffer shape small) (few_points (tile_at z x y) buffer shape))

pub all-takable : (z buffer : ℕ) (shape : Shape) → buffer ≤ 256 → points_of shape < 2 ^ 27 → AreTakable (of_each (column_pieces z buffer (outline_of shape)) 0 (2 ^ z))
all-takable z buffer shape small h =
    each-takable (column_pieces z buffer (outline_of shape)) 0 (2 ^ z) (λ x a b. each-takable (tile_piece z buffer (outline_of shape) x) 0 (2 ^ z) (λ y c d. takable-tile (tile_at z x y) (tile_cut z buffer x y (outline_of shape)) (tile-fits z buffer shape x y small h)))

pub pieces-outline : (z buffer : ℕ) (shape : Shape) → pieces_of z buffer shape ≡ of_each (column_pieces z buffer (outline_of shape)) 0 (2 ^ z)
unfolding pieces_of
pieces-outline z buffer shape =
    of_each-same (λ x. of_each (λ y. with_tile (tile_at z x y) (cut_of (tile_at z x y) buffer shape)) 0 (2 ^ z)) (column_pieces z buffer (outline_of shape)) 0 (2 ^ z) (λ x a b.
    of_each-same (λ y. with_tile (tile_at z x y) (cut_of (tile_at z x y) buffer shape)) (tile_piece z buffer (outline_of shape) x) 0 (2 ^ z) (λ y c d. ap (with_tile (tile_at z x y)) (sym (tile_cut-cut z buffer x y shape))))
