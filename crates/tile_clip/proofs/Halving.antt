-- The pieces of columns, and those of rows, rest on what touches their strip: so they are those of two halves.
use Rattle.std.proofs.Common.{◌≡◌, ℕ, zero, suc, Bool, false, true≢false, ◌+◌, ◌-◌, ◌*◌, ◌/◌, ◌<◌, ◌≤◌, ◌^◌, ◌⊎◌, inl, inr, List, [], ◌++◌, append-nil, pos, ◌+ℤ◌, ◌-ℤ◌, ◌≤ℤ◌, true, refl, sym, ap, ◌∙◌, arith}
use Rattle.std.proofs.lemmas.Int.{ints}
use Rattle.tb_types.specs.declared.tile.TileXyz.{TileXyz}
use Rattle.tb_types.specs.declared.shape.Shape.{Shape}
use Rattle.strip_clip.specs.declared.axis.Axis.{Axis}
use Rattle.strip_clip.specs.declared.axis.Axis.TheVariants.{X, Y}
use Rattle.strip_clip.specs.Cuts.{column, row, corner_of}
use Rattle.tile_clip.specs.declared.outline.Outline.{Outline}
use Rattle.tile_clip.specs.declared.outline.Halves.{Halves}
use Rattle.tile_clip.specs.Parts.{RestOnStrips}
use Rattle.tile_clip.specs.Pieces.{tile_at, with_tile, of_each, AreTakable}
use Rattle.tile_clip.specs.Outlines.{touching, is_nothing, row_cut, tile_cut, row_piece, tile_piece, column_pieces, strip_of, split}
use Rattle.tile_clip.proofs.Cutting.{IsPart, part, row-touching, column-touching, row-nothing, column-nothing}
use Rattle.tile_clip.proofs.Giving.{of_each-split, of_each-same, of_each-nothing}
use Rattle.tile_clip.proofs.Takable.{takable-front, takable-back, takable-same}

module _ (buffer : ℕ) (axis : Axis) (piece : Outline → ℕ → List (TileXyz × Shape)) where
  module _ (law : RestOnStrips buffer axis piece) (outline : Outline) where
    pub nothing : (first count : ℕ) → is_nothing outline ≡ true → of_each (piece outline) first count ≡ []
    nothing first count e = of_each-nothing (piece outline) first count (λ i a b. law.none outline i e)

    -- two halves
    half-same : (half : Outline) (first count : ℕ) → half ≡ touching (strip_of axis buffer first count) outline → of_each (piece outline) first count ≡ of_each (piece half) first count
    half-same half first count is = of_each-same (piece outline) (piece half) first count (λ i a b. sym (law.same outline half first count i is a b))

    two : (first count m n : ℕ) → count ≡ m + n → (before behind : Outline) → before ≡ touching (strip_of axis buffer first m) outline → behind ≡ touching (strip_of axis buffer (first + m) n) outline → of_each (piece outline) first count ≡ of_each (piece before) first m ++ of_each (piece behind) (first + m) n
    two first count m n sum before behind is is' =
        ap (of_each (piece outline) first) sum ∙ of_each-split (piece outline) first m n ∙ ap (λ xs. xs ++ of_each (piece outline) (first + m) n) (half-same before first m is) ∙ ap (λ xs. of_each (piece before) first m ++ xs) (half-same behind (first + m) n is')

    module _ (halves : Halves) (first count : ℕ) (are : halves ≡ split axis buffer first count outline) where
      pub halved : of_each (piece outline) first count ≡ of_each (piece halves.first) first (count / 2) ++ of_each (piece halves.second) (first + count / 2) (count - count / 2)
      halved = two first count (count / 2) (count - count / 2) (omega arith) halves.first halves.second (ap (λ h. h.first) are) (ap (λ h. h.second) are)

      pub first-takable : AreTakable (of_each (piece outline) first count) → AreTakable (of_each (piece halves.first) first (count / 2))
      first-takable all = takable-front (of_each (piece halves.first) first (count / 2)) (of_each (piece halves.second) (first + count / 2) (count - count / 2)) (takable-same _ _ halved all)

      pub second-takable : AreTakable (of_each (piece outline) first count) → AreTakable (of_each (piece halves.second) (first + count / 2) (count - count / 2))
      second-takable all = takable-back (of_each (piece halves.first) first (count / 2)) (of_each (piece halves.second) (first + count / 2) (count - count / 2)) (takable-same _ _ halved all)

    -- all of them are those that the outline reaches
    unreached : (i : ℕ) → is_nothing (touching (strip_of axis buffer i 1) outline) ≡ true → piece outline i ≡ []
    unreached i e = sym (law.same outline (touching (strip_of axis buffer i 1) outline) i 1 i refl (omega arith) (omega arith)) ∙ law.none (touching (strip_of axis buffer i 1) outline) i e

    pub reaches : (first count side : ℕ) → first + count ≤ side → ((i : ℕ) → i < side → (i < first) ⊎ (first + count ≤ i) → is_nothing (touching (strip_of axis buffer i 1) outline) ≡ true) → of_each (piece outline) 0 side ≡ of_each (piece outline) first count
    reaches first count side within others =
        let f = piece outline in
        let rest = side - (first + count) in
        let all : side ≡ first + (count + rest) = omega arith in
        let start : 0 + first ≡ first = omega arith in
        ap (of_each f 0) all ∙ of_each-split f 0 first (count + rest) ∙ ap (λ k. of_each f 0 first ++ of_each f k (count + rest)) start ∙ ap (λ xs. xs ++ of_each f first (count + rest)) (of_each-nothing f 0 first (λ i a b. unreached i (others i (omega arith) (inl (omega arith))))) ∙ of_each-split f first count rest ∙ ap (λ xs. of_each f first count ++ xs) (of_each-nothing f (first + count) rest (λ i a b. unreached i (others i (omega arith) (inr a)))) ∙ append-nil (of_each f first count)

-- where one is a step, what isn't a step is more than one
pub more-than-one : {step : Bool} (count : ℕ) → (count ≡ 1 → step ≡ true) → step ≡ false → 0 < count → 1 < count
more-than-one zero one not some = absurd (omega arith)
more-than-one (suc zero) one not some = absurd (true≢false (sym (one refl) ∙ not))
more-than-one (suc (suc count)) one not some = omega arith

-- the strip of some columns or rows has the strip of each of them
low_bound : (first y buffer : ℕ) → first ≤ y → (pos (4096 * first) -ℤ pos buffer) ≤ℤ (pos (4096 * y) -ℤ pos buffer)
low_bound first y buffer h = omega (arith, ints)

high_bound : (end y buffer : ℕ) → y < end → (pos (4096 * y) +ℤ pos (4096 + buffer)) ≤ℤ (pos (4096 * end) +ℤ pos buffer)
high_bound end y buffer h = omega (arith, ints)

module _ (z buffer : ℕ) where
  row_part : (x first count y : ℕ) → first ≤ y → y < first + count → IsPart (row (corner_of (tile_at z x y)) buffer) (strip_of Y buffer first count)
  row_part x first count y low high = part Y (pos (4096 * y) -ℤ pos buffer) (pos (4096 * y) +ℤ pos (4096 + buffer)) (pos (4096 * first) -ℤ pos buffer) (pos (4096 * (first + count)) +ℤ pos buffer) (low_bound first y buffer low) (high_bound (first + count) y buffer high)

  column_part : (first count x : ℕ) → first ≤ x → x < first + count → IsPart (column (corner_of (tile_at z x 0)) buffer) (strip_of X buffer first count)
  column_part first count x low high = part X (pos (4096 * x) -ℤ pos buffer) (pos (4096 * x) +ℤ pos (4096 + buffer)) (pos (4096 * first) -ℤ pos buffer) (pos (4096 * (first + count)) +ℤ pos buffer) (low_bound first x buffer low) (high_bound (first + count) x buffer high)

  -- rows
  pub rows-rest : (x : ℕ) → RestOnStrips buffer Y (row_piece z buffer x)
  rows-rest x = record {
    same = λ outline half first count y is low high. ap (with_tile (tile_at z x y)) (ap (row_cut (corner_of (tile_at z x y)) buffer) is ∙ row-touching (corner_of (tile_at z x y)) buffer (strip_of Y buffer first count) outline (row_part x first count y low high));
    none = λ outline y e. ap (with_tile (tile_at z x y)) (row-nothing (corner_of (tile_at z x y)) buffer (strip_of Y buffer 0 0) outline e);
  }

  -- columns
  tile-same : (outline half : Outline) (first count x y : ℕ) → half ≡ touching (strip_of X buffer first count) outline → first ≤ x → x < first + count → tile_piece z buffer half x y ≡ tile_piece z buffer outline x y
  tile-same outline half first count x y is low high =
      ap (with_tile (tile_at z x y)) (ap (tile_cut z buffer x y) is ∙ column-touching (corner_of (tile_at z x y)) buffer (strip_of X buffer first count) (column (corner_of (tile_at z x 0)) buffer) (column_part first count x low high) outline)

  tile-none : (outline : Outline) (x y : ℕ) → is_nothing outline ≡ true → tile_piece z buffer outline x y ≡ []
  tile-none outline x y e = ap (with_tile (tile_at z x y)) (column-nothing (corner_of (tile_at z x y)) buffer (strip_of Y buffer 0 0) (column (corner_of (tile_at z x 0)) buffer) outline e)

  pub columns-rest : RestOnStrips buffer X (column_pieces z buffer)
  columns-rest = record {
    same = λ outline half first count x is low high. of_each-same (tile_piece z buffer half x) (tile_piece z buffer outline x) 0 (2 ^ z) (λ y a b. tile-same outline half first count x y is low high);
    none = λ outline x e. of_each-nothing (tile_piece z buffer outline x) 0 (2 ^ z) (λ y a b. tile-none outline x y e);
  }
