-- Pieces that a taker can be given.
use Rattle.std.proofs.Common.{◌≡◌, ℕ, zero, suc, ◌+◌, ◌<◌, ◌≤◌, Option, None, Some, IfSome, List, [], ◌∷◌, ◌++◌, subst, arith}
use Rattle.std.proofs.lemmas.List.Elements.{All-nil, All-cons, All-head, All-tail, All-append}
use Rattle.tb_types.specs.declared.tile.TileXyz.{TileXyz}
use Rattle.tb_types.specs.declared.shape.Shape.{Shape}
use Rattle.tile_clip.specs.Pieces.{with_tile, of_each, IsPiece, AreTakable}

abbrev IsTakable : TileXyz × Shape → Type 0
IsTakable given = IsPiece given.1

pub takable-same : (xs ys : List (TileXyz × Shape)) → xs ≡ ys → AreTakable xs → AreTakable ys
takable-same xs ys e all = subst (λ zs. AreTakable zs) e all

pub takable-front : (xs ys : List (TileXyz × Shape)) → AreTakable (xs ++ ys) → AreTakable xs
takable-front [] ys all = All-nil IsTakable
takable-front (x ∷ xs) ys all = All-cons IsTakable x xs (All-head IsTakable x (xs ++ ys) all) (takable-front xs ys (All-tail IsTakable x (xs ++ ys) all))

pub takable-back : (xs ys : List (TileXyz × Shape)) → AreTakable (xs ++ ys) → AreTakable ys
takable-back [] ys all = all
takable-back (x ∷ xs) ys all = takable-back xs ys (All-tail IsTakable x (xs ++ ys) all)

-- the piece of a tile
pub takable-tile : (tile : TileXyz) (piece : Option Shape) → IfSome piece IsPiece → AreTakable (with_tile tile piece)
takable-tile tile None h = All-nil IsTakable
takable-tile tile (Some piece) h = All-cons IsTakable (tile, piece) [] h (All-nil IsTakable)

pub tile-takable : (tile : TileXyz) (piece : Option Shape) → AreTakable (with_tile tile piece) → IfSome piece IsPiece
tile-takable tile None all = tt
tile-takable tile (Some piece) all = All-head IsTakable (tile, piece) [] all

-- those of each of some numbers
pub each-takable : (f : ℕ → List (TileXyz × Shape)) (first count : ℕ) → ((i : ℕ) → first ≤ i → i < first + count → AreTakable (f i)) → AreTakable (of_each f first count)
each-takable f first zero all = All-nil IsTakable
each-takable f first (suc count) all = All-append IsTakable (f first) (of_each f (first + 1) count) (all first (omega arith) (omega arith)) (each-takable f (first + 1) count (λ i a b. all i (omega arith) (omega arith)))

-- and that of the first of them
pub first-is-takable : (f : ℕ → List (TileXyz × Shape)) (first count : ℕ) → 0 < count → AreTakable (of_each f first count) → AreTakable (f first)
first-is-takable f first zero some all = absurd (omega arith)
first-is-takable f first (suc count) some all = takable-front (f first) (of_each f (first + 1) count) all
