-- The laws by which items that were walked feature after feature, put in order and grouped, are the rows of each tile.
use Rattle.std.specs.Prelude.{◌≡◌, ◌≢◌, ℕ, Bool, Option, IfSome, List, All, AllPairs}
use Rattle.std.specs.List.Sorted.{IsSortedBy, IsPermutation}
use Rattle.sorted_lists.specs.Sorting.{sorted_by, KeysDiffer, TiesAreEqual}
use Rattle.sorted_lists.specs.Grouping.{grouped_by, AreGroups}
use Rattle.tile_model.specs.Walks.{by_tile, by_feature, tiles_of, Reaches, AreTiles}

pub record TileLaws (F T X : Type 0) : Type 0 where
  -- both walks meet the same items, in whatever order features are met
  pub walked : (item : F → T → Option X) (features met : List F) (tiles : List T) (reach : F → List T) → AllPairs (λ s t. s ≢ t) tiles → IsPermutation features met
      → All (λ f. Reaches item tiles f (reach f)) features → IsPermutation (by_tile item features tiles) (by_feature item reach met)
  -- where ties are equal, any list in order with these items has the tiles as its groups,
  pub grouped : (lt : X → X → Bool) (class : X → ℕ) (id : T → ℕ) (item : F → T → Option X) (features : List F) (tiles : List T) (ys : List X) → AreTiles lt class id item features tiles
      → TiesAreEqual lt (by_tile item features tiles) → IsPermutation (by_tile item features tiles) ys → IsSortedBy lt ys
      → grouped_by class ys ≡ tiles_of lt id item features tiles
  -- so has a list that holds them in any order, as runs one behind another, once it is put in order,
  pub sorted : (lt : X → X → Bool) (class : X → ℕ) (id : T → ℕ) (item : F → T → Option X) (features : List F) (tiles : List T) (ys : List X) → AreTiles lt class id item features tiles
      → TiesAreEqual lt (by_tile item features tiles) → IsPermutation (by_tile item features tiles) ys
      → grouped_by class (sorted_by lt ys) ≡ tiles_of lt id item features tiles
  -- and groups that are told one by one are the tiles
  pub told : (lt : X → X → Bool) (class : X → ℕ) (id : T → ℕ) (item : F → T → Option X) (features : List F) (tiles : List T) (ys : List X) (groups : List (ℕ × List X))
      → AreTiles lt class id item features tiles
      → TiesAreEqual lt (by_tile item features tiles) → IsPermutation (by_tile item features tiles) ys → AreGroups lt class ys groups
      → groups ≡ tiles_of lt id item features tiles
  -- the tiles themselves can be told so
  pub tells : (lt : X → X → Bool) (class : X → ℕ) (id : T → ℕ) (item : F → T → Option X) (features : List F) (tiles : List T) → AreTiles lt class id item features tiles
      → AreGroups lt class (by_tile item features tiles) (tiles_of lt id item features tiles)

-- Keys of different items differ where the names of features do: a key tells the tile and the feature's name.
pub record DifferLaws (F T X K N : Type 0) : Type 0 where
  pub differ : (key : X → K) (name : X → N) (tag : F → N) (lt : X → X → Bool) (class : X → ℕ) (id : T → ℕ) (item : F → T → Option X) (features : List F) (tiles : List T)
      → ((x y : X) → key x ≡ key y → (class x ≡ class y) × (name x ≡ name y)) → AreTiles lt class id item features tiles
      → All (λ t. All (λ f. IfSome (item f t) (λ x. name x ≡ tag f)) features) tiles → KeysDiffer tag features
      → KeysDiffer key (by_tile item features tiles)
