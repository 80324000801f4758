-- Features in tiles: the items that they have there, and the two ways to walk them.
use Rattle.std.specs.Prelude.{◌≡◌, ◌≢◌, ◌↔◌, ℕ, true, Bool, Option, IfSome, is_some, List, map, filter_map, flat_map, All, AllPairs, Contains}
use Rattle.std.specs.Cmp.{IsStrictWeakOrder}
use Rattle.std.specs.List.Sorted.{IsStrictlyIncreasing}
use Rattle.sorted_lists.specs.Sorting.{sorted_by}
use Rattle.sorted_lists.specs.Grouping.{group_of, ClassFirst}

-- the items in a tile, in the order of the features
abbrev pub items_in : {F T X : Type 0} → (F → T → Option X) → List F → T → List X
items_in item features t = filter_map (λ f. item f t) features

-- tile after tile, the items in it
abbrev pub by_tile : {F T X : Type 0} → (F → T → Option X) → List F → List T → List X
by_tile item features tiles = flat_map (λ t. items_in item features t) tiles

-- feature after feature, the items in the tiles that it reaches
abbrev pub by_feature : {F T X : Type 0} → (F → T → Option X) → (F → List T) → List F → List X
by_feature item reach features = flat_map (λ f. filter_map (λ t. item f t) (reach f)) features

-- the rows of a tile: its items in order
abbrev pub rows_in : {F T X : Type 0} → (X → X → Bool) → (F → T → Option X) → List F → T → List X
rows_in lt item features t = sorted_by lt (items_in item features t)

-- of all tiles, in turn, each that has a row, with its id and its rows
abbrev pub tiles_of : {F T X : Type 0} → (X → X → Bool) → (T → ℕ) → (F → T → Option X) → List F → List T → List (ℕ × List X)
tiles_of lt id item features tiles = filter_map (λ t. group_of (id t) (rows_in lt item features t)) tiles

-- Of these tiles, a list has just those that a feature reaches, each once, in any order.
pub record Reaches {F T X : Type 0} (item : F → T → Option X) (tiles : List T) (f : F) (reach : List T) : Type 0 where
  pub once : AllPairs (λ s t. s ≢ t) reach
  pub just : (t : T) → Contains reach t ↔ (Contains tiles t × (is_some (item f t) ≡ true))

-- Tiles in ascending order of their ids, items that name the id of their tile, and an order that puts lower ids first.
pub record AreTiles {F T X : Type 0} (lt : X → X → Bool) (class : X → ℕ) (id : T → ℕ) (item : F → T → Option X) (features : List F) (tiles : List T) : Type 0 where
  pub order : IsStrictWeakOrder lt
  pub class_first : ClassFirst class lt
  pub ascend : IsStrictlyIncreasing (map id tiles)
  pub own : All (λ t. All (λ f. IfSome (item f t) (λ x. class x ≡ id t)) features) tiles
