-- What is true of elements that are made into others, as items into their bytes, before or after they are put in order or grouped.
use Rattle.std.specs.Prelude.{◌≡◌, ℕ, Bool, List, map}
use Rattle.sorted_lists.specs.Sorting.{sorted_by}
use Rattle.sorted_lists.specs.Grouping.{grouped_by}

pub record MapLaws (X Y : Type 0) : Type 0 where
  pub sorted : (f : X → Y) (lt : Y → Y → Bool) (xs : List X) → map f (sorted_by (λ x y. lt (f x) (f y)) xs) ≡ sorted_by lt (map f xs)
  pub grouped : (f : X → Y) (class : Y → ℕ) (xs : List X) → grouped_by class (map f xs) ≡ map (λ g. (g.0, map f g.1)) (grouped_by (λ x. class (f x)) xs)
