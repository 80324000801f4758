-- What is true of lists that have the same elements, each as often, in any order: one is the other shuffled.
use Rattle.std.specs.Prelude.{◌≡◌, ◌≢◌, ◌↔◌, Bool, true, List, filter, filter_map, flat_map, map, Option, All, AllPairs, Contains}
use Rattle.std.specs.List.Sorted.{IsPermutation}
use Rattle.std.specs.Bool.{Decides}
use Rattle.tb_types.specs.Bags.{IsSameBag}

-- What is walked over a shuffled list, and for each element gives a list, gives the same elements too; and so do two walks, one
-- inside the other, whichever is outside. To be shuffled and to weigh the same are one, where elements can be compared.
pub record BagLaws (A B X : Type 0) : Type 0 where
  pub each : (f : A → List X) (xs ys : List A) → IsPermutation xs ys → IsPermutation (flat_map f xs) (flat_map f ys)
  pub alike : (f g : A → List X) (xs : List A) → All (λ a. IsPermutation (f a) (g a)) xs → IsPermutation (flat_map f xs) (flat_map g xs)
  pub exchanged : (f : A → B → List X) (xs : List A) (ys : List B) → IsPermutation (flat_map (λ a. flat_map (λ b. f a b) ys) xs) (flat_map (λ b. flat_map (λ a. f a b) xs) ys)
  pub chosen : (p : A → Bool) (xs ys : List A) → IsPermutation xs ys → IsPermutation (filter p xs) (filter p ys)
  pub valued : (f : A → Option X) (xs ys : List A) → IsPermutation xs ys → IsPermutation (filter_map f xs) (filter_map f ys)
  pub mapped : (f : A → X) (xs ys : List A) → IsPermutation xs ys → IsPermutation (map f xs) (map f ys)
  -- lists in which no element stands twice, and the same elements stand
  pub members : (xs ys : List A) → AllPairs (λ x y. x ≢ y) xs → AllPairs (λ x y. x ≢ y) ys → ((x : A) → Contains xs x ↔ Contains ys x) → IsPermutation xs ys
  -- what stands in a filter and in a walk
  pub kept : (p : A → Bool) (xs : List A) (x : A) → Contains (filter p xs) x ↔ (Contains xs x × (p x ≡ true))
  pub walked : (f : A → List X) (xs : List A) (y : X) → Contains (flat_map f xs) y ↔ ((x : A) × Contains xs x × Contains (f x) y)
  pub weighed : (xs ys : List A) → IsPermutation xs ys → IsSameBag xs ys
  pub shuffled : (same : A → A → Bool) → ((x y : A) → Decides (same x y) (x ≡ y)) → (xs ys : List A) → IsSameBag xs ys → IsPermutation xs ys
