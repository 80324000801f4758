-- What is true of groups of neighbours.
use Rattle.std.specs.Prelude.{◌≡◌, ◌≢◌, ℕ, ◌<◌, Bool, List, ◌∷◌, ◌++◌, filter_map, flat_map, All, Contains}
use Rattle.std.specs.Cmp.{IsStrictWeakOrder}
use Rattle.std.specs.List.Sorted.{IsPermutation, IsNonDecreasingBy, IsStrictlyIncreasing}
use Rattle.sorted_lists.specs.Sorting.{sorted_by, by_rank, TiesAreEqual}
use Rattle.sorted_lists.specs.Grouping.{grouped_by, of_class, group_of, groups_of, elements_of, ClassFirst, IsGroup, AreGroups}
use Rattle.sorted_lists.specs.Merging.{OnFirst}

-- Groups of neighbours lose nothing, and can be cut off in front one by one. Where classes don't fall, they are, of the classes
-- in ascending order, each that some element has, with all its elements.
pub record GroupingLaws (X : Type 0) : Type 0 where
  pub whole : (class : X → ℕ) (xs : List X) → elements_of (grouped_by class xs) ≡ xs
  pub front : (class : X → ℕ) (x : X) (xs rest : List X) → All (λ y. class y ≡ class x) xs → OnFirst (λ y. class y ≢ class x) rest
      → grouped_by class (x ∷ xs ++ rest) ≡ (class x, x ∷ xs) ∷ grouped_by class rest
  pub groups : (class : X → ℕ) (classes : List ℕ) (xs : List X) → IsStrictlyIncreasing classes → IsNonDecreasingBy class xs → All (λ x. Contains classes (class x)) xs
      → grouped_by class xs ≡ groups_of class classes xs
  -- of a list in order, the groups of the list as it was, each in order
  pub sorted : (class : X → ℕ) (lt : X → X → Bool) → ClassFirst class lt → IsStrictWeakOrder lt → (classes : List ℕ) (xs : List X)
      → IsStrictlyIncreasing classes → All (λ x. Contains classes (class x)) xs
      → grouped_by class (sorted_by lt xs) ≡ filter_map (λ n. group_of n (sorted_by lt (of_class class n xs))) classes
  -- the order by class alone is all classes, one behind another
  pub classes : (class : X → ℕ) (classes : List ℕ) (xs : List X) → IsStrictlyIncreasing classes → All (λ x. Contains classes (class x)) xs
      → sorted_by (by_rank class) xs ≡ flat_map (λ n. of_class class n xs) classes
  -- The groups of a list in order are told one by one; and groups that are told so are those groups.
  pub tells : (class : X → ℕ) (lt : X → X → Bool) → ClassFirst class lt → IsStrictWeakOrder lt → (xs : List X) → AreGroups lt class xs (grouped_by class (sorted_by lt xs))
  pub told : (class : X → ℕ) (lt : X → X → Bool) → ClassFirst class lt → IsStrictWeakOrder lt → (xs : List X) (groups : List (ℕ × List X))
      → TiesAreEqual lt xs → AreGroups lt class xs groups → groups ≡ grouped_by class (sorted_by lt xs)
  -- one group that is taken off, and the rest, all of later classes
  pub taken : (class : X → ℕ) (lt : X → X → Bool) → ClassFirst class lt → IsStrictWeakOrder lt → (xs rest : List X) (group : ℕ × List X)
      → TiesAreEqual lt xs → IsGroup lt class group → IsPermutation xs (group.1 ++ rest) → All (λ y. group.0 < class y) rest
      → grouped_by class (sorted_by lt xs) ≡ group ∷ grouped_by class (sorted_by lt rest)
