-- What is true of lists in order that are merged.
use Rattle.std.specs.Prelude.{◌≡◌, Bool, true, false, List, ◌∷◌, ◌++◌, map, All}
use Rattle.std.specs.Cmp.{IsStrictWeakOrder}
use Rattle.std.specs.List.Sorted.{IsSortedBy}
use Rattle.sorted_lists.specs.Sorting.{sorted_by, TiesAreEqual}
use Rattle.sorted_lists.specs.Merging.{merged, all_merged, concatenated, OnFirst}

-- Lists in order that are merged give the order of all their elements, where those that tie follow each other as the lists do. It
-- can be taken element by element, and some of the lists may be merged before.
pub record MergingLaws (X : Type 0) : Type 0 where
  pub two : (lt : X → X → Bool) → IsStrictWeakOrder lt → (xs ys : List X) → IsSortedBy lt xs → IsSortedBy lt ys → merged lt xs ys ≡ sorted_by lt (xs ++ ys)
  pub all : (lt : X → X → Bool) → IsStrictWeakOrder lt → (lists : List (List X)) → All (λ xs. IsSortedBy lt xs) lists → all_merged lt lists ≡ sorted_by lt (concatenated lists)
  -- x is less than the first of each list before its own, and no first of a list behind is less
  pub next : (lt : X → X → Bool) → IsStrictWeakOrder lt → (before behind : List (List X)) (x : X) (xs : List X)
      → All (λ ys. IsSortedBy lt ys) before → IsSortedBy lt (x ∷ xs) → All (λ ys. IsSortedBy lt ys) behind
      → All (OnFirst (λ y. lt x y ≡ true)) before → All (OnFirst (λ y. lt y x ≡ false)) behind
      → sorted_by lt (concatenated (before ++ (x ∷ xs) ∷ behind)) ≡ x ∷ sorted_by lt (concatenated (before ++ xs ∷ behind))
  -- where ties are equal, x may be any first of which none is less, as a heap gives it
  pub least : (lt : X → X → Bool) → IsStrictWeakOrder lt → (before behind : List (List X)) (x : X) (xs : List X)
      → TiesAreEqual lt (concatenated (before ++ (x ∷ xs) ∷ behind))
      → All (λ ys. IsSortedBy lt ys) before → IsSortedBy lt (x ∷ xs) → All (λ ys. IsSortedBy lt ys) behind
      → All (OnFirst (λ y. lt y x ≡ false)) before → All (OnFirst (λ y. lt y x ≡ false)) behind
      → sorted_by lt (concatenated (before ++ (x ∷ xs) ∷ behind)) ≡ x ∷ sorted_by lt (concatenated (before ++ xs ∷ behind))
  -- parts that were put in order before
  pub parts : (lt : X → X → Bool) → IsStrictWeakOrder lt → (lists : List (List X)) → sorted_by lt (concatenated (map (λ xs. sorted_by lt xs) lists)) ≡ sorted_by lt (concatenated lists)
  -- several lists at a time that were merged before
  pub middle : (lt : X → X → Bool) → IsStrictWeakOrder lt → (several : List (List (List X)))
      → sorted_by lt (concatenated (map (λ lists. sorted_by lt (concatenated lists)) several)) ≡ sorted_by lt (concatenated (concatenated several))
