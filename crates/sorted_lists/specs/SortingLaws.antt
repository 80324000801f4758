-- What is true of lists in order.
use Rattle.std.specs.Prelude.{◌≡◌, ◌↔◌, Bool, false, List, [], ◌∷◌, ◌++◌, filter, AllPairs, ⊤}
use Rattle.std.specs.Cmp.{IsStrictWeakOrder}
use Rattle.std.specs.List.Sorted.{IsSortedBy, IsStableBy, IsPermutation}
use Rattle.sorted_lists.specs.Sorting.{sorted_by, TiesAreEqual}

-- R of each element and the next
abbrev pub EachNext : {X : Type 0} → (X → X → Type 0) → List X → Type 0
EachNext R [] = ⊤
EachNext R (x ∷ []) = ⊤
EachNext R (x ∷ y ∷ xs) = R x y × EachNext R (y ∷ xs)

-- What `sorted_by` gives is in order, has the elements that it took, and leaves those that tie as they stood. It is the only such
-- list, and where ties are equal, the only list in order with these elements.
pub record SortingLaws (X : Type 0) : Type 0 where
  pub rises : (lt : X → X → Bool) → IsStrictWeakOrder lt → (xs : List X) → IsSortedBy lt (sorted_by lt xs)
  pub keeps : (lt : X → X → Bool) (xs : List X) → IsPermutation xs (sorted_by lt xs)
  pub stable : (lt : X → X → Bool) → IsStrictWeakOrder lt → (xs : List X) → IsStableBy lt xs (sorted_by lt xs)
  pub only : (lt : X → X → Bool) → IsStrictWeakOrder lt → (xs ys : List X) → IsSortedBy lt ys → IsStableBy lt xs ys → ys ≡ sorted_by lt xs
  -- a list in order stays
  pub already : (lt : X → X → Bool) → IsStrictWeakOrder lt → (xs : List X) → IsSortedBy lt xs → sorted_by lt xs ≡ xs
  -- what any sort gives where ties are equal, and that two lists in order of one bag are equal there
  pub any : (lt : X → X → Bool) → IsStrictWeakOrder lt → (xs ys : List X) → TiesAreEqual lt xs → IsSortedBy lt ys → IsPermutation xs ys → ys ≡ sorted_by lt xs
  pub one : (lt : X → X → Bool) → IsStrictWeakOrder lt → (xs ys : List X) → TiesAreEqual lt xs → IsSortedBy lt xs → IsSortedBy lt ys → IsPermutation xs ys → xs ≡ ys
  pub moved : (lt : X → X → Bool) → IsStrictWeakOrder lt → (xs ys : List X) → TiesAreEqual lt xs → IsPermutation xs ys → sorted_by lt xs ≡ sorted_by lt ys
  -- ties are equal in a part of a list, in whatever order
  pub part : (lt : X → X → Bool) (xs us vs : List X) → TiesAreEqual lt xs → IsPermutation xs (us ++ vs) → TiesAreEqual lt us × TiesAreEqual lt vs
  -- lists whose ties stand alike have one order
  pub alike : (lt : X → X → Bool) → IsStrictWeakOrder lt → (xs ys : List X) → IsStableBy lt xs ys → sorted_by lt xs ≡ sorted_by lt ys
  -- to choose and to order may change places
  pub filtered : (lt : X → X → Bool) → IsStrictWeakOrder lt → (p : X → Bool) (xs : List X) → filter p (sorted_by lt xs) ≡ sorted_by lt (filter p xs)
  -- two tests that agree on whether a later element is less than an earlier one
  pub agreed : (lt other : X → X → Bool) (xs : List X) → AllPairs (λ x y. lt y x ≡ other y x) xs → sorted_by lt xs ≡ sorted_by other xs
  -- to be in order is a fact of neighbours
  pub neighbours : (lt : X → X → Bool) (xs : List X) → IsSortedBy lt xs ↔ EachNext (λ x y. lt y x ≡ false) xs
