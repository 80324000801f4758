-- Lists in which no element stands twice.
use Rattle.std.proofs.Common.{◌≡◌, ◌≢◌, ◌↔◌, ℕ, zero, suc, ◌<◌, ◌⊎◌, List, [], ◌∷◌, length, get_or, AllPairs, Contains, refl, ap, inl, inr, arith}
use Rattle.std.proofs.lemmas.List.Sorted.{IsPermutation-refl, IsPermutation-trans, IsPermutation-sym, IsPermutation-cons, IsPermutation-middle, Contains-permutation}
use Rattle.std.proofs.lemmas.List.Elements.{All-contains, All-from_recursion}
use Rattle.std.specs.List.{AllByRecursion}
use Rattle.std.specs.List.Sorted.{IsPermutation}
use Rattle.sorted_lists.proofs.Orders.{Pairs, pairs_from_AllPairs}
use Rattle.sorted_lists.proofs.Moved.{keys-moved}
use Rattle.sorted_lists.proofs.Shuffles.{same}

module _ {A : Type 0} where
  record Taken (x : A) (xs : List A) : Type 0 where
    rest : List A
    moved : IsPermutation xs (x ∷ rest)

  taken_at : (x : A) (xs : List A) (k : ℕ) → k < length xs → get_or xs k x ≡ x → Taken x xs
  taken_at x [] k h e = absurd (omega (arith, h))
  taken_at x (y ∷ xs) zero h e = record { rest = xs; moved = same (y ∷ xs) (x ∷ xs) (ap (λ z. z ∷ xs) e) }
  taken_at x (y ∷ xs) (suc k) h e =
      let t = taken_at x xs k (omega (arith, h)) e in
      record { rest = y ∷ t.rest; moved = IsPermutation-trans _ _ _ (IsPermutation-cons y _ _ t.moved) (IsPermutation-middle (y ∷ []) x t.rest) }

  contains_cons : (x y : A) (xs : List A) → Contains (x ∷ xs) y → (x ≡ y) ⊎ Contains xs y
  contains_cons x y xs (zero, h, e) = inl e
  contains_cons x y xs (suc k, h, e) = inr (k, omega (arith, h), e)

  behind : (x y : A) (xs : List A) → Contains xs y → Contains (x ∷ xs) y
  behind x y xs c = (suc c.0, omega (arith, c.1), c.2)

  first : (x : A) (xs : List A) → Contains (x ∷ xs) x
  first x xs = (zero, omega arith, refl)

  none : (x : A) (xs : List A) → AllByRecursion (λ y. x ≢ y) xs → Contains xs x → ⊥
  none x xs h c = All-contains (λ y. x ≢ y) xs x (All-from_recursion (λ y. x ≢ y) xs h) c refl

  other : (x y : A) (xs : List A) → x ≢ y → Contains (x ∷ xs) y → Contains xs y
  other x y xs h c = elim (contains_cons x y xs c) [ inl e ↦ absurd (h e) | inr at ↦ at ]

  not-one : (x y : A) (xs : List A) → AllByRecursion (λ z. x ≢ z) xs → Contains xs y → x ≢ y
  not-one x y xs h c e = All-contains (λ z. x ≢ z) xs y (All-from_recursion (λ z. x ≢ z) xs h) c e

  same-members : (xs ys : List A) → Pairs (λ x y. x ≢ y) xs → AllPairs (λ x y. x ≢ y) ys → ((x : A) → Contains xs x ↔ Contains ys x) → IsPermutation xs ys
  same-members [] [] h k c = IsPermutation-refl []
  same-members [] (y ∷ ys) h k c = let at = (c y).1 (first y ys) in absurd (omega (arith, at.1))
  same-members (x ∷ xs) ys h k c =
      let at = (c x).0 (first x xs) in
      let t = taken_at x ys at.0 at.1 at.2 in
      let apart = pairs_from_AllPairs (λ y z. y ≢ z) (x ∷ t.rest) (keys-moved (λ y. y) ys (x ∷ t.rest) k t.moved) in
      let there : (y : A) → Contains xs y → Contains t.rest y =
      λ y d. other x y t.rest (not-one x y xs h.0 d) (Contains-permutation ys (x ∷ t.rest) y t.moved ((c y).0 (behind x y xs d))) in
      let back : (y : A) → Contains t.rest y → Contains xs y =
      λ y d. other x y xs (not-one x y t.rest apart.0 d) ((c y).1 (Contains-permutation (x ∷ t.rest) ys y (IsPermutation-sym ys (x ∷ t.rest) t.moved) (behind x y t.rest d))) in
      let rest_apart = keys-rest x t.rest (keys-moved (λ y. y) ys (x ∷ t.rest) k t.moved) in
      IsPermutation-trans _ _ _ (IsPermutation-cons x _ _ (same-members xs t.rest h.1 rest_apart (λ y. (there y, back y)))) (IsPermutation-sym _ _ t.moved)
    where
      keys-rest : (x : A) (xs : List A) → AllPairs (λ y z. y ≢ z) (x ∷ xs) → AllPairs (λ y z. y ≢ z) xs
      keys-rest x xs h i j d le lt = h (suc i) (suc j) d (omega (arith, le)) (omega (arith, lt))

  pub members : (xs ys : List A) → AllPairs (λ x y. x ≢ y) xs → AllPairs (λ x y. x ≢ y) ys → ((x : A) → Contains xs x ↔ Contains ys x) → IsPermutation xs ys
  members xs ys h k c = same-members xs ys (pairs_from_AllPairs (λ x y. x ≢ y) xs h) k c
