-- Lists in order by recursion, and what a weak order says of elements that stand level.
use Rattle.std.proofs.Common.{◌≡◌, ◌↔◌, ℕ, zero, suc, ◌<◌, Bool, true, false, cond, not, ◌&&◌, List, [], ◌∷◌, ◌++◌, length, get_or, filter, AllPairs, refl, sym, ap, ◌∙◌, arith, inl, inr, true≢false, add-one}
use Rattle.std.proofs.lemmas.Bool.{cases_Bool}
use Rattle.std.proofs.lemmas.List.Elements.{recursion_from_All}
use Rattle.std.proofs.lemmas.List.Sorted.{sorted_far}
use Rattle.std.specs.Cmp.{IsStrictWeakOrder}
use Rattle.std.specs.List.{AllByRecursion}
use Rattle.std.specs.List.Sorted.{ties, IsSortedBy}
use Rattle.sorted_lists.specs.SortingLaws.{EachNext}

module _ {X : Type 0} where
  -- facts of each element
  pub each_weaker : (P Q : X → Type 0) → ((x : X) → P x → Q x) → (xs : List X) → AllByRecursion P xs → AllByRecursion Q xs
  each_weaker P Q f [] h = tt
  each_weaker P Q f (x ∷ xs) h = (f x h.0, each_weaker P Q f xs h.1)

  pub each_append : (P : X → Type 0) (xs ys : List X) → AllByRecursion P xs → AllByRecursion P ys → AllByRecursion P (xs ++ ys)
  each_append P [] ys h k = k
  each_append P (x ∷ xs) ys h k = (h.0, each_append P xs ys h.1 k)

  each_if : (P : X → Type 0) (b : Bool) (x : X) (xs : List X) → P x → AllByRecursion P xs → AllByRecursion P (cond b (x ∷ xs) xs)
  each_if P true x xs p h = (p, h)
  each_if P false x xs p h = h

  pub each_filter : (P : X → Type 0) (p : X → Bool) (xs : List X) → AllByRecursion P xs → AllByRecursion P (filter p xs)
  each_filter P p [] h = tt
  each_filter P p (x ∷ xs) h = each_if P (p x) x (filter p xs) h.0 (each_filter P p xs h.1)

  -- R of each element and each later one
  abbrev pub Pairs : (X → X → Type 0) → List X → Type 0
  Pairs R [] = Unit {0}
  Pairs R (x ∷ xs) = AllByRecursion (R x) xs × Pairs R xs

  pub pairs_weaker : (R S : X → X → Type 0) → ((x y : X) → R x y → S x y) → (xs : List X) → Pairs R xs → Pairs S xs
  pairs_weaker R S f [] h = tt
  pairs_weaker R S f (x ∷ xs) h = (each_weaker (R x) (S x) (λ y r. f x y r) xs h.0, pairs_weaker R S f xs h.1)

  pub pairs_from_AllPairs : (R : X → X → Type 0) (xs : List X) → AllPairs R xs → Pairs R xs
  pairs_from_AllPairs R [] h = tt
  pairs_from_AllPairs R (x ∷ xs) h = (
    recursion_from_All (R x) xs (λ k d lt. h zero (suc k) d (omega arith) (omega (arith, lt))),
    pairs_from_AllPairs R xs (λ i j d le lt. h (suc i) (suc j) d (omega (arith, le)) (omega (arith, lt))),
  )

  each_at : (P : X → Type 0) (xs : List X) → AllByRecursion P xs → (k : ℕ) (d : X) → k < length xs → P (get_or xs k d)
  each_at P [] h k d le = absurd (omega (arith, le))
  each_at P (x ∷ xs) h zero d le = h.0
  each_at P (x ∷ xs) h (suc k) d le = each_at P xs h.1 k d (omega (arith, le))

  pub AllPairs_from_pairs : (R : X → X → Type 0) (xs : List X) → Pairs R xs → AllPairs R xs
  AllPairs_from_pairs R [] h i j d le lt = absurd (omega (arith, lt))
  AllPairs_from_pairs R (x ∷ xs) h i zero d le lt = absurd (omega (arith, le))
  AllPairs_from_pairs R (x ∷ xs) h zero (suc j) d le lt = each_at (R x) xs h.0 j d (omega (arith, lt))
  AllPairs_from_pairs R (x ∷ xs) h (suc i) (suc j) d le lt = AllPairs_from_pairs R xs h.1 i j d (omega (arith, le)) (omega (arith, lt))

module _ {X : Type 0} (lt : X → X → Bool) where
  -- no element is less than an earlier one
  abbrev pub Ascends : List X → Type 0
  Ascends xs = Pairs (λ x y. lt y x ≡ false) xs

  pub ascends_from_sorted : IsStrictWeakOrder lt → (xs : List X) → IsSortedBy lt xs → Ascends xs
  ascends_from_sorted o xs up = pairs_from_AllPairs (λ x y. lt y x ≡ false) xs (λ i j d le lt'. sorted_far lt o xs up i j d (omega (arith, le)) lt')

  rises_at : (xs : List X) → Ascends xs → (k : ℕ) (d : X) → suc k < length xs → lt (get_or xs (suc k) d) (get_or xs k d) ≡ false
  rises_at [] h k d le = absurd (omega (arith, le))
  rises_at (x ∷ []) h k d le = absurd (omega (arith, le))
  rises_at (x ∷ y ∷ xs) h zero d le = h.0.0
  rises_at (x ∷ y ∷ xs) h (suc k) d le = rises_at (y ∷ xs) h.1 k d (omega (arith, le))

  pub sorted_from_ascends : (xs : List X) → Ascends xs → IsSortedBy lt xs
  sorted_from_ascends xs h k d low le =
      let next = add-one k in
      ap (λ n. lt (get_or xs n d) (get_or xs k d)) next ∙ rises_at xs h k d (omega (arith, le))

  next-at : (xs : List X) → EachNext (λ x y. lt y x ≡ false) xs → (k : ℕ) (d : X) → suc k < length xs → lt (get_or xs (suc k) d) (get_or xs k d) ≡ false
  next-at [] h k d le = absurd (omega (arith, le))
  next-at (x ∷ []) h k d le = absurd (omega (arith, le))
  next-at (x ∷ y ∷ xs) h zero d le = h.0
  next-at (x ∷ y ∷ xs) h (suc k) d le = next-at (y ∷ xs) h.1 k d (omega (arith, le))

  each-next : (xs : List X) → ((k : ℕ) (d : X) → suc k < length xs → lt (get_or xs (suc k) d) (get_or xs k d) ≡ false) → EachNext (λ x y. lt y x ≡ false) xs
  each-next [] h = tt
  each-next (x ∷ []) h = tt
  each-next (x ∷ y ∷ xs) h = (h zero x (omega arith), each-next (y ∷ xs) (λ k d le. h (suc k) d (omega (arith, le))))

  pub neighbours : (xs : List X) → IsSortedBy lt xs ↔ EachNext (λ x y. lt y x ≡ false) xs
  neighbours xs = (
    λ up. each-next xs (λ k d le. ap (λ n. lt (get_or xs n d) (get_or xs k d)) (sym (add-one k)) ∙ up k d (omega arith) (omega (arith, le))),
    λ h k d low le. ap (λ n. lt (get_or xs n d) (get_or xs k d)) (add-one k) ∙ next-at xs h k d (omega (arith, le)),
  )

module _ {X : Type 0} (lt : X → X → Bool) (o : IsStrictWeakOrder lt) where
  pub not_below_itself : (x : X) → lt x x ≡ false
  not_below_itself x = elim (cases_Bool (lt x x)) [ inl t ↦ o.one_way x x t | inr f ↦ f ]

  both_false : (a b : Bool) → a ≡ false → b ≡ false → not a && not b ≡ true
  both_false a b p q = (λ i. not (p i) && not (q i))

  parts_false : (a b : Bool) → not a && not b ≡ true → (a ≡ false) × (b ≡ false)
  parts_false true b h = absurd (true≢false (sym h))
  parts_false false true h = absurd (true≢false (sym h))
  parts_false false false h = (refl, refl)

  pub level : (x y : X) → lt x y ≡ false → lt y x ≡ false → ties lt x y ≡ true
  level x y p q = both_false (lt x y) (lt y x) p q

  pub level_itself : (x : X) → ties lt x x ≡ true
  level_itself x = level x x (not_below_itself x) (not_below_itself x)

  pub from_level : (x y : X) → ties lt x y ≡ true → (lt x y ≡ false) × (lt y x ≡ false)
  from_level x y h = parts_false (lt x y) (lt y x) h

  -- what stands level with one element isn't less than another that does
  pub level_both : (z x y : X) → ties lt z x ≡ true → ties lt z y ≡ true → lt y x ≡ false
  level_both z x y p q = o.chain y z x (from_level z y q).1 (from_level z x p).0

  -- what is less than x is less than all that x isn't above
  pub below_chain : (x y z : X) → lt x y ≡ true → lt z y ≡ false → lt x z ≡ true
  below_chain x y z p q = elim (cases_Bool (lt x z)) [ inl t ↦ t | inr f ↦ absurd (true≢false (sym p ∙ o.chain x z y f q)) ]
