-- There is one list in order whose level elements stand as they did, and what follows from it.
use Rattle.std.proofs.Common.{◌≡◌, Bool, true, false, cond, List, [], ◌∷◌, ◌++◌, length, filter, Contains, refl, sym, ap, ◌∙◌, subst, inl, inr, true≢false, arith}
use Rattle.std.proofs.lemmas.Bool.{cases_Bool}
use Rattle.std.proofs.lemmas.List.Elements.{All-contains_itself, Contains-append_left, Contains-append_right, recursion_from_All}
use Rattle.std.proofs.lemmas.List.Sorted.{Contains-permutation, IsPermutation-sym, sum_by-IsPermutation}
use Rattle.std.proofs.lemmas.List.Sums.{length-filter}
use Rattle.std.specs.Cmp.{IsStrictWeakOrder}
use Rattle.std.specs.List.{AllByRecursion}
use Rattle.std.specs.List.Sorted.{ties, IsSortedBy, IsStableBy, IsPermutation}
use Rattle.sorted_lists.specs.Sorting.{inserted_by, sorted_by, TiesAreEqual}
use Rattle.sorted_lists.proofs.Orders.{each_weaker, each_filter, Pairs, Ascends, ascends_from_sorted, level, level_itself, level_both}
use Rattle.sorted_lists.proofs.Sorts.{same_first, same_rest, filter-keep, filter-filter, each_sorted, sorted_ascends, stable}

module _ {X : Type 0} where
  abbrev is_some_list : List X → Bool
  is_some_list [] = false
  is_some_list (x ∷ xs) = true

  pub not-nil : (x : X) (xs : List X) → x ∷ xs ≡ [] → ⊥
  not-nil x xs e = true≢false (ap is_some_list e)

  rest-if : (b : Bool) (x y : X) (us vs : List X) → cond b (x ∷ us) us ≡ cond b (y ∷ vs) vs → us ≡ vs
  rest-if true x y us vs e = same_rest x y us vs e
  rest-if false x y us vs e = e

  -- what a filter keeps passes it, and is of the list
  kept-if : (P : X → Type 0) (p : X → Bool) (b : Bool) (x : X) (xs : List X) → p x ≡ b → P x → AllByRecursion (λ w. P w × (p w ≡ true)) xs → AllByRecursion (λ w. P w × (p w ≡ true)) (cond b (x ∷ xs) xs)
  kept-if P p true x xs e h on = ((h, e), on)
  kept-if P p false x xs e h on = on

  pub each_kept : (P : X → Type 0) (p : X → Bool) (xs : List X) → AllByRecursion P xs → AllByRecursion (λ w. P w × (p w ≡ true)) (filter p xs)
  each_kept P p [] h = tt
  each_kept P p (x ∷ xs) h = kept-if P p (p x) x (filter p xs) refl h.0 (each_kept P p xs h.1)

  pairs-if : (R : X → X → Type 0) (b : Bool) (x : X) (xs : List X) → AllByRecursion (R x) xs → Pairs R xs → Pairs R (cond b (x ∷ xs) xs)
  pairs-if R true x xs h k = (h, k)
  pairs-if R false x xs h k = k

  pub pairs_filter : (R : X → X → Type 0) (p : X → Bool) (xs : List X) → Pairs R xs → Pairs R (filter p xs)
  pairs_filter R p [] h = tt
  pairs_filter R p (x ∷ xs) h = pairs-if R (p x) x (filter p xs) (each_filter (R x) p xs h.0) (pairs_filter R p xs h.1)

  -- two lists of one element, as long as each other
  pub same_copies : (c : X) (us vs : List X) → AllByRecursion (λ w. w ≡ c) us → AllByRecursion (λ w. w ≡ c) vs → length us ≡ length vs → us ≡ vs
  same_copies c [] [] h k e = refl
  same_copies c [] (v ∷ vs) h k e = absurd (omega (arith, e))
  same_copies c (u ∷ us) [] h k e = absurd (omega (arith, e))
  same_copies c (u ∷ us) (v ∷ vs) h k e = λ i. (h.0 ∙ sym k.0) i ∷ same_copies c us vs h.1 k.1 (omega (arith, e)) i

  pub length-filter-permutation : (p : X → Bool) (xs ys : List X) → IsPermutation xs ys → length (filter p ys) ≡ length (filter p xs)
  length-filter-permutation p xs ys m = length-filter p ys ∙ sum_by-IsPermutation (λ x. cond (p x) 1 0) xs ys m ∙ sym (length-filter p xs)

module _ {X : Type 0} (lt : X → X → Bool) (o : IsStrictWeakOrder lt) where
  below_first : (x y : X) (xs ys us : List X) → Ascends lt (y ∷ ys) → filter (ties lt x) (y ∷ ys) ≡ x ∷ us → lt x y ≡ false
  below_first x y xs ys us up e =
      let at : AllByRecursion (λ w. lt w y ≡ false) (y ∷ ys) = (o-itself, up.0) in
      (subst (AllByRecursion (λ w. lt w y ≡ false)) e (each_filter (λ w. lt w y ≡ false) (ties lt x) (y ∷ ys) at)).0
    where
      o-itself : lt y y ≡ false
      o-itself = elim (cases_Bool (lt y y)) [ inl t ↦ o.one_way y y t | inr f ↦ f ]

  first_same : (x y : X) (xs ys : List X) → Ascends lt (x ∷ xs) → Ascends lt (y ∷ ys) → IsStableBy lt (x ∷ xs) (y ∷ ys) → x ≡ y
  first_same x y xs ys up up' same =
      let keep_x = filter-keep (ties lt x) x xs (level_itself lt o x) in
      let keep_y = filter-keep (ties lt y) y ys (level_itself lt o y) in
      elim (cases_Bool (ties lt x y)) [
        | inl t ↦ sym (same_first y x _ _ (sym (filter-keep (ties lt x) y ys t) ∙ same x ∙ keep_x))
        | inr f ↦ absurd (true≢false (sym (level lt o x y (below_first x y xs ys _ up' (same x ∙ keep_x)) (below_first y x ys xs _ up (sym (same y) ∙ keep_y))) ∙ f))
      ]

  rest_same : (x y : X) (xs ys : List X) → x ≡ y → IsStableBy lt (x ∷ xs) (y ∷ ys) → IsStableBy lt xs ys
  rest_same x y xs ys e same z =
      rest-if (ties lt z x) y x (filter (ties lt z) ys) (filter (ties lt z) xs) (ap (λ w. cond (ties lt z w) (y ∷ filter (ties lt z) ys) (filter (ties lt z) ys)) e ∙ same z)

  pub one_order : (xs ys : List X) → Ascends lt xs → Ascends lt ys → IsStableBy lt xs ys → xs ≡ ys
  one_order [] [] up up' same = refl
  one_order [] (y ∷ ys) up up' same = absurd (not-nil y _ (sym (filter-keep (ties lt y) y ys (level_itself lt o y)) ∙ same y))
  one_order (x ∷ xs) [] up up' same = absurd (not-nil x _ (sym (same x ∙ filter-keep (ties lt x) x xs (level_itself lt o x))))
  one_order (x ∷ xs) (y ∷ ys) up up' same =
      let e = first_same x y xs ys up up' same in
      λ i. e i ∷ one_order xs ys up.1 up'.1 (rest_same x y xs ys e same) i

  pub stable_trans : (xs ys zs : List X) → IsStableBy lt xs ys → IsStableBy lt ys zs → IsStableBy lt xs zs
  stable_trans xs ys zs h k z = k z ∙ h z

  pub stable_sym : (xs ys : List X) → IsStableBy lt xs ys → IsStableBy lt ys xs
  stable_sym xs ys h z = sym (h z)

  pub only : (xs ys : List X) → IsSortedBy lt ys → IsStableBy lt xs ys → ys ≡ sorted_by lt xs
  only xs ys up same =
      one_order ys (sorted_by lt xs) (ascends_from_sorted lt o ys up) (sorted_ascends lt o xs) (stable_trans ys xs (sorted_by lt xs) (stable_sym xs ys same) (stable lt o xs))

  pub alike : (xs ys : List X) → IsStableBy lt xs ys → sorted_by lt xs ≡ sorted_by lt ys
  alike xs ys same =
      one_order (sorted_by lt xs) (sorted_by lt ys) (sorted_ascends lt o xs) (sorted_ascends lt o ys)
      (stable_trans (sorted_by lt xs) xs (sorted_by lt ys) (stable_sym xs (sorted_by lt xs) (stable lt o xs)) (stable_trans xs ys (sorted_by lt ys) same (stable lt o ys)))

  -- lists with the same elements, of which no two that differ stand level
  class_same : (xs ys : List X) → TiesAreEqual lt xs → IsPermutation xs ys → (z : X) (us vs : List X)
      → AllByRecursion (λ w. Contains xs w × (ties lt z w ≡ true)) us → AllByRecursion (λ w. Contains xs w × (ties lt z w ≡ true)) vs → length us ≡ length vs → us ≡ vs
  class_same xs ys apart m z [] [] h k e = refl
  class_same xs ys apart m z [] (v ∷ vs) h k e = absurd (omega (arith, e))
  class_same xs ys apart m z (u ∷ us) vs h k e =
      let is_u : (w : X) → Contains xs w × (ties lt z w ≡ true) → w ≡ u = λ w q. apart w u q.0 h.0.0 (level lt o w u (level_both lt o z u w h.0.1 q.1) (level_both lt o z w u q.1 h.0.1)) in
      same_copies u (u ∷ us) vs (each_weaker _ (λ w. w ≡ u) is_u (u ∷ us) h) (each_weaker _ (λ w. w ≡ u) is_u vs k) e

  pub stable_apart : (xs ys : List X) → TiesAreEqual lt xs → IsPermutation xs ys → IsStableBy lt xs ys
  stable_apart xs ys apart m z =
      let of_xs = each_kept (Contains xs) (ties lt z) xs (recursion_from_All (Contains xs) xs (All-contains_itself xs)) in
      let of_ys = each_kept (Contains ys) (ties lt z) ys (recursion_from_All (Contains ys) ys (All-contains_itself ys)) in
      let back = each_weaker (λ w. Contains ys w × (ties lt z w ≡ true)) (λ w. Contains xs w × (ties lt z w ≡ true)) (λ w q. (Contains-permutation ys xs w (IsPermutation-sym xs ys m) q.0, q.1)) (filter (ties lt z) ys) of_ys in
      class_same xs ys apart m z (filter (ties lt z) ys) (filter (ties lt z) xs) back of_xs (length-filter-permutation (ties lt z) xs ys m)

  pub one_list : (xs ys : List X) → TiesAreEqual lt xs → IsSortedBy lt xs → IsSortedBy lt ys → IsPermutation xs ys → xs ≡ ys
  one_list xs ys apart up up' m =
      one_order xs ys (ascends_from_sorted lt o xs up) (ascends_from_sorted lt o ys up') (stable_apart xs ys apart m)

  -- to choose and to order may change places
  pub filter-sorted_by : (p : X → Bool) (xs : List X) → filter p (sorted_by lt xs) ≡ sorted_by lt (filter p xs)
  filter-sorted_by p xs =
      one_order (filter p (sorted_by lt xs)) (sorted_by lt (filter p xs))
      (pairs_filter (λ x y. lt y x ≡ false) p (sorted_by lt xs) (sorted_ascends lt o xs)) (sorted_ascends lt o (filter p xs))
      (λ z. stable lt o (filter p xs) z ∙ filter-filter (ties lt z) p xs ∙ ap (filter p) (sym (stable lt o xs z)) ∙ sym (filter-filter (ties lt z) p (sorted_by lt xs)))

module _ {X : Type 0} (lt : X → X → Bool) where
  pub ties_part : (xs us vs : List X) → TiesAreEqual lt xs → IsPermutation xs (us ++ vs) → TiesAreEqual lt us × TiesAreEqual lt vs
  ties_part xs us vs apart m =
      let back : (x : X) → Contains (us ++ vs) x → Contains xs x = λ x c. Contains-permutation (us ++ vs) xs x (IsPermutation-sym xs (us ++ vs) m) c in (
        λ x y at_x at_y t. apart x y (back x (Contains-append_left us vs x at_x)) (back y (Contains-append_left us vs y at_y)) t,
        λ x y at_x at_y t. apart x y (back x (Contains-append_right us vs x at_x)) (back y (Contains-append_right us vs y at_y)) t,
      )

-- two tests that agree on whether a later element is less than an earlier one
module _ {X : Type 0} (lt other : X → X → Bool) where
  pub placed-agreed : (x : X) (ys : List X) → AllByRecursion (λ y. lt y x ≡ other y x) ys → inserted_by lt x ys ≡ inserted_by other x ys
  placed-agreed x [] h = refl
  placed-agreed x (y ∷ ys) h = λ i. cond (h.0 i) (y ∷ placed-agreed x ys h.1 i) (x ∷ y ∷ ys)

  pub sorted-agreed : (xs : List X) → Pairs (λ x y. lt y x ≡ other y x) xs → sorted_by lt xs ≡ sorted_by other xs
  sorted-agreed [] h = refl
  sorted-agreed (x ∷ xs) h =
      placed-agreed x (sorted_by lt xs) (each_sorted lt (λ y. lt y x ≡ other y x) xs h.0) ∙ ap (inserted_by other x) (sorted-agreed xs h.1)
