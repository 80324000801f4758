-- Lists in order that are merged.
use Rattle.std.proofs.Common.{◌≡◌, Bool, true, false, cond, List, [], ◌∷◌, ◌++◌, map, filter, refl, sym, ap, subst, ◌∙◌}
use Rattle.std.proofs.lemmas.Bool.{cond-true}
use Rattle.std.proofs.lemmas.Grind.{flat_map-append}
use Rattle.std.proofs.lemmas.List.Elements.{filter-append}
use Rattle.std.proofs.lemmas.List.Sorted.{IsPermutation-trans, IsPermutation-cons, IsPermutation-middle}
use Rattle.std.specs.Cmp.{IsStrictWeakOrder}
use Rattle.std.specs.List.{AllByRecursion}
use Rattle.std.specs.List.Sorted.{ties, IsStableBy, IsPermutation}
use Rattle.sorted_lists.specs.Sorting.{inserted_by, sorted_by, TiesAreEqual}
use Rattle.sorted_lists.specs.Merging.{merged_with, merged, all_merged, concatenated, OnFirst}
use Rattle.sorted_lists.proofs.Orders.{each_weaker, each_append, Ascends, below_chain, sorted_from_ascends}
use Rattle.sorted_lists.proofs.Sorts.{each_sorted, placed-front, sorted-ascends, sorted_ascends, stable, keeps}
use Rattle.sorted_lists.proofs.Only.{alike, only, stable_apart}
use Rattle.sorted_lists.proofs.Shuffles.{same}

module _ {X : Type 0} (lt : X → X → Bool) where
  -- an element that is less than all before it, and above none behind it, comes first
  pub sorted-taken : (us vs : List X) (x : X) → AllByRecursion (λ u. lt x u ≡ true) us → AllByRecursion (λ v. lt v x ≡ false) vs → sorted_by lt (us ++ x ∷ vs) ≡ x ∷ sorted_by lt (us ++ vs)
  sorted-taken [] vs x h k = placed-front lt x (sorted_by lt vs) (each_sorted lt (λ v. lt v x ≡ false) vs k)
  sorted-taken (u ∷ us) vs x h k = ap (inserted_by lt u) (sorted-taken us vs x h.1 k) ∙ cond-true _ _ _ h.0

  pub stable_append : (xs us ys vs : List X) → IsStableBy lt xs us → IsStableBy lt ys vs → IsStableBy lt (xs ++ ys) (us ++ vs)
  stable_append xs us ys vs h k z = filter-append (ties lt z) us vs ∙ (λ i. h z i ++ k z i) ∙ sym (filter-append (ties lt z) xs ys)

module _ {X : Type 0} (lt : X → X → Bool) (o : IsStrictWeakOrder lt) where
  merged-if : (b : Bool) (x y : X) (xs ys : List X) → lt y x ≡ b → Ascends lt (x ∷ xs) → Ascends lt (y ∷ ys)
      → merged_with lt x (merged lt xs) ys ≡ sorted_by lt (x ∷ xs ++ ys) → merged lt xs (y ∷ ys) ≡ sorted_by lt (xs ++ y ∷ ys)
      → cond b (y ∷ merged_with lt x (merged lt xs) ys) (x ∷ merged lt xs (y ∷ ys)) ≡ sorted_by lt (x ∷ xs ++ y ∷ ys)
  merged-if true x y xs ys e up up' one other =
      let above : AllByRecursion (λ u. lt y u ≡ true) xs = each_weaker (λ u. lt u x ≡ false) (λ u. lt y u ≡ true) (λ u h. below_chain lt o y x u e h) xs up.0 in
      ap (λ l. y ∷ l) one ∙ sym (sorted-taken lt (x ∷ xs) ys y (e, above) up'.0)
  merged-if false x y xs ys e up up' one other =
      let behind : AllByRecursion (λ v. lt v x ≡ false) ys = each_weaker (λ v. lt v y ≡ false) (λ v. lt v x ≡ false) (λ v h. o.chain v y x h e) ys up'.0 in
      ap (λ l. x ∷ l) other ∙ sym (sorted-taken lt [] (xs ++ y ∷ ys) x tt (each_append (λ v. lt v x ≡ false) xs (y ∷ ys) up.0 (e, behind)))

  merged-more : (x : X) (xs : List X) → Ascends lt (x ∷ xs) → ((zs : List X) → Ascends lt zs → merged lt xs zs ≡ sorted_by lt (xs ++ zs))
      → (ys : List X) → Ascends lt ys → merged_with lt x (merged lt xs) ys ≡ sorted_by lt (x ∷ xs ++ ys)
  merged-more x xs up on [] up' =
      ap (λ l. x ∷ l) (on [] tt) ∙ sym (sorted-taken lt [] (xs ++ []) x tt (each_append (λ v. lt v x ≡ false) xs [] up.0 tt))
  merged-more x xs up on (y ∷ ys) up' = merged-if (lt y x) x y xs ys refl up up' (merged-more x xs up on ys up'.1) (on (y ∷ ys) up')

  pub merged-sorted : (xs ys : List X) → Ascends lt xs → Ascends lt ys → merged lt xs ys ≡ sorted_by lt (xs ++ ys)
  merged-sorted [] ys up up' = sym (sorted-ascends lt ys up')
  merged-sorted (x ∷ xs) ys up up' = merged-more x xs up (λ zs h. merged-sorted xs zs up.1 h) ys up'

  pub sorted-append_sorted : (xs ys : List X) → sorted_by lt (xs ++ sorted_by lt ys) ≡ sorted_by lt (xs ++ ys)
  sorted-append_sorted xs ys = sym (alike lt o (xs ++ ys) (xs ++ sorted_by lt ys) (stable_append lt xs xs ys (sorted_by lt ys) (λ z. refl) (stable lt o ys)))

  pub all_merged-sorted : (lists : List (List X)) → AllByRecursion (λ xs. Ascends lt xs) lists → all_merged lt lists ≡ sorted_by lt (concatenated lists)
  all_merged-sorted [] up = refl
  all_merged-sorted (xs ∷ lists) up =
      ap (merged lt xs) (all_merged-sorted lists up.1)
      ∙ merged-sorted xs (sorted_by lt (concatenated lists)) up.0 (sorted_ascends lt o (concatenated lists))
      ∙ sorted-append_sorted xs (concatenated lists)

  -- what is true of the first of each list that is in order, and goes on upwards, is true of all
  each_joined : (P : X → Type 0) → ((y v : X) → P y → lt v y ≡ false → P v) → (lists : List (List X)) → AllByRecursion (λ xs. Ascends lt xs) lists → AllByRecursion (OnFirst P) lists → AllByRecursion P (concatenated lists)
  each_joined P on [] up h = tt
  each_joined P on ([] ∷ lists) up h = each_joined P on lists up.1 h.1
  each_joined P on ((y ∷ ys) ∷ lists) up h =
      (h.0, each_append P ys (concatenated lists) (each_weaker (λ v. lt v y ≡ false) P (λ v k. on y v h.0 k) ys up.0.0) (each_joined P on lists up.1 h.1))

  pub sorted-next : (before behind : List (List X)) (x : X) (xs : List X) → AllByRecursion (λ ys. Ascends lt ys) before → Ascends lt (x ∷ xs) → AllByRecursion (λ ys. Ascends lt ys) behind
      → AllByRecursion (OnFirst (λ y. lt x y ≡ true)) before → AllByRecursion (OnFirst (λ y. lt y x ≡ false)) behind
      → sorted_by lt (concatenated (before ++ (x ∷ xs) ∷ behind)) ≡ x ∷ sorted_by lt (concatenated (before ++ xs ∷ behind))
  sorted-next before behind x xs up here up' h k =
      ap (sorted_by lt) (flat_map-append (λ l. l) before ((x ∷ xs) ∷ behind))
      ∙ sorted-taken lt (concatenated before) (xs ++ concatenated behind) x
      (each_joined (λ y. lt x y ≡ true) (λ y v p q. below_chain lt o x y v p q) before up h)
      (each_append (λ v. lt v x ≡ false) xs (concatenated behind) here.0 (each_joined (λ y. lt y x ≡ false) (λ y v p q. o.chain v y x q p) behind up' k))
      ∙ ap (λ l. x ∷ sorted_by lt l) (sym (flat_map-append (λ l. l) before (xs ∷ behind)))

  pub sorted-least : (before behind : List (List X)) (x : X) (xs : List X) → TiesAreEqual lt (concatenated (before ++ (x ∷ xs) ∷ behind))
      → AllByRecursion (λ ys. Ascends lt ys) before → Ascends lt (x ∷ xs) → AllByRecursion (λ ys. Ascends lt ys) behind
      → AllByRecursion (OnFirst (λ y. lt y x ≡ false)) before → AllByRecursion (OnFirst (λ y. lt y x ≡ false)) behind
      → sorted_by lt (concatenated (before ++ (x ∷ xs) ∷ behind)) ≡ x ∷ sorted_by lt (concatenated (before ++ xs ∷ behind))
  sorted-least before behind x xs ties up here up' h k =
      let on : (y v : X) → lt y x ≡ false → lt v y ≡ false → lt v x ≡ false = λ y v p q. o.chain v y x q p in
      let rest = concatenated (before ++ xs ∷ behind) in
      let above : AllByRecursion (λ v. lt v x ≡ false) rest =
      subst (AllByRecursion (λ v. lt v x ≡ false)) (sym (flat_map-append (λ l. l) before (xs ∷ behind)))
      (each_append (λ v. lt v x ≡ false) (concatenated before) (xs ++ concatenated behind) (each_joined (λ y. lt y x ≡ false) on before up h)
      (each_append (λ v. lt v x ≡ false) xs (concatenated behind) here.0 (each_joined (λ y. lt y x ≡ false) on behind up' k))) in
      let moved : IsPermutation (concatenated (before ++ (x ∷ xs) ∷ behind)) (x ∷ sorted_by lt rest) =
      IsPermutation-trans _ _ _
      (same _ _ (flat_map-append (λ l. l) before ((x ∷ xs) ∷ behind)))
      (IsPermutation-trans _ _ _ (IsPermutation-middle (concatenated before) x (xs ++ concatenated behind))
      (IsPermutation-cons x _ _ (IsPermutation-trans _ _ _ (same _ _ (sym (flat_map-append (λ l. l) before (xs ∷ behind)))) (keeps lt rest)))) in
      sym (only lt o (concatenated (before ++ (x ∷ xs) ∷ behind)) (x ∷ sorted_by lt rest)
      (sorted_from_ascends lt (x ∷ sorted_by lt rest) (each_sorted lt (λ v. lt v x ≡ false) rest above, sorted_ascends lt o rest))
      (stable_apart lt o _ _ ties moved))

  stable-parts : (lists : List (List X)) → IsStableBy lt (concatenated lists) (concatenated (map (λ xs. sorted_by lt xs) lists))
  stable-parts [] z = refl
  stable-parts (xs ∷ lists) z = stable_append lt xs (sorted_by lt xs) (concatenated lists) (concatenated (map (λ ys. sorted_by lt ys) lists)) (stable lt o xs) (stable-parts lists) z

  pub sorted-parts : (lists : List (List X)) → sorted_by lt (concatenated (map (λ xs. sorted_by lt xs) lists)) ≡ sorted_by lt (concatenated lists)
  sorted-parts lists = sym (alike lt o (concatenated lists) (concatenated (map (λ xs. sorted_by lt xs) lists)) (stable-parts lists))

  stable-middle : (several : List (List (List X))) → IsStableBy lt (concatenated (concatenated several)) (concatenated (map (λ lists. sorted_by lt (concatenated lists)) several))
  stable-middle [] z = refl
  stable-middle (lists ∷ several) z =
      stable_append lt (concatenated lists) (sorted_by lt (concatenated lists)) (concatenated (concatenated several)) (concatenated (map (λ l. sorted_by lt (concatenated l)) several)) (stable lt o (concatenated lists)) (stable-middle several) z
      ∙ ap (filter (ties lt z)) (sym (flat_map-append (λ l. l) lists (concatenated several)))

  pub sorted-middle : (several : List (List (List X))) → sorted_by lt (concatenated (map (λ lists. sorted_by lt (concatenated lists)) several)) ≡ sorted_by lt (concatenated (concatenated several))
  sorted-middle several = sym (alike lt o (concatenated (concatenated several)) (concatenated (map (λ lists. sorted_by lt (concatenated lists)) several)) (stable-middle several))
