-- The list in order: what it has, and that there is only one.
use Rattle.std.proofs.Common.{◌≡◌, Bool, true, false, cond, List, [], ◌∷◌, filter, refl, sym, ap, ◌∙◌, true≢false}
use Rattle.std.proofs.lemmas.Bool.{cond-true, cond-false}
use Rattle.std.proofs.lemmas.List.Sorted.{IsPermutation-refl, IsPermutation-trans, IsPermutation-cons, IsPermutation-middle}
use Rattle.std.specs.Cmp.{IsStrictWeakOrder}
use Rattle.std.specs.List.{AllByRecursion}
use Rattle.std.specs.List.Sorted.{ties, IsSortedBy, IsStableBy, IsPermutation}
use Rattle.sorted_lists.specs.Sorting.{inserted_by, sorted_by}
use Rattle.sorted_lists.proofs.Orders.{each_weaker, Ascends, sorted_from_ascends, level_both}

module _ {X : Type 0} where
  abbrev first_or : X → List X → X
  first_or d [] = d
  first_or d (x ∷ xs) = x

  abbrev rest_of : List X → List X
  rest_of [] = []
  rest_of (x ∷ xs) = xs

  pub same_first : (x y : X) (xs ys : List X) → x ∷ xs ≡ y ∷ ys → x ≡ y
  same_first x y xs ys e = ap (first_or x) e

  pub same_rest : (x y : X) (xs ys : List X) → x ∷ xs ≡ y ∷ ys → xs ≡ ys
  same_rest x y xs ys e = ap rest_of e

  -- what a filter keeps and leaves
  pub filter-keep : (p : X → Bool) (x : X) (xs : List X) → p x ≡ true → filter p (x ∷ xs) ≡ x ∷ filter p xs
  filter-keep p x xs h = cond-true _ _ _ h

  pub filter-leave : (p : X → Bool) (x : X) (xs : List X) → p x ≡ false → filter p (x ∷ xs) ≡ filter p xs
  filter-leave p x xs h = cond-false _ _ _ h

  pub filter-if : (p : X → Bool) (b : Bool) (x : X) (xs : List X) → filter p (cond b (x ∷ xs) xs) ≡ cond b (filter p (x ∷ xs)) (filter p xs)
  filter-if p true x xs = refl
  filter-if p false x xs = refl

  swapped : (a b : Bool) (x : X) (us : List X) → cond a (cond b (x ∷ us) us) us ≡ cond b (cond a (x ∷ us) us) us
  swapped true true x us = refl
  swapped true false x us = refl
  swapped false true x us = refl
  swapped false false x us = refl

  -- two filters may change places
  pub filter-filter : (p q : X → Bool) (xs : List X) → filter p (filter q xs) ≡ filter q (filter p xs)
  filter-filter p q [] = refl
  filter-filter p q (x ∷ xs) =
      filter-if p (q x) x (filter q xs)
      ∙ ap (λ l. cond (q x) (cond (p x) (x ∷ l) l) l) (filter-filter p q xs)
      ∙ swapped (q x) (p x) x (filter q (filter p xs))
      ∙ sym (filter-if q (p x) x (filter p xs))

module _ {X : Type 0} (lt : X → X → Bool) where
  either-moved : (b : Bool) (us vs zs : List X) → IsPermutation zs us → IsPermutation zs vs → IsPermutation zs (cond b us vs)
  either-moved true us vs zs h k = h
  either-moved false us vs zs h k = k

  pub placed-keeps : (x : X) (ys : List X) → IsPermutation (x ∷ ys) (inserted_by lt x ys)
  placed-keeps x [] = IsPermutation-refl (x ∷ [])
  placed-keeps x (y ∷ ys) =
      either-moved (lt y x) (y ∷ inserted_by lt x ys) (x ∷ y ∷ ys) (x ∷ y ∷ ys)
      (IsPermutation-trans _ _ _ (IsPermutation-middle (x ∷ []) y ys) (IsPermutation-cons y _ _ (placed-keeps x ys)))
      (IsPermutation-refl (x ∷ y ∷ ys))

  pub keeps : (xs : List X) → IsPermutation xs (sorted_by lt xs)
  keeps [] = IsPermutation-refl []
  keeps (x ∷ xs) = IsPermutation-trans _ _ _ (IsPermutation-cons x _ _ (keeps xs)) (placed-keeps x (sorted_by lt xs))

  each-if : (P : X → Type 0) (b : Bool) (us vs : List X) → AllByRecursion P us → AllByRecursion P vs → AllByRecursion P (cond b us vs)
  each-if P true us vs h k = h
  each-if P false us vs h k = k

  pub each_placed : (P : X → Type 0) (x : X) (ys : List X) → P x → AllByRecursion P ys → AllByRecursion P (inserted_by lt x ys)
  each_placed P x [] p h = (p, tt)
  each_placed P x (y ∷ ys) p h = each-if P (lt y x) (y ∷ inserted_by lt x ys) (x ∷ y ∷ ys) (h.0, each_placed P x ys p h.1) (p, h)

  pub each_sorted : (P : X → Type 0) (xs : List X) → AllByRecursion P xs → AllByRecursion P (sorted_by lt xs)
  each_sorted P [] h = tt
  each_sorted P (x ∷ xs) h = each_placed P x (sorted_by lt xs) h.0 (each_sorted P xs h.1)

  -- in front of a list that has nothing less
  pub placed-front : (x : X) (ys : List X) → AllByRecursion (λ y. lt y x ≡ false) ys → inserted_by lt x ys ≡ x ∷ ys
  placed-front x [] h = refl
  placed-front x (y ∷ ys) h = cond-false _ _ _ h.0

  pub sorted-ascends : (xs : List X) → Ascends lt xs → sorted_by lt xs ≡ xs
  sorted-ascends [] h = refl
  sorted-ascends (x ∷ xs) h = ap (inserted_by lt x) (sorted-ascends xs h.1) ∙ placed-front x xs h.0

module _ {X : Type 0} (lt : X → X → Bool) (o : IsStrictWeakOrder lt) where
  placed-rises-if : (b : Bool) (x y : X) (ys : List X) → lt y x ≡ b → Ascends lt (y ∷ ys) → Ascends lt (inserted_by lt x ys) → Ascends lt (cond b (y ∷ inserted_by lt x ys) (x ∷ y ∷ ys))
  placed-rises-if true x y ys h up on = (each_placed lt (λ z. lt z y ≡ false) x ys (o.one_way y x h) up.0, on)
  placed-rises-if false x y ys h up on = ((h, each_weaker (λ z. lt z y ≡ false) (λ z. lt z x ≡ false) (λ z k. o.chain z y x k h) ys up.0), up)

  pub placed-rises : (x : X) (ys : List X) → Ascends lt ys → Ascends lt (inserted_by lt x ys)
  placed-rises x [] up = (tt, tt)
  placed-rises x (y ∷ ys) up = placed-rises-if (lt y x) x y ys refl up (placed-rises x ys up.1)

  pub sorted_ascends : (xs : List X) → Ascends lt (sorted_by lt xs)
  sorted_ascends [] = tt
  sorted_ascends (x ∷ xs) = placed-rises x (sorted_by lt xs) (sorted_ascends xs)

  pub rises : (xs : List X) → IsSortedBy lt (sorted_by lt xs)
  rises xs = sorted_from_ascends lt (sorted_by lt xs) (sorted_ascends xs)

  -- where a test takes only elements that stand level, a filter by it sees a placed element in front
  past : (p : X → Bool) (b a c : Bool) (x y : X) (us : List X) → lt y x ≡ b → p x ≡ a → p y ≡ c → ((z w : X) → p z ≡ true → p w ≡ true → lt w z ≡ false) → b ≡ true
      → cond c (y ∷ cond a (x ∷ us) us) (cond a (x ∷ us) us) ≡ cond a (x ∷ cond c (y ∷ us) us) (cond c (y ∷ us) us)
  past p b true true x y us h k l only t = absurd (true≢false (sym t ∙ sym h ∙ only x y k l))
  past p b true false x y us h k l only t = refl
  past p b false true x y us h k l only t = refl
  past p b false false x y us h k l only t = refl

  filter-placed-if : (p : X → Bool) → ((z w : X) → p z ≡ true → p w ≡ true → lt w z ≡ false) → (b : Bool) (x y : X) (ys : List X) → lt y x ≡ b
      → filter p (inserted_by lt x ys) ≡ filter p (x ∷ ys) → filter p (cond b (y ∷ inserted_by lt x ys) (x ∷ y ∷ ys)) ≡ filter p (x ∷ y ∷ ys)
  filter-placed-if p only true x y ys h on = ap (λ l. cond (p y) (y ∷ l) l) on ∙ past p true (p x) (p y) x y (filter p ys) h refl refl only refl
  filter-placed-if p only false x y ys h on = refl

  pub filter-placed : (p : X → Bool) → ((z w : X) → p z ≡ true → p w ≡ true → lt w z ≡ false) → (x : X) (ys : List X) → filter p (inserted_by lt x ys) ≡ filter p (x ∷ ys)
  filter-placed p only x [] = refl
  filter-placed p only x (y ∷ ys) = filter-placed-if p only (lt y x) x y ys refl (filter-placed p only x ys)

  pub filter-sorted : (p : X → Bool) → ((z w : X) → p z ≡ true → p w ≡ true → lt w z ≡ false) → (xs : List X) → filter p (sorted_by lt xs) ≡ filter p xs
  filter-sorted p only [] = refl
  filter-sorted p only (x ∷ xs) = filter-placed p only x (sorted_by lt xs) ∙ ap (λ l. cond (p x) (x ∷ l) l) (filter-sorted p only xs)

  pub stable : (xs : List X) → IsStableBy lt xs (sorted_by lt xs)
  stable xs z = filter-sorted (ties lt z) (λ x y h k. level_both lt o z x y h k) xs
