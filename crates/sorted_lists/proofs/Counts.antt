-- How often elements stand in lists, where a test says which are equal.
use Rattle.std.proofs.Common.{◌≡◌, ℕ, ◌+◌, ◌<◌, Bool, true, false, cond, List, [], ◌∷◌, count_by, refl, sym, ap, ◌∙◌, inl, inr, arith}
use Rattle.std.proofs.lemmas.Bool.{cases_Bool}
use Rattle.std.proofs.lemmas.List.Sorted.{IsPermutation-refl, IsPermutation-trans, IsPermutation-sym, IsPermutation-cons, IsPermutation-middle, sum_by-IsPermutation}
use Rattle.std.proofs.lemmas.List.Sums.{sum_by-cons}
use Rattle.std.specs.Bool.{Decides}
use Rattle.std.specs.List.Sorted.{IsPermutation}
use Rattle.tb_types.specs.Bags.{IsSameBag}
use Rattle.sorted_lists.proofs.Shuffles.{same}

module _ {A : Type 0} (eq : A → A → Bool) (decides : (x y : A) → Decides (eq x y) (x ≡ y)) where
  -- how often an element stands in a list
  abbrev pub copies : A → List A → ℕ
  copies x xs = count_by (λ y. eq y x) xs

  pub copies-cons : (b : Bool) (x y : A) (xs : List A) → eq y x ≡ b → copies x (y ∷ xs) ≡ cond b 1 0 + copies x xs
  copies-cons b x y xs e = sum_by-cons (λ z. cond (eq z x) 1 0) y xs ∙ ap (λ c. cond c 1 0 + copies x xs) e

  pub copies-itself : (x : A) (xs : List A) → copies x (x ∷ xs) ≡ 1 + copies x xs
  copies-itself x xs = copies-cons true x x xs ((decides x x).1 refl)

  copies-more : (x y : A) (xs ys : List A) → copies x (y ∷ xs) ≡ copies x (y ∷ ys) → copies x xs ≡ copies x ys
  copies-more x y xs ys e =
      let a = copies-cons (eq y x) x y xs refl in
      let b = copies-cons (eq y x) x y ys refl in
      omega (arith, a, b, e)

  record Taken (x : A) (xs : List A) : Type 0 where
    rest : List A
    moved : IsPermutation xs (x ∷ rest)

  taken : (x : A) (xs : List A) → 0 < copies x xs → Taken x xs
  taken x [] h = absurd (omega (arith, h))
  taken x (y ∷ xs) h =
      elim (cases_Bool (eq y x)) [
        | inl t ↦ record { rest = xs; moved = same (y ∷ xs) (x ∷ xs) (ap (λ z. z ∷ xs) ((decides y x).0 t)) }
        | inr f ↦
            let less = copies-cons false x y xs f in
            let t = taken x xs (omega (arith, less, h)) in
            record { rest = y ∷ t.rest; moved = IsPermutation-trans _ _ _ (IsPermutation-cons y _ _ t.moved) (IsPermutation-middle (y ∷ []) x t.rest) }
      ]

  pub copied : (xs ys : List A) → ((x : A) → copies x xs ≡ copies x ys) → IsPermutation xs ys
  copied [] [] h = IsPermutation-refl []
  copied [] (y ∷ ys) h = absurd (omega (arith, h y, copies-itself y ys))
  copied (x ∷ xs) ys h =
      let t = taken x ys (omega (arith, h x, copies-itself x xs)) in
      let rest = copied xs t.rest (λ y. copies-more y x xs t.rest (h y ∙ sym (sum_by-IsPermutation (λ z. cond (eq z y) 1 0) ys (x ∷ t.rest) t.moved))) in
      IsPermutation-trans _ _ _ (IsPermutation-cons x _ _ rest) (IsPermutation-sym _ _ t.moved)

  pub shuffled : (xs ys : List A) → IsSameBag xs ys → IsPermutation xs ys
  shuffled xs ys h = copied xs ys (λ x. h (λ y. cond (eq y x) 1 0))
