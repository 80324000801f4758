-- What stands in a list, and in what a filter or a choice keeps of it.
use Rattle.std.proofs.Common.{◌≡◌, ◌↔◌, ℕ, zero, suc, ◌<◌, ◌⊎◌, Bool, true, false, cond, List, [], ◌∷◌, length, get_or, filter, flat_map, Contains, refl, sym, ap, subst, ◌∙◌, true≢false, inl, inr, arith}
use Rattle.std.proofs.lemmas.List.Elements.{Contains-append_left, Contains-append_right, Contains-append_cases}

module _ {A : Type 0} where
  -- an element stands in a list, by recursion
  abbrev pub In : A → List A → Type 0
  In x [] = ⊥
  In x (y ∷ ys) = (y ≡ x) ⊎ In x ys

  in_at : (x : A) (xs : List A) (k : ℕ) → k < length xs → get_or xs k x ≡ x → In x xs
  in_at x [] k h e = absurd (omega (arith, h))
  in_at x (y ∷ ys) zero h e = inl e
  in_at x (y ∷ ys) (suc k) h e = inr (in_at x ys k (omega (arith, h)) e)

  pub in_from_contains : (x : A) (xs : List A) → Contains xs x → In x xs
  in_from_contains x xs c = in_at x xs c.0 c.1 c.2

  pub contains_from_in : (x : A) (xs : List A) → In x xs → Contains xs x
  contains_from_in x [] a = absurd a
  contains_from_in x (y ∷ ys) (inl e) = (zero, omega arith, e)
  contains_from_in x (y ∷ ys) (inr a) = let c = contains_from_in x ys a in (suc c.0, omega (arith, c.1), c.2)

  module _ (p : A → Bool) where
    keep-if : (b : Bool) (x y : A) (ys : List A) → p y ≡ b → (y ≡ x) ⊎ In x (filter p ys) → p x ≡ true → In x (cond b (y ∷ filter p ys) (filter p ys))
    keep-if true x y ys e a h = a
    keep-if false x y ys e (inl one) h = absurd (true≢false (sym h ∙ sym (ap p one) ∙ e))
    keep-if false x y ys e (inr a) h = a

    keep : (x : A) (xs : List A) → In x xs → p x ≡ true → In x (filter p xs)
    keep x [] a h = absurd a
    keep x (y ∷ ys) (inl e) h = keep-if (p y) x y ys refl (inl e) h
    keep x (y ∷ ys) (inr a) h = keep-if (p y) x y ys refl (inr (keep x ys a h)) h

    drop-if : (b : Bool) (x y : A) (ys : List A) → p y ≡ b → (In x (filter p ys) → In x ys × (p x ≡ true)) → In x (cond b (y ∷ filter p ys) (filter p ys)) → ((y ≡ x) ⊎ In x ys) × (p x ≡ true)
    drop-if true x y ys e on (inl one) = (inl one, sym (ap p one) ∙ e)
    drop-if true x y ys e on (inr a) = let h = on a in (inr h.0, h.1)
    drop-if false x y ys e on a = let h = on a in (inr h.0, h.1)

    kept : (x : A) (xs : List A) → In x (filter p xs) → In x xs × (p x ≡ true)
    kept x [] a = absurd a
    kept x (y ∷ ys) a = drop-if (p y) x y ys refl (kept x ys) a

    pub contains-filter : (xs : List A) (x : A) → Contains (filter p xs) x ↔ (Contains xs x × (p x ≡ true))
    contains-filter xs x = (
      λ c. let h = kept x xs (in_from_contains x (filter p xs) c) in (contains_from_in x xs h.0, h.1),
      λ h. contains_from_in x (filter p xs) (keep x xs (in_from_contains x xs h.0) h.1),
    )

module _ {A B : Type 0} (f : A → List B) where
  walked : (y : B) (xs : List A) → Contains (flat_map f xs) y → (x : A) × In x xs × Contains (f x) y
  walked y [] c = absurd (omega (arith, c.1))
  walked y (x ∷ xs) c =
      elim (Contains-append_cases (f x) (flat_map f xs) y c) [
        | inl here ↦ (x, inl refl, here)
        | inr later ↦ let r = walked y xs later in (r.0, inr r.1, r.2)
      ]

  walks : (y : B) (xs : List A) (x : A) → In x xs → Contains (f x) y → Contains (flat_map f xs) y
  walks y [] x a c = absurd a
  walks y (z ∷ xs) x (inl e) c = Contains-append_left (f z) (flat_map f xs) y (subst (λ w. Contains (f w) y) (sym e) c)
  walks y (z ∷ xs) x (inr a) c = Contains-append_right (f z) (flat_map f xs) y (walks y xs x a c)

  pub contains-flat_map : (xs : List A) (y : B) → Contains (flat_map f xs) y ↔ ((x : A) × Contains xs x × Contains (f x) y)
  contains-flat_map xs y = (
    λ c. let r = walked y xs c in (r.0, contains_from_in r.0 xs r.1, r.2),
    λ r. walks y xs r.0 (in_from_contains r.0 xs r.1) r.2,
  )
