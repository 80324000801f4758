-- Items are read one by one: what is left from a place on is an item there and what is left behind it.
use Rattle.std.proofs.Common.{◌≡◌, ℕ, zero, suc, ◌+◌, ◌-◌, ◌<◌, ◌≤◌, Bool, true, false, if◌then◌else◌, Option, None, Some, IfOk, IfSome, IfNone, Result, Ok, Err, List, [], ◌∷◌, ◌++◌, sum_by, refl, ◌∙◌, arith, append_assoc}
use Rattle.std.proofs.lemmas.List.Sums.{sum_by-cons}
use Rattle.tb_wire.specs.declared.varint.Wire.{Wire}
use Rattle.tb_wire.specs.Items.{◌>>=◌, with_rest, items_from, with_prefix}

-- a place behind `from` and not behind `to`
abbrev pub IsAfter : ℕ → ℕ → ℕ → Type 0
IsAfter from to place = (from < place) × (place ≤ to)

-- of a choice it holds where it holds of both
pub IfOk-either : {A : Type 0} (P : A → Type 0) (b : Bool) (x y : Result A Wire) → (b ≡ true → IfOk x P) → (b ≡ false → IfOk y P) → IfOk (if b then x else y) P
IfOk-either P true x y h k = h refl
IfOk-either P false x y h k = k refl

-- of what is read next it holds where it holds after each that may have been read
pub IfOk-next : {A B : Type 0} (P : A → Type 0) (Q : B → Type 0) (r : Result A Wire) (f : A → Result B Wire) → IfOk r P → ((x : A) → P x → IfOk (f x) Q) → IfOk (r >>= f) Q
IfOk-next P Q (Ok x) f h k = k x h
IfOk-next P Q (Err e) f h k = tt

-- an item at the front of the rest is the last of those so far
pub with_prefix-item : {A : Type 0} (prefix : List A) (x : A) (left : Result (List A) Wire) → with_prefix prefix (left >>= λ rest. Ok (x ∷ rest)) ≡ with_prefix (prefix ++ x ∷ []) left
with_prefix-item prefix x (Ok rest) = rw append_assoc refl
with_prefix-item prefix x (Err e) = refl

-- what reads one item from a place before the end of n bytes comes behind that place, and at the end there is none
module _ {A : Type 0} (read : ℕ → Result (Option (A × ℕ)) Wire) (n : ℕ) (goes_on : (at : ℕ) → at ≤ n → IfOk (read at) (λ found. IfSome found (λ item. IsAfter at n item.1))) (ends : read n ≡ Ok None) where
  same_rest : (t u at : ℕ) (r : Result (Option (A × ℕ)) Wire) → IfOk r (λ found. IfSome found (λ item. IsAfter at n item.1)) → ((p : ℕ) → IsAfter at n p → items_from read t p ≡ items_from read u p)
      → r >>= with_rest (items_from read t) ≡ r >>= with_rest (items_from read u)
  same_rest t u at (Err e) h k = refl
  same_rest t u at (Ok None) h k = refl
  same_rest t u at (Ok (Some item)) h k = rw (k item.1 h) refl

  -- where there is room for all items, more room changes nothing
  pub items_from-enough : (t u at : ℕ) → at ≤ n → n - at ≤ t → n - at ≤ u → items_from read t at ≡ items_from read u at
  items_from-enough zero zero at h k l = refl
  items_from-enough zero (suc u) at h k l = let here : at ≡ n = omega arith in rw (here, ends) refl
  items_from-enough (suc t) zero at h k l = let here : at ≡ n = omega arith in rw (here, ends) refl
  items_from-enough (suc t) (suc u) at h k l = same_rest t u at (read at) (goes_on at h) (λ p w. items_from-enough t u p w.1 (omega (arith, w.0)) (omega (arith, w.0)))

  step_of : (at : ℕ) (r : Result (Option (A × ℕ)) Wire) → IfOk r (λ found. IfSome found (λ item. IsAfter at n item.1))
      → r >>= with_rest (items_from read (n - at)) ≡ r >>= with_rest (λ p. items_from read (n - p) p)
  step_of at (Err e) w = refl
  step_of at (Ok None) w = refl
  step_of at (Ok (Some item)) w = rw (items_from-enough (n - at) (n - item.1) item.1 w.1 (omega (arith, w.0)) (omega arith)) refl

  pub items_from-step : (at : ℕ) → at ≤ n → items_from read (n - at) at ≡ read at >>= with_rest (λ p. items_from read (n - p) p)
  items_from-step at h =
      let more : items_from read (n - at) at ≡ items_from read (suc (n - at)) at = items_from-enough (n - at) (suc (n - at)) at h (omega arith) (omega arith) in
      more ∙ step_of at (read at) (goes_on at h)

  -- where an item takes at most its weight, the bytes that are left are at most the weights of the items
  weigh : (weight : A → ℕ) (most at : ℕ) (r : Result (Option (A × ℕ)) Wire) → at ≤ n → n - at ≤ suc most → IfOk r (λ found. IfSome found (λ item. IsAfter at n item.1))
      → IfOk r (λ found. IfSome found (λ item. item.1 ≤ at + weight item.0)) → IfOk r (λ found. IfNone found (at ≡ n))
      → ((p : ℕ) → p ≤ n → n - p ≤ most → IfOk (items_from read most p) (λ items. n - p ≤ sum_by weight items))
      → IfOk (r >>= with_rest (items_from read most)) (λ items. n - at ≤ sum_by weight items)
  weigh weight most at (Err e) h k w light last more = tt
  weigh weight most at (Ok None) h k w light last more = omega (arith, last)
  weigh weight most at (Ok (Some item)) h k w light last more =
      IfOk-next (λ items. n - item.1 ≤ sum_by weight items) (λ items. n - at ≤ sum_by weight items) (items_from read most item.1) (λ rest. Ok (item.0 ∷ rest))
      (more item.1 w.1 (omega (arith, w.0))) (λ rest fits. omega (arith, fits, light, w.0, sum_by-cons weight item.0 rest))

  pub items_from-weighs : (weight : A → ℕ) → ((at : ℕ) → at ≤ n → IfOk (read at) (λ found. IfSome found (λ item. item.1 ≤ at + weight item.0))) → ((at : ℕ) → at ≤ n → IfOk (read at) (λ found. IfNone found (at ≡ n)))
      → (most at : ℕ) → at ≤ n → n - at ≤ most → IfOk (items_from read most at) (λ items. n - at ≤ sum_by weight items)
  items_from-weighs weight light last zero at h k = omega arith
  items_from-weighs weight light last (suc most) at h k =
      weigh weight most at (read at) h k (goes_on at h) (light at h) (last at h) (λ p w l. items_from-weighs weight light last most p w l)
