-- Keys that differ stay so when elements change places.
use Rattle.std.proofs.Common.{◌≡◌, ◌≢◌, ℕ, ◌<◌, ◌⊎◌, List, [], ◌∷◌, length, get_or, set, swap, sym, ap, ◌∙◌, inl, inr, arith}
use Rattle.std.proofs.lemmas.Bool.{cases_Bool, cases_eq}
use Rattle.std.proofs.Common.{ltb, ltb-true, ltb-false}
use Rattle.std.proofs.lemmas.List.{get_or_default, get_or-set_same, get_or-set_other, length-set}
use Rattle.std.proofs.lemmas.List.Sorted.{IsPermutation-keeps}
use Rattle.std.specs.List.Sorted.{IsPermutation}
use Rattle.sorted_lists.specs.Sorting.{KeysDiffer}

-- where the element of place k stood before the elements of places i and j changed
abbrev Stood : ℕ → ℕ → ℕ → ℕ → Type 0
Stood i j k m = ((k ≡ j) × (m ≡ i)) ⊎ (((k ≢ j) × (k ≡ i) × (m ≡ j)) ⊎ ((k ≢ j) × (k ≢ i) × (m ≡ k)))

apart : (i j k l m n : ℕ) → Stood i j k m → Stood i j l n → k < l → m ≡ n → ⊥
apart i j k l m n (inl a) (inl b) h e = omega (arith, a.0, b.0, h)
apart i j k l m n (inl a) (inr (inl b)) h e = b.0 (omega (arith, a.1, b.1, b.2, e))
apart i j k l m n (inl a) (inr (inr b)) h e = b.1 (omega (arith, a.1, b.2, e))
apart i j k l m n (inr (inl a)) (inl b) h e = a.0 (omega (arith, a.1, a.2, b.1, e))
apart i j k l m n (inr (inl a)) (inr (inl b)) h e = omega (arith, a.1, b.1, h)
apart i j k l m n (inr (inl a)) (inr (inr b)) h e = b.0 (omega (arith, a.2, b.2, e))
apart i j k l m n (inr (inr a)) (inl b) h e = a.1 (omega (arith, a.2, b.1, e))
apart i j k l m n (inr (inr a)) (inr (inl b)) h e = a.0 (omega (arith, a.2, b.2, e))
apart i j k l m n (inr (inr a)) (inr (inr b)) h e = omega (arith, a.2, b.2, h, e)

module _ {X : Type 0} where
  abbrev Before : List X → List X → ℕ → ℕ → ℕ → X → Type 0
  Before xs ys i j k d = (m : ℕ) × (m < length xs) × Stood i j k m × (get_or ys k d ≡ get_or xs m d)

  before : (xs : List X) (i j k : ℕ) (e d : X) → i < length xs → j < length xs → k < length xs → Before xs (set (set xs i (get_or xs j e)) j (get_or xs i e)) i j k d
  before xs i j k e d p q r =
      let long = length-set xs i (get_or xs j e) in
      elim (cases_eq k j) [
        | inl at_j ↦ (i, p, inl (at_j, omega arith), ap (λ n. get_or (set (set xs i (get_or xs j e)) j (get_or xs i e)) n d) at_j ∙ get_or-set_same (set xs i (get_or xs j e)) j (get_or xs i e) d (omega (arith, long, q)) ∙ get_or_default xs i e d p)
        | inr not_j ↦
            let past = get_or-set_other (set xs i (get_or xs j e)) j k (get_or xs i e) d not_j in
            elim (cases_eq k i) [
              | inl at_i ↦ (j, q, inr (inl (not_j, at_i, omega arith)), past ∙ ap (λ n. get_or (set xs i (get_or xs j e)) n d) at_i ∙ get_or-set_same xs i (get_or xs j e) d p ∙ get_or_default xs j e d q)
              | inr not_i ↦ (k, r, inr (inr (not_j, not_i, omega arith)), past ∙ get_or-set_other xs i k (get_or xs j e) d not_i)
            ]
      ]

module _ {X K : Type 0} (key : X → K) where
  swapped : (xs : List X) (i j : ℕ) (e : X) → i < length xs → j < length xs → KeysDiffer key xs → KeysDiffer key (set (set xs i (get_or xs j e)) j (get_or xs i e))
  swapped xs i j e p q differ k l d h le same =
      let long = length-set (set xs i (get_or xs j e)) j (get_or xs i e) ∙ length-set xs i (get_or xs j e) in
      let a = before xs i j k e d p q (omega (arith, long, h, le)) in
      let b = before xs i j l e d p q (omega (arith, long, le)) in
      let keys = sym (ap key a.3) ∙ same ∙ ap key b.3 in
      elim (cases_eq a.0 b.0) [
        | inl one ↦ apart i j k l a.0 b.0 a.2 b.2 h one
        | inr two ↦
            elim (cases_Bool (ltb a.0 b.0)) [
              | inl t ↦ differ a.0 b.0 d (ltb-true a.0 b.0 t) b.1 keys
              | inr f ↦ let le = ltb-false a.0 b.0 f in differ b.0 a.0 d (omega (arith, le, two)) a.1 (sym keys)
            ]
      ]

  swap-keeps : (xs : List X) (i j : ℕ) → i < length xs → j < length xs → KeysDiffer key xs → KeysDiffer key (swap xs i j)
  swap-keeps [] i j p q differ = differ
  swap-keeps (x ∷ xs) i j p q differ = swapped (x ∷ xs) i j x p q differ

  pub keys-moved : (xs ys : List X) → KeysDiffer key xs → IsPermutation xs ys → KeysDiffer key ys
  keys-moved xs ys differ m = IsPermutation-keeps xs (KeysDiffer key) differ swap-keeps ys m
