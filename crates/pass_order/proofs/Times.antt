-- How often units stand in lists of them.
use Rattle.std.proofs.Common.{◌≡◌, ℕ, zero, suc, ◌+◌, ◌<◌, ◌≤◌, ◌==◌, inl, inr, false, cond, List, [], ◌∷◌, ◌++◌, flat_map, take, drop, ap, refl, ◌∙◌, arith}
use Rattle.std.proofs.lemmas.Bool.{eqb-true, eqb-false, eq-eqb, ne_eqb, cond-true, cond-false, cases_Bool}
use Rattle.std.proofs.lemmas.List.{take-append-drop}
use Rattle.std.proofs.lemmas.List.Sums.{sum_by-cons, sum_by-append, sum_by_push}
use Rattle.std.proofs.lemmas.Grind.{flat_map-append}
use Rattle.std.proofs.lemmas.Bool.{cases_lt}
use Rattle.tb_types.specs.Bags.{below, times}

-- 1 for a unit, and 0 for any other
abbrev pub one : ℕ → ℕ → ℕ
one unit x = cond (x == unit) 1 0

pub one-same : (unit : ℕ) → one unit unit ≡ 1
one-same unit = cond-true {A = ℕ} (unit == unit) 1 0 (eq-eqb unit unit refl)

pub times-append : (unit : ℕ) (xs ys : List ℕ) → times unit (xs ++ ys) ≡ times unit xs + times unit ys
times-append unit xs ys = sum_by-append (one unit) xs ys

pub times-one : (unit x : ℕ) → times unit (x ∷ []) ≡ one unit x
times-one unit x = let a = sum_by-cons (one unit) x [] in omega (arith, a)

pub times-own : (unit : ℕ) → times unit (unit ∷ []) ≡ 1
times-own unit = times-one unit unit ∙ one-same unit

-- the numbers below n
none-past : (n unit : ℕ) → n ≤ unit → times unit (below n) ≡ 0
none-past zero unit h = refl
none-past (suc n) unit h =
    let a = sum_by_push (one unit) (below n) n in
    let b = none-past n unit (omega (arith, h)) in
    let other : (n == unit) ≡ false = ne_eqb n unit (λ e. absurd (omega (arith, e, h))) in
    let c = cond-false {A = ℕ} (n == unit) 1 0 other in omega (arith, a, b, c)

pub once-at-most : (n unit : ℕ) → times unit (below n) ≤ 1
once-at-most zero unit = omega arith
once-at-most (suc n) unit =
    let a = sum_by_push (one unit) (below n) n in
    elim (cases_Bool (n == unit)) [
      | inl t ↦
          let same = eqb-true n unit t in
          let b = none-past n unit (omega (arith, same)) in
          let c = cond-true {A = ℕ} (n == unit) 1 0 t in omega (arith, a, b, c)
      | inr f ↦
          let b = once-at-most n unit in
          let c = cond-false {A = ℕ} (n == unit) 1 0 f in omega (arith, a, b, c)
    ]

pub within-below : (n unit : ℕ) → 0 < times unit (below n) → unit < n
within-below n unit h =
    elim (cases_lt unit n) [
      | inl less ↦ less
      | inr past ↦ absurd (omega (arith, none-past n unit past, h))
    ]

pub once-below : (n unit : ℕ) → unit < n → times unit (below n) ≡ 1
once-below zero unit h = absurd (omega (arith, h))
once-below (suc n) unit h =
    let a = sum_by_push (one unit) (below n) n in
    elim (cases_Bool (n == unit)) [
      | inl t ↦
          let same = eqb-true n unit t in
          let b = none-past n unit (omega (arith, same)) in
          let c = cond-true {A = ℕ} (n == unit) 1 0 t in omega (arith, a, b, c)
      | inr f ↦
          let other = eqb-false n unit f in
          let b = once-below n unit (omega (arith, other, h)) in
          let c = cond-false {A = ℕ} (n == unit) 1 0 f in omega (arith, a, b, c)
    ]

-- what is read off a list, up to one of its elements
module _ {A : Type 0} (f : A → List ℕ) (unit : ℕ) (xs : List A) where
  pub times-both : (ys : List A) → times unit (flat_map f (xs ++ ys)) ≡ times unit (flat_map f xs) + times unit (flat_map f ys)
  times-both ys = ap (times unit) (flat_map-append f xs ys) ∙ times-append unit (flat_map f xs) (flat_map f ys)

  pub times-front : (i : ℕ) → times unit (flat_map f (take i xs)) ≤ times unit (flat_map f xs)
  times-front i =
      let a = ap (λ (l : List A). times unit (flat_map f l)) (take-append-drop i xs) in
      let b = times-both-of (take i xs) (drop i xs) in omega (arith, a, b)
    where
      times-both-of : (us vs : List A) → times unit (flat_map f (us ++ vs)) ≡ times unit (flat_map f us) + times unit (flat_map f vs)
      times-both-of us vs = ap (times unit) (flat_map-append f us vs) ∙ times-append unit (flat_map f us) (flat_map f vs)
