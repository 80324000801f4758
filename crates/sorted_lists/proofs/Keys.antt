-- Elements that are ordered by keys, part by part.
use Rattle.std.proofs.Common.{◌≡◌, ℕ, ℤ, ◌<◌, ◌==◌, cond, true, false, ◌≢◌, ltb, ltb-true, ltb-false, inl, inr, get_or, List, Contains, AllPairs, refl, sym, ap, subst, ◌∙◌, true≢false, lt-ltb, le-ltb, arith, eq-eqb}
use Rattle.std.proofs.lemmas.Bool.{cases_Bool, cases_eq}
use Rattle.std.proofs.lemmas.List.{get_or_default}
use Rattle.std.proofs.lemmas.List.Sorted.{ranks_by, IsStrictWeakOrder-by_number}
use Rattle.std.proofs.lemmas.Map.Lookups.{exact_signed}
use Rattle.std.specs.Cmp.{IsTotalOrder, IsStrictWeakOrder}
use Rattle.std.proofs.lemmas.Cmp.{ranked}
use Rattle.std.specs.Ordering.{is_lt, is_gt, nat_cmp, int_cmp, ordering_then, ordering_reverse, MatchOrdering}
use Rattle.std.specs.declared.cmp.Ordering.{Ordering}
use Rattle.std.specs.declared.cmp.Ordering.TheVariants.{Less, Equal, Greater}
use Rattle.std.specs.List.Sorted.{ties}
use Rattle.sorted_lists.specs.Sorting.{by_key, by_rank, KeysDiffer, TiesAreEqual}
use Rattle.sorted_lists.specs.Grouping.{ClassFirst}
use Rattle.sorted_lists.proofs.Orders.{from_level}

less : (m n : ℕ) → m < n → nat_cmp m n ≡ Less
less m n h = ap (λ b. cond b Less (cond (m == n) Equal Greater)) (lt-ltb m n h)

same : (n : ℕ) → nat_cmp n n ≡ Equal
same n = ap (λ b. cond b Less (cond (n == n) Equal Greater)) (le-ltb n n (omega arith)) ∙ ap (λ b. cond b Equal Greater) (eq-eqb n n refl)

equal-if : (o p : Ordering) → o ≡ ordering_reverse p → is_lt o ≡ false → is_lt p ≡ false → o ≡ Equal
equal-if Less p e h k = absurd (true≢false h)
equal-if Equal p e h k = refl
equal-if Greater Less e h k = absurd (true≢false k)
equal-if Greater Equal e h k = e
equal-if Greater Greater e h k = absurd (true≢false (sym (ap is_lt e)))

pub parts : (o p : Ordering) → ordering_then o p ≡ Equal → (o ≡ Equal) × (p ≡ Equal)
parts Less p h = absurd (true≢false (ap is_lt h))
parts Equal p h = (refl, h)
parts Greater p h = absurd (true≢false (ap is_gt h))

pub integer : (m n : ℤ) → int_cmp m n ≡ Equal → m ≡ n
integer m n h = exact_signed m n h

pub number : (m n : ℕ) → nat_cmp m n ≡ Equal → m ≡ n
number m n h = subst (λ o. MatchOrdering o (m < n) (m ≡ n) (n < m)) h (ranked m n (nat_cmp m n) refl)

last-if : (o p : Ordering) → is_lt p ≡ false → is_lt (ordering_then o p) ≡ is_lt o
last-if Less p h = refl
last-if Equal p h = h
last-if Greater p h = refl

module _ {X K : Type 0} (key : X → K) where
  pub order : (cmp : K → K → Ordering) → IsTotalOrder cmp → IsStrictWeakOrder (by_key key cmp)
  order cmp o = ranks_by o key

  pub level : (cmp : K → K → Ordering) (x y : X) → IsTotalOrder cmp → ties (by_key key cmp) x y ≡ true → cmp (key x) (key y) ≡ Equal
  level cmp x y o h =
      let l = from_level (by_key key cmp) (order cmp o) x y h in
      equal-if (cmp (key x) (key y)) (cmp (key y) (key x)) (o.antisymm (key x) (key y)) l.0 l.1

  pub first : (number : K → ℕ) (more : K → K → Ordering) → ClassFirst (λ x. number (key x)) (by_key key (λ a b. ordering_then (nat_cmp (number a) (number b)) (more a b)))
  first number more x y h = ap (λ o. is_lt (ordering_then o (more (key x) (key y)))) (less (number (key x)) (number (key y)) h)

  pub second : (number next : K → ℕ) (more : K → K → Ordering) (x y : X) → number (key x) ≡ number (key y) → next (key x) < next (key y)
      → by_key key (λ a b. ordering_then (nat_cmp (number a) (number b)) (ordering_then (nat_cmp (next a) (next b)) (more a b))) x y ≡ true
  second number next more x y e h =
      ap (λ n. is_lt (ordering_then (nat_cmp (number (key x)) n) (ordering_then (nat_cmp (next (key x)) (next (key y))) (more (key x) (key y))))) (sym e)
      ∙ ap (λ o. is_lt (ordering_then o (ordering_then (nat_cmp (next (key x)) (next (key y))) (more (key x) (key y))))) (same (number (key x)))
      ∙ ap (λ o. is_lt (ordering_then o (more (key x) (key y)))) (less (next (key x)) (next (key y)) h)

  pub last : (cmp more : K → K → Ordering) (x y : X) → is_lt (more (key y) (key x)) ≡ false → by_key key (λ a b. ordering_then (cmp a b) (more a b)) y x ≡ by_key key cmp y x
  last cmp more x y h = last-if (cmp (key y) (key x)) (more (key y) (key x)) h

  pub named : (xs : List X) → AllPairs (λ x y. key x ≢ key y) xs → (x y : X) → Contains xs x → Contains xs y → key x ≡ key y → x ≡ y
  named xs differ x y at_x at_y e =
      let i = at_x.0 in
      let j = at_y.0 in
      let as_x : get_or xs j x ≡ y = get_or_default xs j x y at_y.1 ∙ at_y.2 in
      elim (cases_eq i j) [
        | inl here ↦ sym at_x.2 ∙ ap (λ k. get_or xs k x) here ∙ as_x
        | inr apart ↦
            elim (cases_Bool (ltb i j)) [
              | inl t ↦ absurd (differ i j x (ltb-true i j t) at_y.1 (ap key at_x.2 ∙ e ∙ sym (ap key as_x)))
              | inr f ↦
                  let le = ltb-false i j f in
                  let down : j < i = omega (arith, le, apart) in
                  absurd (differ j i x down at_x.1 (ap key as_x ∙ sym e ∙ sym (ap key at_x.2)))
            ]
      ]

  pub differ : (cmp : K → K → Ordering) (xs : List X) → IsTotalOrder cmp → ((a b : K) → cmp a b ≡ Equal → a ≡ b) → KeysDiffer key xs → TiesAreEqual (by_key key cmp) xs
  differ cmp xs o exact apart x y at_x at_y h = named xs apart x y at_x at_y (exact (key x) (key y) (level cmp x y o h))

module _ {X : Type 0} (rank : X → ℕ) where
  pub ranked_order : IsStrictWeakOrder (by_rank rank)
  ranked_order = IsStrictWeakOrder-by_number rank

  pub ranks_differ : (xs : List X) → KeysDiffer rank xs → TiesAreEqual (by_rank rank) xs
  ranks_differ xs apart x y at_x at_y h =
      let l = from_level (by_rank rank) ranked_order x y h in
      named rank xs apart x y at_x at_y (omega (arith, ltb-false (rank x) (rank y) l.0, ltb-false (rank y) (rank x) l.1))
