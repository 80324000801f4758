-- Groups of neighbours, by the numbers that their elements have.
use Rattle.std.proofs.Common.{◌≡◌, ℕ, zero, suc, ◌<◌, ◌≤◌, ◌==◌, nat_lt, ltb, ltb-true, ltb-false, lt-ltb, le-ltb, eqb-true, ne_eqb, ◌≢◌, true≢false, ◌⊎◌, Bool, true, false, cond, List, [], ◌∷◌, ◌++◌, length, get_or, filter_map, flat_map, Contains, refl, sym, add-one, ap, ◌∙◌, subst, inl, inr, arith}
use Rattle.std.proofs.lemmas.Bool.{cases_Bool, cond-true, cond-false, eq-eqb}
use Rattle.std.proofs.lemmas.Bool.Decides.{nat_tests}
use Rattle.std.proofs.lemmas.List.Kept.{AllPairs-from_increasing}
use Rattle.std.specs.Cmp.{IsStrictWeakOrder}
use Rattle.std.specs.Prelude.{slice_index as get}
use Rattle.std.specs.List.{AllByRecursion, cons_option}
use Rattle.std.specs.List.Sorted.{IsStrictlyIncreasing}
use Rattle.sorted_lists.specs.Sorting.{sorted_by}
use Rattle.sorted_lists.specs.Grouping.{with_first, grouped_by, of_class, group_of, groups_of}
use Rattle.sorted_lists.specs.Merging.{OnFirst}
use Rattle.sorted_lists.specs.Grouping.{ClassFirst}
use Rattle.sorted_lists.proofs.Orders.{Pairs, pairs_weaker, pairs_from_AllPairs, Ascends}
use Rattle.std.proofs.lemmas.List.Sorted.{IsStrictWeakOrder-by_number}
use Rattle.sorted_lists.proofs.Sorts.{each_sorted, sorted_ascends, filter-sorted}
use Rattle.sorted_lists.proofs.Only.{filter-sorted_by}

pub apart : (a b : ℕ) → a < b → (a == b) ≡ false
apart a b h = grind (arith, nat_tests)

pub apart-down : (a b : ℕ) → b < a → (a == b) ≡ false
apart-down a b h = grind (arith, nat_tests)

-- a class stands in a list
abbrev pub Among : ℕ → List ℕ → Type 0
Among n [] = ⊥
Among n (m ∷ ms) = (m ≡ n) ⊎ Among n ms

among_at : (n : ℕ) (ms : List ℕ) (k : ℕ) → k < length ms → get_or ms k n ≡ n → Among n ms
among_at n [] k le e = absurd (omega (arith, le))
among_at n (m ∷ ms) zero le e = inl e
among_at n (m ∷ ms) (suc k) le e = inr (among_at n ms k (omega (arith, le)) e)

pub among_from_contains : (n : ℕ) (ms : List ℕ) → Contains ms n → Among n ms
among_from_contains n ms h = among_at n ms h.0 h.1 h.2

-- numbers each of which is below all later ones
abbrev pub Climbs : List ℕ → Type 0
Climbs ns = Pairs (λ m n. m < n) ns

pub climbs_from_increasing : (ns : List ℕ) → IsStrictlyIncreasing ns → Climbs ns
climbs_from_increasing ns h = pairs_from_AllPairs (λ m n. m < n) ns (AllPairs-from_increasing ns h)

climbs-at : (ns : List ℕ) → Climbs ns → (k : ℕ) → suc k < length ns → get ns k < get ns (suc k)
climbs-at [] h k le = absurd (omega (arith, le))
climbs-at (m ∷ []) h k le = absurd (omega (arith, le))
climbs-at (m ∷ n ∷ ns) h zero le = h.0.0
climbs-at (m ∷ n ∷ ns) h (suc k) le = climbs-at (n ∷ ns) h.1 k (omega (arith, le))

pub increasing_from_climbs : (ns : List ℕ) → Climbs ns → IsStrictlyIncreasing ns
increasing_from_climbs ns h k le = subst (λ n. get ns k < get ns n) (sym (add-one k)) (climbs-at ns h k (omega (arith, le)))

among_above : (m n : ℕ) (ns : List ℕ) → AllByRecursion (λ k. m < k) ns → Among n ns → m < n
among_above m n [] h a = absurd a
among_above m n (k ∷ ns) h (inl e) = subst (λ j. m < j) e h.0
among_above m n (k ∷ ns) h (inr a) = among_above m n ns h.1 a

module _ {X : Type 0} (class : X → ℕ) where
  pub of-itself : (n : ℕ) (x : X) (xs : List X) → class x ≡ n → of_class class n (x ∷ xs) ≡ x ∷ of_class class n xs
  of-itself n x xs h = cond-true _ _ _ (eq-eqb _ _ h)

  pub of-other : (n : ℕ) (x : X) (xs : List X) → (class x == n) ≡ false → of_class class n (x ∷ xs) ≡ of_class class n xs
  of-other n x xs h = cond-false _ _ _ h

  -- nothing has a class below the least
  pub of-below : (n least : ℕ) (xs : List X) → n < least → AllByRecursion (λ x. least ≤ class x) xs → of_class class n xs ≡ []
  of-below n least [] h up = refl
  of-below n least (x ∷ xs) h up =
      let le = up.0 in of-other n x xs (apart-down (class x) n (omega (arith, le, h))) ∙ of-below n least xs h up.1

  -- the groups of numbers above an element's are those without it
  groups-above : (x : X) (xs : List X) (ns : List ℕ) → AllByRecursion (λ n. class x < n) ns → groups_of class ns (x ∷ xs) ≡ groups_of class ns xs
  groups-above x xs [] h = refl
  groups-above x xs (n ∷ ns) h =
      (λ i. cons_option (group_of n (of-other n x xs (apart (class x) n h.0) i)) (groups_of class ns (x ∷ xs)))
      ∙ ap (cons_option (group_of n (of_class class n xs))) (groups-above x xs ns h.1)

  -- an element in front of groups of higher numbers
  first-other : (n : ℕ) (x : X) (g : ℕ × List X) (gs : List (ℕ × List X)) → n < g.0 → with_first n x (g ∷ gs) ≡ (n, x ∷ []) ∷ g ∷ gs
  first-other n x g gs h = cond-false _ _ _ (apart-down g.0 n h)

  first-above-if : (n m : ℕ) (x : X) (us : List X) (gs : List (ℕ × List X)) → n < m → with_first n x gs ≡ (n, x ∷ []) ∷ gs → with_first n x (cons_option (group_of m us) gs) ≡ (n, x ∷ []) ∷ cons_option (group_of m us) gs
  first-above-if n m x [] gs h on = on
  first-above-if n m x (u ∷ us) gs h on = first-other n x (m, u ∷ us) gs h

  first-above : (n : ℕ) (x : X) (xs : List X) (ns : List ℕ) → AllByRecursion (λ m. n < m) ns → with_first n x (groups_of class ns xs) ≡ (n, x ∷ []) ∷ groups_of class ns xs
  first-above n x xs [] h = refl
  first-above n x xs (m ∷ ns) h = first-above-if n m x (of_class class m xs) (groups_of class ns xs) h.0 (first-above n x xs ns h.1)

  first-here : (n : ℕ) (x : X) (us : List X) (gs : List (ℕ × List X)) → with_first n x gs ≡ (n, x ∷ []) ∷ gs → with_first n x (cons_option (group_of n us) gs) ≡ (n, x ∷ us) ∷ gs
  first-here n x [] gs on = on
  first-here n x (u ∷ us) gs on = cond-true _ _ _ (eq-eqb n n refl)

  -- one element more, whose class is at most each other one's
  groups-more : (x : X) (xs : List X) (ns : List ℕ) → Climbs ns → Among (class x) ns → AllByRecursion (λ y. class x ≤ class y) xs
      → with_first (class x) x (groups_of class ns xs) ≡ groups_of class ns (x ∷ xs)
  groups-more x xs [] up at low = absurd at
  groups-more x xs (n ∷ ns) up (inl here) low =
      let above = subst (λ m. AllByRecursion (λ k. m < k) ns) here up.0 in
      let same : (m : ℕ) → m ≡ class x → with_first (class x) x (cons_option (group_of m (of_class class m xs)) (groups_of class ns xs)) ≡ cons_option (group_of m (of_class class m (x ∷ xs))) (groups_of class ns (x ∷ xs)) =
      λ m e. subst (λ k. with_first (class x) x (cons_option (group_of k (of_class class k xs)) (groups_of class ns xs)) ≡ cons_option (group_of k (of_class class k (x ∷ xs))) (groups_of class ns (x ∷ xs))) (sym e)
      (first-here (class x) x (of_class class (class x) xs) (groups_of class ns xs) (first-above (class x) x xs ns above)
      ∙ ap (λ gs. (class x, x ∷ of_class class (class x) xs) ∷ gs) (sym (groups-above x xs ns above))
      ∙ ap (λ us. cons_option (group_of (class x) us) (groups_of class ns (x ∷ xs))) (sym (of-itself (class x) x xs refl))) in
      same n here
  groups-more x xs (n ∷ ns) up (inr later) low =
      let below = among_above n (class x) ns up.0 later in
      let none = of-below n (class x) xs below low in
      ap (λ us. with_first (class x) x (cons_option (group_of n us) (groups_of class ns xs))) none
      ∙ groups-more x xs ns up.1 later low
      ∙ ap (λ us. cons_option (group_of n us) (groups_of class ns (x ∷ xs))) (sym none ∙ sym (of-other n x xs (apart-down (class x) n below)))

  groups-none : (ns : List ℕ) → groups_of class ns [] ≡ []
  groups-none [] = refl
  groups-none (n ∷ ns) = groups-none ns

  pub grouped-groups : (ns : List ℕ) (xs : List X) → Climbs ns → Pairs (λ x y. class x ≤ class y) xs → AllByRecursion (λ x. Among (class x) ns) xs → grouped_by class xs ≡ groups_of class ns xs
  grouped-groups ns [] up rise at = sym (groups-none ns)
  grouped-groups ns (x ∷ xs) up rise at =
      ap (with_first (class x) x) (grouped-groups ns xs up rise.1 at.1) ∙ groups-more x xs ns up at.0 rise.0

  -- a group is cut off before an element of another class
  first-of-rest : (n m : ℕ) (x y : X) (gs : List (ℕ × List X)) → (m == n) ≡ false → with_first n x (with_first m y gs) ≡ (n, x ∷ []) ∷ with_first m y gs
  first-of-rest n m x y [] h = cond-false _ _ _ h
  first-of-rest n m x y (g ∷ gs) h = first-of-either (g.0 == m)
    where
      first-of-either : (b : Bool) → with_first n x (cond b ((m, y ∷ g.1) ∷ gs) ((m, y ∷ []) ∷ g ∷ gs)) ≡ (n, x ∷ []) ∷ cond b ((m, y ∷ g.1) ∷ gs) ((m, y ∷ []) ∷ g ∷ gs)
      first-of-either true = cond-false _ _ _ h
      first-of-either false = cond-false _ _ _ h

  first-before : (n : ℕ) (x : X) (rest : List X) → OnFirst (λ y. class y ≢ n) rest → with_first n x (grouped_by class rest) ≡ (n, x ∷ []) ∷ grouped_by class rest
  first-before n x [] h = refl
  first-before n x (y ∷ rest) h = first-of-rest n (class y) x y (grouped_by class rest) (ne_eqb (class y) n h)

  pub grouped-front : (n : ℕ) (x : X) (xs rest : List X) → class x ≡ n → AllByRecursion (λ y. class y ≡ n) xs → OnFirst (λ y. class y ≢ n) rest
      → grouped_by class (x ∷ xs ++ rest) ≡ (n, x ∷ xs) ∷ grouped_by class rest
  grouped-front n x [] rest e same other = ap (λ m. with_first m x (grouped_by class rest)) e ∙ first-before n x rest other
  grouped-front n x (y ∷ xs) rest e same other =
      ap (with_first (class x) x) (grouped-front n y xs rest same.0 same.1 other)
      ∙ ap (λ m. with_first m x ((n, y ∷ xs) ∷ grouped_by class rest)) e
      ∙ cond-true _ _ _ (eq-eqb n n refl)

  first-whole : (n : ℕ) (x : X) (gs : List (ℕ × List X)) → flat_map (λ g. g.1) (with_first n x gs) ≡ x ∷ flat_map (λ g. g.1) gs
  first-whole n x [] = refl
  first-whole n x (g ∷ gs) = either (g.0 == n)
    where
      either : (b : Bool) → flat_map (λ h. h.1) (cond b ((n, x ∷ g.1) ∷ gs) ((n, x ∷ []) ∷ g ∷ gs)) ≡ x ∷ g.1 ++ flat_map (λ h. h.1) gs
      either true = refl
      either false = refl

  pub grouped-whole : (xs : List X) → flat_map (λ g. g.1) (grouped_by class xs) ≡ xs
  grouped-whole [] = refl
  grouped-whole (x ∷ xs) = first-whole (class x) x (grouped_by class xs) ∙ ap (λ l. x ∷ l) (grouped-whole xs)

  -- what is in order by a test that puts lower classes first doesn't fall by class
  module _ (lt : X → X → Bool) (first : ClassFirst class lt) where
    at_most : (x y : X) → lt y x ≡ false → class x ≤ class y
    at_most x y h =
        elim (cases_Bool (ltb (class y) (class x))) [
          | inl t ↦ absurd (true≢false (sym (first y x (ltb-true (class y) (class x) t)) ∙ h))
          | inr f ↦ ltb-false (class y) (class x) f
        ]

    pub numbers-rise : (xs : List X) → Ascends lt xs → Pairs (λ x y. class x ≤ class y) xs
    numbers-rise xs up = pairs_weaker (λ x y. lt y x ≡ false) (λ x y. class x ≤ class y) at_most xs up

    pub grouped-sorted : IsStrictWeakOrder lt → (ns : List ℕ) (xs : List X) → Climbs ns → AllByRecursion (λ x. Among (class x) ns) xs
        → grouped_by class (sorted_by lt xs) ≡ filter_map (λ n. group_of n (sorted_by lt (of_class class n xs))) ns
    grouped-sorted o ns xs up at =
        grouped-groups ns (sorted_by lt xs) up (numbers-rise (sorted_by lt xs) (sorted_ascends lt o xs)) (each_sorted lt (λ x. Among (class x) ns) xs at)
        ∙ (λ i. filter_map (λ n. group_of n (filter-sorted_by lt o (λ x. class x == n) xs i)) ns)

  -- the groups, one behind another, are the classes
  group-items : (n : ℕ) (us : List X) (gs : List (ℕ × List X)) → flat_map (λ g. g.1) (cons_option (group_of n us) gs) ≡ us ++ flat_map (λ g. g.1) gs
  group-items n [] gs = refl
  group-items n (u ∷ us) gs = refl

  groups-items : (ns : List ℕ) (xs : List X) → flat_map (λ g. g.1) (groups_of class ns xs) ≡ flat_map (λ n. of_class class n xs) ns
  groups-items [] xs = refl
  groups-items (n ∷ ns) xs = group-items n (of_class class n xs) (groups_of class ns xs) ∙ ap (λ l. of_class class n xs ++ l) (groups-items ns xs)

  level-numbers : (n : ℕ) (x y : X) → (class x == n) ≡ true → (class y == n) ≡ true → nat_lt (class y) (class x) ≡ false
  level-numbers n x y h k = le-ltb (class y) (class x) (omega (arith, eqb-true (class x) n h, eqb-true (class y) n k))

  pub sorted-classes : (ns : List ℕ) (xs : List X) → Climbs ns → AllByRecursion (λ x. Among (class x) ns) xs → sorted_by (λ x y. nat_lt (class x) (class y)) xs ≡ flat_map (λ n. of_class class n xs) ns
  sorted-classes ns xs up at =
      let lt : X → X → Bool = λ x y. nat_lt (class x) (class y) in
      let o : IsStrictWeakOrder lt = IsStrictWeakOrder-by_number class in
      let first : ClassFirst class lt = λ x y h. lt-ltb (class x) (class y) h in
      sym (grouped-whole (sorted_by lt xs))
      ∙ ap (flat_map (λ g. g.1)) (grouped-groups ns (sorted_by lt xs) up (numbers-rise lt first (sorted_by lt xs) (sorted_ascends lt o xs)) (each_sorted lt (λ x. Among (class x) ns) xs at))
      ∙ groups-items ns (sorted_by lt xs)
      ∙ (λ i. flat_map (λ n. filter-sorted lt o (λ x. class x == n) (λ x y h k. level-numbers n x y h k) xs i) ns)
