-- Groups that are told one by one, and the groups of neighbours.
use Rattle.std.proofs.Common.{◌≡◌, ◌≢◌, ℕ, ◌<◌, ◌≤◌, ◌==◌, Bool, true, false, cond, List, [], ◌∷◌, ◌++◌, length, map, All, refl, sym, ap, subst, ◌∙◌, arith, eqb-true}
use Rattle.std.proofs.lemmas.Bool.{eqb-false}
use Rattle.std.proofs.lemmas.List.Sorted.{IsPermutation-append_right, IsPermutation-trans}
use Rattle.std.proofs.lemmas.List.Elements.{recursion_from_All, All-from_recursion}
use Rattle.std.specs.Cmp.{IsStrictWeakOrder}
use Rattle.std.specs.List.{AllByRecursion}
use Rattle.std.specs.List.Sorted.{IsPermutation}
use Rattle.sorted_lists.specs.Sorting.{sorted_by, TiesAreEqual}
use Rattle.sorted_lists.specs.Grouping.{with_first, grouped_by, elements_of, ClassFirst, IsGroup, AreGroups}
use Rattle.sorted_lists.specs.Merging.{OnFirst}
use Rattle.sorted_lists.proofs.Orders.{each_weaker, each_append, Pairs, Ascends, ascends_from_sorted, sorted_from_ascends}
use Rattle.sorted_lists.proofs.Sorts.{sorted_ascends, each_sorted, keeps}
use Rattle.sorted_lists.proofs.Only.{only, stable_apart}
use Rattle.sorted_lists.proofs.Groups.{grouped-front, grouped-whole, numbers-rise, Climbs, climbs_from_increasing, increasing_from_climbs}
use Rattle.sorted_lists.proofs.Shuffles.{same}

pub pairs_append : {X : Type 0} (R : X → X → Type 0) (xs ys : List X) → Pairs R xs → Pairs R ys → AllByRecursion (λ x. AllByRecursion (R x) ys) xs → Pairs R (xs ++ ys)
pairs_append R [] ys h k across = k
pairs_append R (x ∷ xs) ys h k across = (each_append (R x) xs ys h.0 across.0, pairs_append R xs ys h.1 k across.1)

module _ {X : Type 0} (class : X → ℕ) (lt : X → X → Bool) where
  -- a group by recursion: it has an element, all of its class, ascending
  pub record Group (g : ℕ × List X) : Type 0 where
    pub some : 0 < length g.1
    pub one : AllByRecursion (λ x. class x ≡ g.0) g.1
    pub up : Ascends lt g.1

  abbrev pub Later : ℕ → List (ℕ × List X) → Type 0
  Later n gs = AllByRecursion (λ h. n < h.0) gs

  -- groups by recursion
  abbrev pub Told : List (ℕ × List X) → Type 0
  Told [] = Unit {0}
  Told (g ∷ gs) = Group g × Later g.0 gs × Told gs

  -- elements of later groups have later classes
  pub later-elements : (n : ℕ) (gs : List (ℕ × List X)) → Told gs → Later n gs → AllByRecursion (λ y. n < class y) (elements_of gs)
  later-elements n [] t l = tt
  later-elements n (g ∷ gs) t l =
      each_append (λ y. n < class y) g.1 (elements_of gs)
      (each_weaker (λ y. class y ≡ g.0) (λ y. n < class y) (λ y e. subst (λ m. n < m) (sym e) l.0) g.1 t.0.one)
      (later-elements n gs t.2 l.1)

  pub first-later : (n : ℕ) (ys : List X) → AllByRecursion (λ y. n < class y) ys → OnFirst (λ y. class y ≢ n) ys
  first-later n [] h = tt
  first-later n (y ∷ ys) h = λ e. omega (arith, h.0, e)

  front-group : (n : ℕ) (us rest : List X) → 0 < length us → AllByRecursion (λ x. class x ≡ n) us → AllByRecursion (λ y. n < class y) rest
      → grouped_by class (us ++ rest) ≡ (n, us) ∷ grouped_by class rest
  front-group n [] rest some one later = absurd (omega (arith, some))
  front-group n (u ∷ us) rest some one later = grouped-front class n u us rest one.0 one.1 (first-later n rest later)

  -- groups that are told are those of their elements
  pub grouped-told : (gs : List (ℕ × List X)) → Told gs → grouped_by class (elements_of gs) ≡ gs
  grouped-told [] t = refl
  grouped-told (g ∷ gs) t =
      front-group g.0 g.1 (elements_of gs) t.0.some t.0.one (later-elements g.0 gs t.2 t.1)
      ∙ ap (λ l. g ∷ l) (grouped-told gs t.2)

  module _ (first : ClassFirst class lt) (o : IsStrictWeakOrder lt) where
    across : (n : ℕ) (us rest : List X) → AllByRecursion (λ x. class x ≡ n) us → AllByRecursion (λ y. n < class y) rest
        → AllByRecursion (λ x. AllByRecursion (λ y. lt y x ≡ false) rest) us
    across n us rest one later =
        each_weaker (λ x. class x ≡ n) (λ x. AllByRecursion (λ y. lt y x ≡ false) rest)
        (λ x e. each_weaker (λ y. n < class y) (λ y. lt y x ≡ false) (λ y h. o.one_way x y (first x y (subst (λ m. m < class y) (sym e) h))) rest later) us one

    pub told-ascends : (gs : List (ℕ × List X)) → Told gs → Ascends lt (elements_of gs)
    told-ascends [] t = tt
    told-ascends (g ∷ gs) t =
        pairs_append (λ x y. lt y x ≡ false) g.1 (elements_of gs) t.0.up (told-ascends gs t.2) (across g.0 g.1 (elements_of gs) t.0.one (later-elements g.0 gs t.2 t.1))

    pub told-groups : (xs : List X) (gs : List (ℕ × List X)) → TiesAreEqual lt xs → Told gs → IsPermutation xs (elements_of gs) → gs ≡ grouped_by class (sorted_by lt xs)
    told-groups xs gs ties t m =
        sym (grouped-told gs t)
        ∙ ap (grouped_by class) (only lt o xs (elements_of gs) (sorted_from_ascends lt (elements_of gs) (told-ascends gs t)) (stable_apart lt o xs (elements_of gs) ties m))

    pub taken-group : (xs rest : List X) (g : ℕ × List X) → TiesAreEqual lt xs → Group g → IsPermutation xs (g.1 ++ rest) → AllByRecursion (λ y. g.0 < class y) rest
        → grouped_by class (sorted_by lt xs) ≡ g ∷ grouped_by class (sorted_by lt rest)
    taken-group xs rest g ties t m later =
        let later' = each_sorted lt (λ y. g.0 < class y) rest later in
        let ys = g.1 ++ sorted_by lt rest in
        let up = pairs_append (λ x y. lt y x ≡ false) g.1 (sorted_by lt rest) t.up (sorted_ascends lt o rest) (across g.0 g.1 (sorted_by lt rest) t.one later') in
        let moved = moved-behind xs rest g.1 m in
        ap (grouped_by class) (sym (only lt o xs ys (sorted_from_ascends lt ys up) (stable_apart lt o xs ys ties moved)))
        ∙ front-group g.0 g.1 (sorted_by lt rest) t.some t.one later'
      where
        moved-behind : (xs rest us : List X) → IsPermutation xs (us ++ rest) → IsPermutation xs (us ++ sorted_by lt rest)
        moved-behind xs rest us m = IsPermutation-trans _ _ _ m (IsPermutation-append_right us rest (sorted_by lt rest) (keeps lt rest))

    -- the groups of a list in order are told so
    one-more : (x : X) (g : ℕ × List X) (gs : List (ℕ × List X)) (b : Bool) → (g.0 == class x) ≡ b → class x ≤ g.0 → AllByRecursion (λ y. lt y x ≡ false) g.1 → Told (g ∷ gs)
        → Told (cond b ((class x, x ∷ g.1) ∷ gs) ((class x, x ∷ []) ∷ g ∷ gs))
    one-more x g gs true e le below t =
        let same = eqb-true g.0 (class x) e in (
          record { some = omega arith; one = (refl, each_weaker (λ y. class y ≡ g.0) (λ y. class y ≡ class x) (λ y h. h ∙ same) g.1 t.0.one); up = (below, t.0.up) },
          each_weaker (λ h. g.0 < h.0) (λ h. class x < h.0) (λ h k. omega (arith, same, k)) gs t.1,
          t.2,
        )
    one-more x g gs false e le below t =
        let differ : g.0 ≢ class x = eqb-false g.0 (class x) e in
        let up : class x < g.0 = omega (arith, le, differ) in
        (record { some = omega arith; one = (refl, tt); up = (tt, tt) }, (up, each_weaker (λ h. g.0 < h.0) (λ h. class x < h.0) (λ h k. omega (arith, up, k)) gs t.1), t)

    -- a group in front of which an element stands, whose class isn't above
    one-told : (x : X) (gs : List (ℕ × List X)) → Told gs → AllByRecursion (λ h. class x ≤ h.0) gs → AllByRecursion (λ y. lt y x ≡ false) (elements_of gs) → Told (with_first (class x) x gs)
    one-told x [] t le below = (record { some = omega arith; one = (refl, tt); up = (tt, tt) }, tt, tt)
    one-told x (g ∷ gs) t le below = one-more x g gs (g.0 == class x) refl le.0 (each_front g.1 (elements_of gs) below) t
      where
        each_front : (us vs : List X) → AllByRecursion (λ y. lt y x ≡ false) (us ++ vs) → AllByRecursion (λ y. lt y x ≡ false) us
        each_front [] vs h = tt
        each_front (u ∷ us) vs h = (h.0, each_front us vs h.1)

    -- each group's class is that of an element
    classes-with : (P : ℕ → Type 0) (x : X) (gs : List (ℕ × List X)) (b : Bool) (g : ℕ × List X) → P (class x) → AllByRecursion (λ h. P h.0) (g ∷ gs)
        → AllByRecursion (λ h. P h.0) (cond b ((class x, x ∷ g.1) ∷ gs) ((class x, x ∷ []) ∷ g ∷ gs))
    classes-with P x gs true g p h = (p, h.1)
    classes-with P x gs false g p h = (p, h)

    classes-first : (P : ℕ → Type 0) (x : X) (gs : List (ℕ × List X)) → P (class x) → AllByRecursion (λ h. P h.0) gs → AllByRecursion (λ h. P h.0) (with_first (class x) x gs)
    classes-first P x [] p h = (p, tt)
    classes-first P x (g ∷ gs) p h = classes-with P x gs (g.0 == class x) g p h

    pub classes-of : (P : ℕ → Type 0) (xs : List X) → AllByRecursion (λ x. P (class x)) xs → AllByRecursion (λ h. P h.0) (grouped_by class xs)
    classes-of P [] h = tt
    classes-of P (x ∷ xs) h = classes-first P x (grouped_by class xs) h.0 (classes-of P xs h.1)

    pub told-grouped : (xs : List X) → Ascends lt xs → Told (grouped_by class xs)
    told-grouped [] up = tt
    told-grouped (x ∷ xs) up =
        one-told x (grouped_by class xs) (told-grouped xs up.1)
        (classes-of (λ n. class x ≤ n) xs (numbers-rise class lt first (x ∷ xs) up).0)
        (subst (AllByRecursion (λ y. lt y x ≡ false)) (sym (grouped-whole class xs)) up.0)

  -- from and to the words of the specs
  group_from : IsStrictWeakOrder lt → (g : ℕ × List X) → IsGroup lt class g → Group g
  group_from o g is = record { some = is.some; one = recursion_from_All (λ x. class x ≡ g.0) g.1 is.one; up = ascends_from_sorted lt o g.1 is.sorted }

  group_to : (g : ℕ × List X) → Group g → IsGroup lt class g
  group_to g t = record { some = t.some; one = All-from_recursion (λ x. class x ≡ g.0) g.1 t.one; sorted = sorted_from_ascends lt g.1 t.up }

  later_from : (n : ℕ) (gs : List (ℕ × List X)) → AllByRecursion (λ m. n < m) (map (λ g. g.0) gs) → Later n gs
  later_from n [] h = tt
  later_from n (g ∷ gs) h = (h.0, later_from n gs h.1)

  later_to : (n : ℕ) (gs : List (ℕ × List X)) → Later n gs → AllByRecursion (λ m. n < m) (map (λ g. g.0) gs)
  later_to n [] h = tt
  later_to n (g ∷ gs) h = (h.0, later_to n gs h.1)

  told_from : IsStrictWeakOrder lt → (gs : List (ℕ × List X)) → AllByRecursion (IsGroup lt class) gs → Climbs (map (λ g. g.0) gs) → Told gs
  told_from o [] h up = tt
  told_from o (g ∷ gs) h up = (group_from o g h.0, later_from g.0 gs up.0, told_from o gs h.1 up.1)

  each_group : (gs : List (ℕ × List X)) → Told gs → AllByRecursion (IsGroup lt class) gs
  each_group [] t = tt
  each_group (g ∷ gs) t = (group_to g t.0, each_group gs t.2)

  climbs_to : (gs : List (ℕ × List X)) → Told gs → Climbs (map (λ g. g.0) gs)
  climbs_to [] t = tt
  climbs_to (g ∷ gs) t = (later_to g.0 gs t.1, climbs_to gs t.2)

  module _ (first : ClassFirst class lt) (o : IsStrictWeakOrder lt) where
    pub told : (xs : List X) (gs : List (ℕ × List X)) → TiesAreEqual lt xs → AreGroups lt class xs gs → gs ≡ grouped_by class (sorted_by lt xs)
    told xs gs ties are = told-groups first o xs gs ties (told_from o gs (recursion_from_All (IsGroup lt class) gs are.each) (climbs_from_increasing (map (λ g. g.0) gs) are.ascend)) are.same

    pub taken : (xs rest : List X) (g : ℕ × List X) → TiesAreEqual lt xs → IsGroup lt class g → IsPermutation xs (g.1 ++ rest) → All (λ y. g.0 < class y) rest
        → grouped_by class (sorted_by lt xs) ≡ g ∷ grouped_by class (sorted_by lt rest)
    taken xs rest g ties is m later = taken-group first o xs rest g ties (group_from o g is) m (recursion_from_All (λ y. g.0 < class y) rest later)

    pub tells : (xs : List X) → AreGroups lt class xs (grouped_by class (sorted_by lt xs))
    tells xs =
        let gs = grouped_by class (sorted_by lt xs) in
        let t = told-grouped first o (sorted_by lt xs) (sorted_ascends lt o xs) in
        record {
          each = All-from_recursion (IsGroup lt class) gs (each_group gs t);
          ascend = increasing_from_climbs (map (λ g. g.0) gs) (climbs_to gs t);
          same = IsPermutation-trans _ _ _ (keeps lt xs) (same (sorted_by lt xs) (elements_of gs) (sym (grouped-whole class (sorted_by lt xs))));
        }
