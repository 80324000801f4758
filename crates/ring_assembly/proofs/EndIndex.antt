-- The ends of ways, and the lowest unused way at a node.
use Rattle.std.proofs.Common.{◌≡◌, ℕ, suc, ◌+◌, ◌-◌, ◌*◌, ◌/◌, ◌%◌, ◌^◌, ◌<◌, ◌≤◌, ◌⊎◌, Bool, true, false, not, ◌||◌, ℤ, pos, negsuc, int_lt, FitsSigned, w64, Some, None, List, [], ◌∷◌, ◌++◌, length, get_or, set, slice_index, Contains, refl, sym, ap, ◌∙◌, inl, inr, subst, arith}
use Rattle.std.proofs.lemmas.Bool.{cond-false, le-ltb, and_parts, and_from, or_cases, or_left, or_right, not-true, not_from_false, cases_lt, true≢false}
use Rattle.std.proofs.lemmas.Bool.Decides.{Decides-int_eq}
use Rattle.std.proofs.lemmas.Int.{ints}
use Rattle.std.proofs.lemmas.List.{get_or_default}
use Rattle.std.proofs.lemmas.List.Elements.{Contains-append_left, Contains-push}
use Rattle.tb_types.specs.declared.element.OsmId.{OsmId}
use Rattle.ring_assembly.specs.declared.way.WayShape.{WayShape}
use Rattle.ring_assembly.specs.Chains.{same_node, fits, first_fit}
use Rattle.ring_assembly.specs.Search.{node_number, end_number, unused_of, IsUsed, IsEnd, HasEnds, IsIndexed}
use Rattle.ring_assembly.proofs.Marks.{none_fits, lowest_fits}

-- nodes of one number are one
number_pos : (m : ℕ) → node_number (record { 0 = pos m }) ≡ 2 ^ 63 + m
unfolding node_number
number_pos m = cond-false (int_lt (pos m) (pos 0)) _ _ (le-ltb m 0 (omega arith))

number_neg : (m : ℕ) → node_number (record { 0 = negsuc m }) ≡ 2 ^ 63 - suc m
unfolding node_number
number_neg m = refl

least : (m : ℕ) → FitsSigned w64 (negsuc m) → m < 2 ^ 63
least m h = omega (arith, ints)

same_id : (a b : ℤ) → FitsSigned w64 a → FitsSigned w64 b → node_number (record { 0 = a }) ≡ node_number (record { 0 = b }) → a ≡ b
same_id (pos m) (pos n) h k e = let s : m ≡ n = omega (arith, number_pos m, number_pos n) in ap pos s
same_id (pos m) (negsuc n) h k e = absurd (omega (arith, number_pos m, number_neg n))
same_id (negsuc m) (pos n) h k e = absurd (omega (arith, number_neg m, number_pos n))
same_id (negsuc m) (negsuc n) h k e = let s : m ≡ n = omega (arith, number_neg m, number_neg n, least m h, least n k) in ap negsuc s

same_number : (a b : OsmId) → a.0 ≡ b.0 → node_number a ≡ node_number b
same_number a b e = ap (λ (z : ℤ). node_number (record { 0 = z })) e

-- what fits a node
pub record IsAt (node : OsmId) (way : WayShape) : Type 0 where
  pub wide : same_node way.first way.last ≡ false
  pub end : (node.0 ≡ way.first.0) ⊎ (node.0 ≡ way.last.0)

fits_is : (node : OsmId) (way : WayShape) → fits node way ≡ true → IsAt node way
fits_is node way h =
    let parts = and_parts (not (same_node way.first way.last)) (same_node node way.first || same_node node way.last) h in
    record {
      wide = not-true (same_node way.first way.last) parts.0;
      end = elim (or_cases (same_node node way.first) (same_node node way.last) parts.1) [
        | inl a ↦ inl ((Decides-int_eq node.0 way.first.0).0 a)
        | inr b ↦ inr ((Decides-int_eq node.0 way.last.0).0 b)
      ];
    }

fits_first : (node : OsmId) (way : WayShape) → same_node way.first way.last ≡ false → node.0 ≡ way.first.0 → fits node way ≡ true
fits_first node way wide e = and_from _ _ (not_from_false _ wide) (or_left (same_node node way.first) (same_node node way.last) ((Decides-int_eq node.0 way.first.0).1 e))

fits_last : (node : OsmId) (way : WayShape) → same_node way.first way.last ≡ false → node.0 ≡ way.last.0 → fits node way ≡ true
fits_last node way wide e = and_from _ _ (not_from_false _ wide) (or_right (same_node node way.first) (same_node node way.last) ((Decides-int_eq node.0 way.last.0).1 e))

-- a way's two ends
module _ (ways : List WayShape) (k : ℕ) (way : WayShape) (within : k < length ways) (is : (d : WayShape) → get_or ways k d ≡ way) (wide : same_node way.first way.last ≡ false) where
  pub first_end_is : (n : ℕ) → n % 2 ^ 64 ≡ k → n / 2 ^ 64 ≡ node_number way.first → FitsSigned w64 way.first.0 → IsEnd ways n
  first_end_is n low high fit = record {
    within = omega arith;
    fitting = λ node d fit' e.
        let here : get_or ways (n % 2 ^ 64) d ≡ way = ap (λ j. get_or ways j d) low ∙ is d in
        ap (fits node) here ∙ fits_first node way wide (same_id node.0 way.first.0 fit' fit (e ∙ high));
  }

  pub last_end_is : (n : ℕ) → n % 2 ^ 64 ≡ k → n / 2 ^ 64 ≡ node_number way.last → FitsSigned w64 way.last.0 → IsEnd ways n
  last_end_is n low high fit = record {
    within = omega arith;
    fitting = λ node d fit' e.
        let here : get_or ways (n % 2 ^ 64) d ≡ way = ap (λ j. get_or ways j d) low ∙ is d in
        ap (fits node) here ∙ fits_last node way wide (same_id node.0 way.last.0 fit' fit (e ∙ high));
  }

  pub has_both : (ends : List ℕ) → HasEnds ways k ends → HasEnds ways (k + 1) ((ends ++ end_number way.first k ∷ []) ++ end_number way.last k ∷ [])
  has_both ends has = record {
    at = λ j node d fit h f. elim (cases_lt j k) [
      | inl less ↦ Contains-append_left (ends ++ end_number way.first k ∷ []) (end_number way.last k ∷ []) (end_number node j) (Contains-append_left ends (end_number way.first k ∷ []) (end_number node j) (has.at j node d fit less f))
      | inr more ↦
          let same : j ≡ k = omega arith in
          let f' : fits node way ≡ true = ap (fits node) (sym (ap (λ i. get_or ways i d) same ∙ is d)) ∙ f in
          elim (fits_is node way f').end [
            | inl e ↦
                let n : end_number way.first k ≡ end_number node j = ap (λ m. m * 2 ^ 64 + k) (sym (same_number node way.first e)) ∙ ap (λ i. node_number node * 2 ^ 64 + i) (sym same) in
                subst (Contains ((ends ++ end_number way.first k ∷ []) ++ end_number way.last k ∷ [])) n (Contains-append_left (ends ++ end_number way.first k ∷ []) (end_number way.last k ∷ []) (end_number way.first k) (Contains-push ends (end_number way.first k)))
            | inr e ↦
                let n : end_number way.last k ≡ end_number node j = ap (λ m. m * 2 ^ 64 + k) (sym (same_number node way.last e)) ∙ ap (λ i. node_number node * 2 ^ 64 + i) (sym same) in
                subst (Contains ((ends ++ end_number way.first k ∷ []) ++ end_number way.last k ∷ [])) n (Contains-push (ends ++ end_number way.first k ∷ []) (end_number way.last k))
          ]
    ];
  }

-- a ring by itself has no end
pub has_none : (ways : List WayShape) (k : ℕ) (way : WayShape) → ((d : WayShape) → get_or ways k d ≡ way) → same_node way.first way.last ≡ true → (ends : List ℕ) → HasEnds ways k ends → HasEnds ways (k + 1) ends
has_none ways k way is closed ends has = record {
  at = λ j node d fit h f. elim (cases_lt j k) [
    | inl less ↦ has.at j node d fit less f
    | inr more ↦
        let same : j ≡ k = omega arith in
        let f' : fits node way ≡ true = ap (fits node) (sym (ap (λ i. get_or ways i d) same ∙ is d)) ∙ f in
        absurd (true≢false (sym closed ∙ (fits_is node way f').wide))
  ];
}

-- The ends from the first at a node up to an index are of used ways.
module _ (ways : List WayShape) (used : List Bool) (ends next : List ℕ) (indexed : IsIndexed ways used ends next) (short : length ways < 2 ^ 64) (node : OsmId) (fit : FitsSigned w64 node.0) (first at : ℕ)
    (before : (p : ℕ) → p < first → slice_index ends p / 2 ^ 64 < node_number node) (passed : (p : ℕ) → first ≤ p → p < at → IsUsed used (slice_index ends p % 2 ^ 64)) where
  -- where an end of a way that fits stands
  record EndAt (k : ℕ) : Type 0 where
    index : ℕ
    within : index < length ends
    is : slice_index ends index ≡ node_number node * 2 ^ 64 + k
    after : first ≤ index

  end_of : (k : ℕ) (d : WayShape) → k < length ways → fits node (get_or ways k d) ≡ true → EndAt k
  end_of k d h f =
      let has = indexed.complete.at k node d fit h f in
      let is : slice_index ends has.0 ≡ node_number node * 2 ^ 64 + k = get_or_default ends has.0 0 (end_number node k) has.1 ∙ has.2 in
      record {
        index = has.0;
        within = has.1;
        is = is;
        after = elim (cases_lt has.0 first) [
          | inl early ↦ absurd (omega (arith, before has.0 early, is))
          | inr late ↦ late
        ];
      }

  used_before : (k p : ℕ) → k < length ways → first ≤ p → p < at → slice_index ends p ≡ node_number node * 2 ^ 64 + k → IsUsed used k
  used_before k p h late early is = let low : slice_index ends p % 2 ^ 64 ≡ k = omega arith in subst (IsUsed used) low (passed p late early)

  -- no unused way fits, where no end at the node is left
  pub none_left : (at < length ends → (node_number node ≤ slice_index ends at / 2 ^ 64) × (slice_index ends at / 2 ^ 64 ≡ node_number node → ⊥)) → first_fit node (unused_of used ways) ≡ None
  none_left stop = none_fits node used ways (λ k d h f.
      let e = end_of k d h f in
      elim (cases_lt e.index at) [
        | inl early ↦ used_before k e.index h e.after early e.is
        | inr late ↦
            let within : at < length ends = omega (arith, e.within) in
            let end = stop within in
            let up = indexed.sorted at e.index 0 late e.within in
            let same : slice_index ends at / 2 ^ 64 ≡ node_number node = omega (arith, end.0, up, e.is, short, h) in
            absurd (end.1 same)
      ])

  -- the end at the index is of the lowest unused way that fits
  pub lowest_left : (way : ℕ) (found : WayShape) → at < length ends → slice_index ends at / 2 ^ 64 ≡ node_number node → way ≡ slice_index ends at % 2 ^ 64 → found ≡ get_or ways way found → get_or used (slice_index ends at % 2 ^ 64) true ≡ false
      → first_fit node (unused_of used ways) ≡ Some (found, unused_of (set used way true) ways)
  lowest_left way found within high low is unused =
      let n = slice_index ends at in
      let end = indexed.sound at 0 within in
      let shorter : way < length ways = omega (arith, end.within) in
      let free : get_or used way true ≡ false = ap (λ k. get_or used k true) low ∙ unused in
      let fitting : fits node (get_or ways way found) ≡ true = ap (λ k. fits node (get_or ways k found)) low ∙ end.fitting node found fit (sym high) in
      lowest_fits node used ways way found shorter (omega (arith, indexed.marks)) free fitting (λ k d' less f.
      let e = end_of k d' (omega arith) f in
      elim (cases_lt e.index at) [
        | inl early ↦ used_before k e.index (omega arith) e.after early e.is
        | inr late ↦ absurd (omega (arith, indexed.sorted at e.index 0 late e.within, e.is, short))
      ]) ∙ ap (λ (x : WayShape). Some (x, unused_of (set used way true) ways)) (sym is)
