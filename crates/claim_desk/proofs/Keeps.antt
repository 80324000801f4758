-- Each step keeps the rule of the desk.
use Rattle.std.proofs.Common.{◌≡◌, ℕ, suc, ◌+◌, ◌*◌, ◌^◌, ◌%◌, ◌≤◌, ◌<◌, Bool, true, false, List, [], ◌∷◌, ◌++◌, set, ap, sym, ◌∙◌, refl, subst, arith, min, Option, Some, None}
use Rattle.std.specs.Prelude.{slice_index, nat_lt, if◌then◌else◌, sum_by, ◌==◌}
use Rattle.std.proofs.lemmas.List.Sums.{sum_by_push, sum_by-append}
use Rattle.std.proofs.lemmas.Bool.{ltb-true, ltb-false}
use Rattle.std.proofs.lemmas.Bool.Decides.{nat_tests}
use Rattle.std.proofs.lemmas.Option.{none-some, same_Some}
use mathlib.Core.Option.{some, some-ne-none}
use lib.ListN.{get_elem?}
use Rattle.atomic_table.specs.Table.{State, Me, Allows, Splits, Joins, opening, keeps}
use Rattle.atomic_table.proofs.Lists.{set_again}
use Rattle.tb_types.specs.Bags.{below, total}
use Rattle.tb_types.specs.Seats.{one}
use Rattle.tb_types.proofs.Seats.{before_set, seats_open, seats_stay, seats_split, seats_join, joining, has_all}
use Rattle.tb_types.proofs.Totals.{total_set, total_push, total_at, total_le, each_set, each_push}
use Rattle.claim_desk.specs.declared.rule.View.{View}
use Rattle.claim_desk.specs.Facts.{has_ended, later}
use Rattle.claim_desk.specs.Rule.{count_of, opener, after_claim, kept_by, given_by, joined, spent, IsSound, IsKept, Told}

total_both : (f g : View → ℕ) (vs : List View) → total (λ v. f v + g v) vs ≡ total f vs + total g vs
total_both f g [] = omega arith
total_both f g (v ∷ vs) = let r = total_both f g vs in omega arith

total_times : (f : View → ℕ) (vs : List View) → total (λ v. 63 * f v) vs ≡ 63 * total f vs
total_times f [] = omega arith
total_times f (v ∷ vs) = let r = total_times f vs in omega arith

-- at most 64 steps went past the limit
few : (n : ℕ) (s : State ℕ View) (k : IsKept n s) → k.count ≤ n + 64
few n s k =
    let bounded = total_le (λ v. v.past + v.out) (λ v. v.live + v.splits) s.views (λ i v e. (k.each i v e).bounded) in
    let splits = total_le (λ v. v.splits) (λ v. 63 * one v.first) s.views (λ i v e. (k.each i v e).few) in
    let a = total_both (λ v. v.past) (λ v. v.out) s.views in
    let b = total_both (λ v. v.live) (λ v. v.splits) s.views in
    let c = total_times (λ v. one v.first) s.views in
    let p = k.seats.firsts in let q = k.seats.lives in let r = k.steps in omega arith

-- the word after a step
word_after : (n : ℕ) (s : State ℕ View) (k : IsKept n s) → n ≤ 16777216 → set s.words 0 ((slice_index s.words 0 + 1) % 2 ^ 64) ≡ (k.count + 1) ∷ []
word_after n s k small =
    let f = few n s k in
    let e : (k.count + 1) % 2 ^ 64 ≡ k.count + 1 = omega arith in
    ap (λ ws. set ws 0 ((slice_index ws 0 + 1) % 2 ^ 64)) k.words ∙ ap (λ x. x ∷ []) e

-- a seat stays sound when another has made a step
older : (n count : ℕ) (u : View) → IsSound n count u → IsSound n (count + 1) u
older n count u o = record { limit = o.limit; bounded = o.bounded; counted = o.counted; few = o.few; spent = o.spent; fresh = o.fresh; behind = λ x e. (let b = o.behind x e in omega arith) }

found_is : (count x : ℕ) → ◌≡◌ {A = Option ℕ} (Some count) (Some x) → x < count + 1
found_is count x e = let s = same_Some count x e in omega arith

-- one seat makes a step, the others don't
stepped : (n : ℕ) (s : State ℕ View) (k : IsKept n s) (id : ℕ) (v w : View) (ws : List ℕ) → get_elem? s.views id ≡ some v → count_of w ≡ count_of v → ws ≡ (k.count + 1) ∷ []
    → total (λ u. u.past) (set s.views id w) + min (k.count + 1) n ≡ k.count + 1
    → ((h : ℕ → ℕ) → sum_by h w.drawn + sum_by h (below (min k.count n)) ≡ sum_by h v.drawn + sum_by h (below (min (k.count + 1) n)))
    → IsSound n (k.count + 1) w → IsKept n record { words = ws; homes = s.homes; views = set s.views id w }
stepped n s k id v w ws at same is steps drawn ok = record {
  count = k.count + 1;
  words = is;
  seats = seats_stay count_of s.views id v w k.seats at same;
  steps = steps;
  draws = λ h. (let t = total_set (λ u. sum_by h u.drawn) s.views id v w at in let d = k.draws h in let e = drawn h in omega arith);
  each = each_set (IsSound n (k.count + 1)) s.views id w ok (λ i u e. older n k.count u (k.each i u e));
}

-- a step that finds a number below the limit
draws_number : (n : ℕ) (s : State ℕ View) (k : IsKept n s) (id : ℕ) (v : View) (ws : List ℕ) → get_elem? s.views id ≡ some v → v.live ≡ 1 → IsSound n k.count v → k.count < n → ws ≡ (k.count + 1) ∷ []
    → IsKept n record { words = ws; homes = s.homes; views = set s.views id (record v { seen = Some k.count; drawn = v.drawn ++ k.count ∷ [] }) }
draws_number n s k id v ws at live ok more is =
    let w : View = record v { seen = Some k.count; drawn = v.drawn ++ k.count ∷ [] } in
    let past = total_set (λ u. u.past) s.views id v w at in
    let c = k.steps in
    let mine = total_at (λ u. u.past) s.views id v at in
    let was : min k.count n ≡ k.count = omega arith in
    let now : min (k.count + 1) n ≡ suc k.count = omega arith in
    stepped n s k id v w ws at refl is (omega arith)
    (λ h. rw (was, now) (let a = sum_by_push h (below k.count) k.count in let b = sum_by_push h v.drawn k.count in omega arith))
    (record { limit = ok.limit; bounded = ok.bounded; counted = ok.counted; few = ok.few; spent = λ z. absurd (omega arith); fresh = λ _. omega arith; behind = λ x e. found_is k.count x e })

-- a step that finds the limit or more
finds_end : (n : ℕ) (s : State ℕ View) (k : IsKept n s) (id : ℕ) (v : View) (ws : List ℕ) → get_elem? s.views id ≡ some v → v.live ≡ 1 → IsSound n k.count v → v.past ≡ 0 → n ≤ k.count → ws ≡ (k.count + 1) ∷ []
    → IsKept n record { words = ws; homes = s.homes; views = set s.views id (record v { past = v.past + 1; seen = Some k.count }) }
finds_end n s k id v ws at live ok first end is =
    let w : View = record v { past = v.past + 1; seen = Some k.count } in
    let past = total_set (λ u. u.past) s.views id v w at in
    let c = k.steps in
    let was : min k.count n ≡ n = omega arith in
    let now : min (k.count + 1) n ≡ n = omega arith in
    let counted = ok.counted in
    stepped n s k id v w ws at refl is (omega arith) (λ h. rw (was, now) refl)
    (record { limit = ok.limit; bounded = omega arith; counted = counted; few = ok.few; spent = λ z. absurd (omega arith); fresh = λ e. absurd (let l = ok.limit (omega arith) in grind (arith, nat_tests)); behind = λ x e. found_is k.count x e })

-- the step of a claim
pub claims : (n slots id : ℕ) (me : Me ℕ View) → n ≤ 16777216 → me.0.live ≡ 1 → has_ended me.0.limit me.0.seen ≡ false
    → Allows (IsKept n) slots id me 0 (λ m. (m + 1) % 2 ^ 64) (λ found after. after ≡ (after_claim me.0 found, me.1))
claims n slots id me small live goes s k homes at fits =
    let v = me.0 in
    let found : slice_index s.words 0 ≡ k.count = ap (λ ws. slice_index ws 0) k.words in
    (after_claim v (slice_index s.words 0), keeps, tt, subst (λ m. IsKept n (record { words = next; homes = s.homes; views = set s.views id (after_claim v m) })) (sym found) (go (nat_lt k.count v.limit) refl), refl)
  where
    next : List ℕ
    next = set s.words 0 ((slice_index s.words 0 + 1) % 2 ^ 64)

    After : View → Type 0
    After w = IsKept n record { words = next; homes = s.homes; views = set s.views id w }

    ok : IsSound n k.count me.0
    ok = k.each id me.0 at

    go : (b : Bool) → nat_lt k.count me.0.limit ≡ b → After (after_claim me.0 k.count)
    go true e =
        let less : k.count < n = let a = ltb-true _ _ e in let l = ok.limit (omega arith) in omega arith in
        rw e (draws_number n s k id me.0 next at live ok less (word_after n s k small))
    go false e =
        let more : n ≤ k.count = let a = ltb-false _ _ e in let l = ok.limit (omega arith) in omega arith in
        rw e (finds_end n s k id me.0 next at live ok (ok.fresh goes) more (word_after n s k small))

-- a new desk
pub begins : (n : ℕ) → IsKept n (opening (0 ∷ []) [] (opener n))
begins n = record {
  count = 0;
  words = refl;
  seats = seats_open count_of (opener n) refl;
  steps = omega arith;
  draws = λ h. let z : min 0 n ≡ 0 = omega arith in sym (ap (λ m. sum_by h (below m)) z);
  each = each_push (IsSound n 0) [] (opener n) (record { limit = λ _. refl; bounded = omega arith; counted = omega arith; few = omega arith; spent = λ z. absurd (omega arith); fresh = λ _. refl; behind = λ x e. absurd (none-some x e) }) (λ i v e. absurd (some-ne-none v (sym e)));
}

-- a look at the word
pub looks : (n slots id : ℕ) (me : Me ℕ View) → me.0.live ≡ 1 → Allows (IsKept n) slots id me 0 (λ m. m) (λ found after. (after ≡ me) × Told me.0 found)
looks n slots id me live s k homes at fits =
    let v = me.0 in
    let ok = k.each id v at in
    let found : slice_index s.words 0 ≡ k.count = ap (λ ws. slice_index ws 0) k.words in
    let same : set s.words 0 (slice_index s.words 0) ≡ k.count ∷ [] = ap (λ ws. set ws 0 (slice_index ws 0)) k.words in
    let views : set s.views id v ≡ s.views = set_again s.views id v at in
    let is : v.limit ≡ n = ok.limit (omega arith) in
    let most : min k.count n ≡ min (slice_index s.words 0) v.limit = omega arith in (
      v,
      keeps,
      tt,
      subst (λ vs. IsKept n (record { words = set s.words 0 (slice_index s.words 0); homes = s.homes; views = vs })) (sym views)
          (record { count = k.count; words = same; seats = k.seats; steps = k.steps; draws = k.draws; each = k.each }),
      (
        refl,
        record {
          most = (let f = few n s k in omega arith);
          behind = λ x e. (let b = ok.behind x e in omega arith);
          once = λ x.
              let h : ℕ → ℕ = λ y. if y == x then 1 else 0 in
              let mine = total_at (λ u. sum_by h u.drawn) s.views id v at in
              subst (λ m. sum_by h v.drawn ≤ m) (k.draws h ∙ ap (λ m. sum_by h (below m)) most) mine;
          whole = λ knows h.
              sym (has_all count_of s.views id v k.seats at knows (λ u. sum_by h u.drawn) (λ i u e none. ap (sum_by h) ((k.each i u e).spent none).0)) ∙ k.draws h ∙ ap (λ m. sum_by h (below m)) most;
          word = λ knows.
              let b = k.steps in
              let mine = has_all count_of s.views id v k.seats at knows (λ u. u.past) (λ i u e none. ((k.each i u e).spent none).1) in omega arith;
        },
      ),
    )

-- a seat more
pub deals : (n id : ℕ) (v : View) → v.live ≡ 1 → v.first ≡ true → v.splits < 63 → Splits (IsKept n) id v (kept_by v) (given_by v)
deals n id v live lead room s k at =
    let ok = k.each id v at in
    let vs = set s.views id (kept_by v) in
    let split : (f : View → ℕ) → (total f vs + f v ≡ total f s.views + f (kept_by v)) × (total f (vs ++ given_by v ∷ []) ≡ total f vs + f (given_by v)) = λ f. (total_set f s.views id v (kept_by v) at, total_push f vs (given_by v)) in
    let r = k.steps in
    let is : one v.first ≡ 1 = ap one lead in
    let bounded = ok.bounded in let counted = ok.counted in
    record {
      count = k.count;
      words = k.words;
      seats = seats_split count_of s.views id v (kept_by v) (given_by v) k.seats at lead refl refl;
      steps = (let t = split (λ u. u.past) in let a = t.0 in let b = t.1 in omega arith);
      draws = λ h. (let t = split (λ u. sum_by h u.drawn) in let a = t.0 in let b = t.1 in let d = k.draws h in omega arith);
      each = each_push (IsSound n k.count) vs (given_by v)
          (record { limit = λ _. ok.limit (omega arith); bounded = omega arith; counted = omega arith; few = omega arith; spent = λ z. absurd (omega arith); fresh = λ _. refl; behind = λ x e. absurd (none-some x e) })
          (each_set (IsSound n k.count) s.views id (kept_by v)
          (record { limit = ok.limit; bounded = omega arith; counted = omega arith; few = omega arith; spent = λ z. absurd (omega arith); fresh = ok.fresh; behind = ok.behind })
          k.each);
    }

ended_later : (l : ℕ) (a b : Option ℕ) → has_ended l (later a b) ≡ false → (has_ended l a ≡ false) × (has_ended l b ≡ false)
ended_later l None b e = (refl, e)
ended_later l (Some x) None e = (e, refl)
ended_later l (Some x) (Some y) e = (grind (arith, nat_tests), grind (arith, nat_tests))

later_behind : (count : ℕ) (a b : Option ℕ) → ((x : ℕ) → a ≡ Some x → x < count) → ((x : ℕ) → b ≡ Some x → x < count) → (x : ℕ) → later a b ≡ Some x → x < count
later_behind count None b f g x e = g x e
later_behind count (Some y) None f g x e = f x e
later_behind count (Some y) (Some z) f g x e = go (nat_lt y z) e
  where
    go : (t : Bool) → ◌≡◌ {A = Option ℕ} (Some (if t then z else y)) (Some x) → x < count
    go true e' = g x e'
    go false e' = f x e'

-- a seat less
pub gathers : (n id : ℕ) (v : View) (other : ℕ) (w : View) → v.live ≡ 1 → w.live ≡ 1 → v.first ≡ true → Joins (IsKept n) id v other w (joined v w) spent
gathers n id v other w live live_too lead s k at apart there =
    let was : get_elem? s.views other ≡ some w = before_set s.views id other (joined v w) w apart there in
    let ok = k.each id v at in
    let fine = k.each other w was in
    let vs = set s.views id (joined v w) in
    let both : (f : View → ℕ) → (total f vs + f v ≡ total f s.views + f (joined v w)) × (total f (set vs other spent) + f w ≡ total f vs + f spent) = λ f. (total_set f s.views id v (joined v w) at, total_set f vs other w spent there) in
    let found = joining count_of s.views id v other w k.seats at lead apart was live_too in
    let second : one w.first ≡ 0 = ap one found.second in let more : 0 < v.out = found.some_out in
    let r = k.steps in
    let few = fine.few in
    let x = ok.bounded in let y = fine.bounded in let z = ok.counted in
    let limits : w.limit ≡ v.limit = fine.limit (omega arith) ∙ sym (ok.limit (omega arith)) in
    record {
      count = k.count;
      words = k.words;
      seats = seats_join count_of s.views id v other w (joined v w) spent k.seats at lead apart there live_too refl refl;
      steps = (let t = both (λ u. u.past) in let a = t.0 in let b = t.1 in omega arith);
      draws = λ h. (let t = both (λ u. sum_by h u.drawn) in let a = t.0 in let b = t.1 in let d = k.draws h in let e = sum_by-append h v.drawn w.drawn in omega arith);
      each = each_set (IsSound n k.count) vs other spent
          (record { limit = λ none. absurd (omega arith); bounded = omega arith; counted = omega arith; few = omega arith; spent = λ _. (refl, refl); fresh = λ _. refl; behind = λ x e. absurd (none-some x e) })
          (each_set (IsSound n k.count) s.views id (joined v w)
          (record {
            limit = ok.limit;
            bounded = omega arith;
            counted = omega arith;
            few = ok.few;
            spent = λ none. absurd (omega arith);
            fresh = λ e.
                let t = ended_later v.limit v.seen w.seen e in
                let c = ok.fresh t.0 in
                let d = fine.fresh (ap (λ l. has_ended l w.seen) limits ∙ t.1) in omega arith;
            behind = later_behind k.count v.seen w.seen ok.behind fine.behind;
          })
          k.each);
    }
