-- Seats are split off and joined, and the table is made and closed.
use Rattle.std.proofs.Common.{◌≡◌, ◌≢◌, ⊎_elim, inl, ℕ, zero, suc, ◌<◌, ◌==◌, Bool, true, false, List, [], ◌∷◌, ◌++◌, set, map, replicate, length, ap, sym, ◌∙◌, refl, subst, arith, Option, None, if◌then◌else◌}
use Rattle.std.specs.Prelude.{slice_index}
use Rattle.std.proofs.lemmas.Bool.{cases_eq}
use Rattle.std.proofs.lemmas.Option.{none-some}
use mathlib.Core.Option.{some, some-injective, some-ne-none}
use lib.ListN.{get_elem?}
use Rattle.atomic_table.specs.Table.{Splits, Joins, opening}
use Rattle.atomic_table.proofs.Lists.{at_set, at_snoc, at_longer, set_else}
use Rattle.tb_types.specs.declared.element.OsmId.{OsmId}
use Rattle.tb_types.proofs.Seats.{before_set, seats_open, seats_split, seats_join}
use Rattle.shard_store.specs.declared.rule.View.{View}
use Rattle.shard_store.specs.Ids.{shard_number}
use Rattle.shard_store.specs.Join.{Entry}
use Rattle.shard_store.specs.Rule.{count_of, opener, kept_by, given_by, gathered, spent, put_by_all, IsSound, IsKept}
use Rattle.shard_store.proofs.Views.{joined_same, joined_push, joined_moved}
use Rattle.shard_store.proofs.Steps.{at_place, held_by, shown, kept_sound}

module _ {V : Type 0} (both : V → V → V) (assoc : (x y z : V) → both (both x y) z ≡ both x (both y z)) (comm : (x y : V) → both x y ≡ both y x) where
  abbrev Pile : Type 0
  Pile = List (Entry V)

  -- a seat more
  pub deals : (id : ℕ) (v : View V) → v.live ≡ 1 → v.first ≡ true → Splits (IsKept both) id v (kept_by v) (given_by v)
  deals id v live lead s h at =
      let w : View V = kept_by v in
      let n : View V = given_by v in
      let ws = set s.views id w in
      let vs = ws ++ n ∷ [] in
      let mine = h.each id v at in
      let same : (m : OsmId) → put_by_all both vs m ≡ put_by_all both s.views m = λ m. joined_push both assoc comm m ws n refl ∙ joined_same both assoc comm m s.views id v w at refl in
      shown both assoc comm s vs h same
      (seats_split count_of s.views id v w n h.seats at lead refl refl)
      (λ k o.
      ⊎_elim
      (λ (e : o.0 ≡ id). (id, w, o.2, at_longer ws (n ∷ []) id w (at_place s.views id v w at), held_by both assoc comm s k id v at o e))
      (λ (other : o.0 ≢ id). (o.0, o.1, o.2, at_longer ws (n ∷ []) o.0 o.1 (set_else s.views id o.0 w other ∙ o.3), o.4))
      (cases_eq o.0 id))
      (λ i u e.
      ⊎_elim
      (λ (old : get_elem? ws i ≡ some u).
      ⊎_elim
      (λ (it : (i ≡ id) × (w ≡ u)).
      subst (λ y. IsSound both (record { words = s.words; homes = s.homes; views = vs }) h.owner i y) it.1
      (kept_sound both assoc comm s vs h same i w (record {
        over = mine.over;
        holds = λ k c eq. (let t = mine.holds k c eq in (t.0, t.1 ∙ sym it.0, t.2, t.3));
      })))
      (λ (it : (i ≢ id) × (get_elem? s.views i ≡ some u)). kept_sound both assoc comm s vs h same i u (h.each i u it.1))
      (at_set s.views id i w u old))
      (λ (new : n ≡ u).
      subst (λ y. IsSound both (record { words = s.words; homes = s.homes; views = vs }) h.owner i y) new
      (record { over = λ z. absurd (omega arith); holds = λ k c eq. absurd (none-some _ eq) }))
      (at_snoc ws n u i e))

  -- a seat less
  pub gathers : (id : ℕ) (v : View V) (other : ℕ) (w : View V) → v.live ≡ 1 → w.live ≡ 1 → v.first ≡ true → w.hold ≡ None → Joins (IsKept both) id v other w (gathered v w) spent
  gathers id v other w live live_too lead rests s h at apart there =
      let g : View V = gathered v w in
      let was : get_elem? s.views other ≡ some w = before_set s.views id other g w apart there in
      let ws = set s.views id g in
      let vs = set ws other spent in
      let mine = h.each id v at in
      let same : (m : OsmId) → put_by_all both vs m ≡ put_by_all both s.views m = λ m. joined_moved both assoc comm m s.views id other v w g spent (λ e. apart (sym e)) at was refl refl in
      shown both assoc comm s vs h same
      (seats_join count_of s.views id v other w g spent h.seats at lead apart there live_too refl refl)
      (λ k o.
      let not_other : o.0 ≢ other = λ e. none-some _ (sym rests ∙ held_by both assoc comm s k other w was o e) in
      ⊎_elim
      (λ (e : o.0 ≡ id). (id, g, o.2, set_else ws other id spent (λ z. apart (sym z)) ∙ at_place s.views id v g at, held_by both assoc comm s k id v at o e))
      (λ (not_id : o.0 ≢ id). (o.0, o.1, o.2, set_else ws other o.0 spent not_other ∙ set_else s.views id o.0 g not_id ∙ o.3, o.4))
      (cases_eq o.0 id))
      (λ i u e.
      ⊎_elim
      (λ (it : (i ≡ other) × (spent ≡ u)).
      subst (λ y. IsSound both (record { words = s.words; homes = s.homes; views = vs }) h.owner i y) it.1
      (record { over = λ z. (refl, refl); holds = λ k c eq. absurd (none-some _ eq) }))
      (λ (it : (i ≢ other) × (get_elem? ws i ≡ some u)).
      ⊎_elim
      (λ (t : (i ≡ id) × (g ≡ u)).
      subst (λ y. IsSound both (record { words = s.words; homes = s.homes; views = vs }) h.owner i y) t.1
      (kept_sound both assoc comm s vs h same i g (record {
        over = λ z. absurd (omega arith);
        holds = λ k c eq. (let b = mine.holds k c eq in (b.0, b.1 ∙ sym t.0, b.2, b.3));
      })))
      (λ (t : (i ≢ id) × (get_elem? s.views i ≡ some u)). kept_sound both assoc comm s vs h same i u (h.each i u t.1))
      (at_set s.views id i g u it.1))
      (at_set ws other i spent u e))

  -- the table at the start
  at_replicate : {A : Type 0} (n k : ℕ) (a : A) → k < n → get_elem? (map some (replicate n a)) k ≡ some (some a)
  at_replicate zero k a h = absurd (omega arith)
  at_replicate (suc n) zero a h = refl
  at_replicate (suc n) (suc k) a h = at_replicate n k a (omega arith)

  length_replicate : {A : Type 0} (n : ℕ) (a : A) → length (replicate n a) ≡ n
  length_replicate zero a = refl
  length_replicate (suc n) a = ap suc (length_replicate n a)

  length_somes : {A : Type 0} (xs : List A) → length (map some xs) ≡ length xs
  length_somes [] = refl
  length_somes (x ∷ xs) = ap suc (length_somes xs)

  word_replicate : (n k : ℕ) → slice_index (replicate n 0) k ≡ 0
  word_replicate zero k = refl
  word_replicate (suc n) zero = refl
  word_replicate (suc n) (suc k) = word_replicate n k

  nothing_shown : (k : ℕ) (id : OsmId) (t : Bool) → ◌≡◌ {A = Option V} None (if t then put_by_all both (opener ∷ []) id else None)
  nothing_shown k id true = refl
  nothing_shown k id false = refl

  pub opens : (ws : List ℕ) (xs : List Pile) → ws ≡ replicate 64 0 → xs ≡ replicate 64 [] → IsKept both (opening ws xs opener)
  opens ws xs words slots =
      subst (λ l. IsKept both (opening l xs opener)) (sym words) (subst (λ l. IsKept both (opening (replicate 64 0) l opener)) (sym slots)
      (record {
        owner = λ k. 0;
        words = length_replicate {A = ℕ} 64 0;
        homes = length_somes {A = Pile} (replicate 64 []) ∙ length_replicate {A = Pile} 64 [];
        seats = seats_open count_of opener refl;
        free = λ k less zero_there. ([], at_replicate {A = Pile} 64 k [] less, λ id. nothing_shown k id (shard_number id == k));
        taken = λ k less. inl (word_replicate 64 k);
        each = λ i v e. sound i v e;
      }))
    where
      sound : (i : ℕ) (v : View V) → get_elem? (opener ∷ []) i ≡ some v → IsSound both (opening (replicate 64 0) (replicate 64 []) opener) (λ k. 0) i v
      sound zero v e = subst (IsSound both (opening (replicate 64 0) (replicate 64 []) opener) (λ k. 0) 0) (some-injective opener v e)
          (record { over = λ z. absurd (omega arith); holds = λ k c eq. absurd (none-some _ eq) })
      sound (suc i) v e = absurd (some-ne-none v (sym e))
