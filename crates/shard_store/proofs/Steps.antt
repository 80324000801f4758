-- Each step keeps the rule of the shards.
use Rattle.std.proofs.Common.{◌≡◌, ◌≢◌, ⊎_elim, inl, inr, ℕ, zero, suc, ◌<◌, ◌==◌, Bool, List, [], ◌∷◌, ◌++◌, set, length, drop, ap, sym, ◌∙◌, refl, subst, arith, Option, Some, None, if◌then◌else◌}
use Rattle.std.specs.Prelude.{slice_index}
use Rattle.std.proofs.lemmas.List.{get_or-set_same, get_or-set_other, length-set, set-get_or}
use Rattle.std.proofs.lemmas.Bool.{eq-eqb, ne_eqb, cases_eq}
use Rattle.std.proofs.lemmas.Option.{none-some, some_pair_parts}
use mathlib.Core.Option.{some, none, some-injective, some-ne-none}
use lib.ListN.{get_elem?}
use prog.Atomic.{either}
use Rattle.atomic_table.specs.Table.{State, Me, Act, Allows, Valid, keeps, takes, gives, stepped, step, rest, carried_after}
use Rattle.atomic_table.proofs.Lists.{at_set, set_here, set_else, exchanged}
use Rattle.tb_types.specs.Seats.{AreSeats}
use Rattle.tb_types.specs.declared.element.OsmId.{OsmId}
use Rattle.tb_types.proofs.Seats.{seats_stay}
use Rattle.shard_store.specs.declared.rule.View.{View}
use Rattle.shard_store.specs.Join.{Entry}
use Rattle.shard_store.specs.Facts.{IsOfShard}
use Rattle.shard_store.specs.Rule.{count_of, taker, misser, giver, behind, added, put_by_all, IsContent, IsSound, IsKept, Taken, Given}
use Rattle.shard_store.proofs.Views.{joined_same, content_same, content_grown, content_other}

pub at_place : {A : Type 0} (vs : List A) (i : ℕ) (v w : A) → get_elem? vs i ≡ some v → get_elem? (set vs i w) i ≡ some w
at_place [] i v w e = absurd (some-ne-none v (sym e))
at_place (x ∷ xs) zero v w e = refl
at_place (x ∷ xs) (suc i) v w e = at_place xs i v w e

drop_length : {A : Type 0} (xs ys : List A) → drop (length xs) (xs ++ ys) ≡ ys
drop_length [] ys = refl
drop_length (x ∷ xs) ys = drop_length xs ys

module _ {V : Type 0} (both : V → V → V) (assoc : (x y z : V) → both (both x y) z ≡ both x (both y z)) (comm : (x y : V) → both x y ≡ both y x) where
  abbrev Pile : Type 0
  Pile = List (Entry V)

  -- who has a turn, in a rule
  abbrev pub Holder : State Pile (View V) → ℕ → Type 0
  Holder s k = (i : ℕ) × (v : View V) × (content : Pile) × (get_elem? s.views i ≡ some v) × (v.hold ≡ Some (k, content))

  -- one seat has this view: whoever holds a turn there has it too
  pub held_by : (s : State Pile (View V)) (k id : ℕ) (v : View V) → get_elem? s.views id ≡ some v → (o : Holder s k) → o.0 ≡ id → v.hold ≡ Some (k, o.2)
  held_by s k id v at o same = ap (λ (y : View V). y.hold) (sym (some-injective o.1 v (sym o.3 ∙ ap (get_elem? s.views) same ∙ at))) ∙ o.4

  -- words and slots stay, and so does the join over all seats
  pub shown : (s : State Pile (View V)) (vs : List (View V)) (h : IsKept both s) → ((n : OsmId) → put_by_all both vs n ≡ put_by_all both s.views n) → AreSeats count_of vs
      → ((k : ℕ) → Holder s k → Holder (record { words = s.words; homes = s.homes; views = vs }) k)
      → ((i : ℕ) (u : View V) → get_elem? vs i ≡ some u → IsSound both (record { words = s.words; homes = s.homes; views = vs }) h.owner i u)
      → IsKept both (record { words = s.words; homes = s.homes; views = vs })
  shown s vs h same seats holders each = record {
    owner = h.owner;
    words = h.words;
    homes = h.homes;
    seats = seats;
    free = λ j less zero_there. (let f = h.free j less zero_there in (f.0, f.1, content_same both assoc comm j s.views vs f.0 same f.2));
    taken = λ j less. ⊎_elim (λ (z : slice_index s.words j ≡ 0). inl z) (λ (o : Holder s j). inr (holders j o)) (h.taken j less);
    each = each;
  }

  -- a sound seat stays so
  pub kept_sound : (s : State Pile (View V)) (vs : List (View V)) (h : IsKept both s) → ((n : OsmId) → put_by_all both vs n ≡ put_by_all both s.views n) → (i : ℕ) (u : View V) → IsSound both s h.owner i u
      → IsSound both (record { words = s.words; homes = s.homes; views = vs }) h.owner i u
  kept_sound s vs h same i u sound = record {
    over = sound.over;
    holds = λ k c e. (let t = sound.holds k c e in (t.0, t.1, t.2, content_same both assoc comm k s.views vs c same t.3));
  }

  -- another seat stays sound where its turn, its word and the content that it knows stay
  still : (s s' : State Pile (View V)) (owner owner' : ℕ → ℕ) (i : ℕ) (u : View V) → IsSound both s owner i u
      → ((k : ℕ) (c : Pile) → owner k ≡ i → slice_index s.words k ≡ 1 → IsContent both k s.views c → (owner' k ≡ i) × (slice_index s'.words k ≡ 1) × IsContent both k s'.views c) → IsSound both s' owner' i u
  still s s' owner owner' i u sound same = record {
    over = sound.over;
    holds = λ k c e. (let h = sound.holds k c e in let t = same k c h.1 h.2 h.3 in (h.0, t.0, t.1, t.2));
  }

  takes_turn : (s : State Pile (View V)) (h : IsKept both s) (id k : ℕ) (c : Pile) (me : Me Pile (View V)) → k < 64 → me.0.live ≡ 1 → get_elem? s.views id ≡ some me.0 → slice_index s.words k ≡ 0
      → IsContent both k s.views c → me.0.hold ≡ None → IsKept both (stepped s k 1 id me.1 (taker me.0 k c) (takes k c))
  takes_turn s h id k c me below live at free content rests =
      let v = me.0 in
      let w : View V = taker v k c in
      let after = stepped s k 1 id me.1 w (takes k c) in
      let owner' : ℕ → ℕ = λ j. if j == k then id else h.owner j in
      let inside : k < length s.words = let a = h.words in omega arith in
      let here : slice_index (set s.words k 1) k ≡ 1 = get_or-set_same s.words k 1 0 inside in
      let same : (n : OsmId) → put_by_all both (set s.views id w) n ≡ put_by_all both s.views n = λ n. joined_same both assoc comm n s.views id v w at refl in
      let there : get_elem? (set s.views id w) id ≡ some w = at_place s.views id v w at in
      record {
        owner = owner';
        words = length-set s.words k 1 ∙ h.words;
        homes = length-set s.homes k none ∙ h.homes;
        seats = seats_stay count_of s.views id v w h.seats at refl;
        free = λ j less zero_there.
            ⊎_elim
            (λ (is : j ≡ k). absurd (let a : slice_index (set s.words k 1) k ≡ 0 = ap (slice_index (set s.words k 1)) (sym is) ∙ zero_there in omega arith))
            (λ (apart : j ≢ k).
            let f = h.free j less (sym (get_or-set_other s.words k j 1 0 apart) ∙ zero_there) in
            (f.0, set_else s.homes k j none apart ∙ f.1, content_same both assoc comm j s.views (set s.views id w) f.0 same f.2))
            (cases_eq j k);
        taken = λ j less.
            ⊎_elim
            (λ (is : j ≡ k). inr (id, w, c, there, ap (λ n. Some (n, c)) (sym is)))
            (λ (apart : j ≢ k).
            ⊎_elim
            (λ (z : slice_index s.words j ≡ 0). inl (get_or-set_other s.words k j 1 0 apart ∙ z))
            (λ (o : Holder s j).
            let other : o.0 ≢ id = λ e. none-some _ (sym rests ∙ held_by s j id v at o e) in
            inr (o.0, o.1, o.2, set_else s.views id o.0 w other ∙ o.3, o.4))
            (h.taken j less))
            (cases_eq j k);
        each = λ i u e.
            ⊎_elim
            (λ (it : (i ≡ id) × (w ≡ u)).
            subst (λ (y : View V). IsSound both after owner' i y) it.1
            (record {
              over = λ z. absurd (omega arith);
              holds = λ j d eq.
                  let is = some_pair_parts k j c d eq in (
                    subst (λ n. n < 64) is.0 below,
                    ap (λ (q : Bool). if q then id else h.owner j) (eq-eqb j k (sym is.0)) ∙ sym it.0,
                    ap (slice_index (set s.words k 1)) (sym is.0) ∙ here,
                    subst (λ m. IsContent both m (set s.views id w) d) is.0 (subst (IsContent both k (set s.views id w)) is.1 (content_same both assoc comm k s.views (set s.views id w) c same content)),
                  );
            }))
            (λ (it : (i ≢ id) × (get_elem? s.views i ≡ some u)).
            still s after h.owner owner' i u (h.each i u it.1)
            (λ j d own one_there known.
            let apart : j ≢ k = λ is. (let a : slice_index s.words j ≡ 0 = ap (slice_index s.words) is ∙ free in omega arith) in
            (ap (λ (q : Bool). if q then id else h.owner j) (ne_eqb j k apart) ∙ own, get_or-set_other s.words k j 1 0 apart ∙ one_there, content_same both assoc comm j s.views (set s.views id w) d same known)))
            (at_set s.views id i w u e);
      }

  -- a seat found a turn taken, and counts this
  meets_turn : (s : State Pile (View V)) (h : IsKept both s) (id : ℕ) (v : View V) → get_elem? s.views id ≡ some v → IsKept both (record { words = s.words; homes = s.homes; views = set s.views id (misser v) })
  meets_turn s h id v at =
      let w : View V = misser v in
      let vs = set s.views id w in
      let same : (n : OsmId) → put_by_all both vs n ≡ put_by_all both s.views n = λ n. joined_same both assoc comm n s.views id v w at refl in
      shown s vs h same (seats_stay count_of s.views id v w h.seats at refl)
      (λ k o.
      ⊎_elim
      (λ (e : o.0 ≡ id). (id, w, o.2, at_place s.views id v w at, held_by s k id v at o e))
      (λ (other : o.0 ≢ id). (o.0, o.1, o.2, set_else s.views id o.0 w other ∙ o.3, o.4))
      (cases_eq o.0 id))
      (λ i u e.
      ⊎_elim
      (λ (it : (i ≡ id) × (w ≡ u)).
      let sound = h.each id v at in
      subst (λ y. IsSound both (record { words = s.words; homes = s.homes; views = vs }) h.owner i y) it.1
      (kept_sound s vs h same i w (record { over = sound.over; holds = λ k c eq. (let t = sound.holds k c eq in (t.0, t.1 ∙ sym it.0, t.2, t.3)) })))
      (λ (it : (i ≢ id) × (get_elem? s.views i ≡ some u)). kept_sound s vs h same i u (h.each i u it.1))
      (at_set s.views id i w u e))

  pub takes_one : (slots id k : ℕ) (me : Me Pile (View V)) → k < 64 → me.0.live ≡ 1 → me.0.hold ≡ None
      → Allows (IsKept both) slots id me k (λ n. either (n == 0) 1 n) (λ found after. Taken (step slots k 0 1 none) me found after)
  takes_one slots id k me below live rests s h homes at fits =
      let n = slice_index s.words k in
      exchanged n 0 1 (λ m. (w : View V) × (a : Act Pile) × Valid s.homes me.1 a × IsKept both (stepped s k m id me.1 w a) × Taken (step slots k 0 1 none) me n (w, carried_after me.1 a))
      (λ (is : n ≡ 0).
      let f = h.free k below is in
      (taker me.0 k f.0, takes k f.0, f.1, takes_turn s h id k f.0 me below live at is f.2 rests, ((λ _. (f.0, refl)), λ not_zero. absurd (not_zero is))))
      (λ (not_zero : n ≢ 0).
      let words : set s.words k n ≡ s.words = set-get_or s.words k 0 in (
        misser me.0,
        keeps,
        tt,
        subst (λ (y : List ℕ). IsKept both (record { words = y; homes = s.homes; views = set s.views id (misser me.0) })) (sym words) (meets_turn s h id me.0 at),
        ((λ is. absurd (not_zero is)), λ _. refl),
      ))

  -- the turn is given back, and the slot has what the shard then holds
  leaves : (id k : ℕ) (c x : Pile) (v : View V) → k < 64 → v.live ≡ 1 → v.hold ≡ Some (k, c) → IsOfShard k x → (s : State Pile (View V)) → IsKept both s → get_elem? s.views id ≡ some v
      → IsKept both (record { words = set s.words k 0; homes = set s.homes k (some (c ++ x)); views = set s.views id (giver v x) })
  leaves id k c x v below live holds of_shard s h at =
      let w : View V = giver v x in
      let new = c ++ x in
      let sound = h.each id v at in
      let mine = sound.holds k c holds in
      let inside : k < length s.words = let a = h.words in omega arith in
      let inside' : k < length s.homes = let a = h.homes in omega arith in
      let after : State Pile (View V) = record { words = set s.words k 0; homes = set s.homes k (some new); views = set s.views id w } in
      let other_content : (j : ℕ) (d : Pile) → j ≢ k → IsContent both j s.views d → IsContent both j (set s.views id w) d = λ j d apart known. content_other both assoc comm k j s.views id v w d x apart at refl of_shard known in
      record {
        owner = h.owner;
        words = length-set s.words k 0 ∙ h.words;
        homes = length-set s.homes k (some new) ∙ h.homes;
        seats = seats_stay count_of s.views id v w h.seats at refl;
        free = λ j less zero_there.
            ⊎_elim
            (λ (is : j ≡ k). (
              new,
              ap (get_elem? (set s.homes k (some new))) is ∙ set_here s.homes k (some new) inside',
              subst (λ m. IsContent both m (set s.views id w) new) (sym is) (content_grown both assoc comm k s.views id v w c x at refl of_shard mine.3),
            ))
            (λ (apart : j ≢ k).
            let f = h.free j less (sym (get_or-set_other s.words k j 0 0 apart) ∙ zero_there) in
            (f.0, set_else s.homes k j (some new) apart ∙ f.1, other_content j f.0 apart f.2))
            (cases_eq j k);
        taken = λ j less.
            ⊎_elim
            (λ (is : j ≡ k). inl (ap (slice_index (set s.words k 0)) is ∙ get_or-set_same s.words k 0 0 inside))
            (λ (apart : j ≢ k).
            ⊎_elim
            (λ (z : slice_index s.words j ≡ 0). inl (get_or-set_other s.words k j 0 0 apart ∙ z))
            (λ (o : Holder s j).
            let other : o.0 ≢ id = λ e. apart (sym (some_pair_parts k j c o.2 (sym holds ∙ held_by s j id v at o e)).0) in
            inr (o.0, o.1, o.2, set_else s.views id o.0 w other ∙ o.3, o.4))
            (h.taken j less))
            (cases_eq j k);
        each = λ i u e.
            ⊎_elim
            (λ (it : (i ≡ id) × (w ≡ u)).
            subst (λ (y : View V). IsSound both after h.owner i y) it.1
            (record {
              over = λ z. absurd (omega arith);
              holds = λ j d eq. absurd (none-some _ eq);
            }))
            (λ (it : (i ≢ id) × (get_elem? s.views i ≡ some u)).
            still s after h.owner h.owner i u (h.each i u it.1)
            (λ j d own one_there known.
            let apart : j ≢ k = λ is. it.0 (sym own ∙ ap h.owner is ∙ mine.1) in
            (own, get_or-set_other s.words k j 0 0 apart ∙ one_there, other_content j d apart known)))
            (at_set s.views id i w u e);
      }

  gives_turn : (slots id k : ℕ) (c x : Pile) (me : Me Pile (View V)) → k < 64 → me.0.live ≡ 1 → me.0.hold ≡ Some (k, c) → me.1 ≡ (k, c ++ x) ∷ rest me.1 → added me ≡ x → IsOfShard k x
      → Allows (IsKept both) slots id me k (λ _. 0) (λ _ after. Given (step slots k 0 0 none) me 0 after)
  gives_turn slots id k c x me below live holds has is of_shard s h homes at fits =
      let w : View V = giver me.0 (added me) in (
        w,
        gives,
        tt,
        subst (λ (l : List (ℕ × Pile)). IsKept both (stepped s k 0 id l w gives)) (sym has)
            (subst (λ (y : Pile). IsKept both (record { words = set s.words k 0; homes = set s.homes k (some (c ++ x)); views = set s.views id (giver me.0 y) })) (sym is) (leaves id k c x me.0 below live holds of_shard s h at)),
        refl,
      )

  abbrev value_of : List (ℕ × Pile) → Pile
  value_of [] = []
  value_of (y ∷ ys) = y.1

  -- what is known once the slot was moved out and in again, with more behind what lay there
  module _ (k : ℕ) (x old new gap : Pile) (before took out back : Me Pile (View V))
      (taken : (content : Pile) × (took ≡ (taker before.0 k content, (k, content) ∷ before.1)))
      (was : took.1 ≡ (k, old) ∷ rest took.1) (moved : out ≡ (took.0, (k, gap) ∷ rest took.1)) (returned : back ≡ (out.0, (k, new) ∷ rest out.1)) (is : new ≡ old ++ x) where
    view_is : back.0 ≡ taker before.0 k taken.0
    view_is = ap (λ m. m.0) returned ∙ ap (λ m. m.0) moved ∙ ap (λ m. m.0) taken.1

    same_slot : taken.0 ≡ old
    same_slot = ap value_of (sym (ap (λ m. m.1) taken.1) ∙ was)

    list_is : back.1 ≡ (k, old ++ x) ∷ rest back.1
    list_is = ap (λ m. m.1) returned ∙ ap (λ l. (k, new) ∷ l) (sym (ap (λ m. rest m.1) returned)) ∙ ap (λ l. (k, l) ∷ rest back.1) is

    rest_is : rest back.1 ≡ before.1
    rest_is = ap (λ m. rest m.1) returned ∙ ap (λ m. rest m.1) moved ∙ ap (λ m. rest m.1) taken.1

    hold_is : back.0.hold ≡ Some (k, old)
    hold_is = ap (λ (v : View V). v.hold) view_is ∙ ap (λ c. Some (k, c)) same_slot

    added_is : added back ≡ x
    added_is = ap (λ (o : Option (ℕ × Pile)). behind o back.1) hold_is ∙ ap (behind (Some (k, old))) list_is ∙ drop_length old x

    pub gives_back : (slots id : ℕ) → k < 64 → before.0.live ≡ 1 → IsOfShard k x → Allows (IsKept both) slots id back k (λ _. 0) (λ _ after. Given (step slots k 0 0 none) back 0 after)
    gives_back slots id below live of_shard = gives_turn slots id k old x back below (ap (λ (v : View V). v.live) view_is ∙ live) hold_is list_is added_is of_shard

    -- the seat after the turn was given back
    pub given_is : (end : Me Pile (View V)) → end ≡ (giver back.0 (added back), rest back.1) → end ≡ (giver before.0 x, before.1)
    given_is end e = e ∙ (λ i. (giver (view_is i) (added_is i), rest_is i))
