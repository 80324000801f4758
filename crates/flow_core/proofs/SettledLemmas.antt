-- Where nothing is left, units are settled; and what that means of what was done.
use Rattle.std.proofs.Common.{◌≡◌, ℕ, zero, suc, ◌+◌, ◌<◌, ◌==◌, Bool, true, false, cond, nat_lt, Option, Some, None, option_to_list, slice_get, List, [], ◌∷◌, ◌++◌, length, map, sym, ap, refl, arith}
use Rattle.std.specs.List.{sum_by, concat, filter}
use Rattle.std.proofs.lemmas.Bool.{cond-true, cond-false, ne_eqb, lt-ltb, eq-eqb}
use Rattle.std.proofs.lemmas.Bool.Decides.{nat_tests}
use Rattle.std.proofs.lemmas.List.{map_push, nil_from_length}
use Rattle.std.proofs.lemmas.List.Sums.{sum_by-cons, sum_by-append}
use Rattle.std.proofs.lemmas.List.Elements.{All-head, All-tail}
use Rattle.tb_types.specs.Bags.{below, IsEachOnce, IsSameBag}
use Rattle.flow_core.specs.declared.lane.LaneState.{LaneState}
use Rattle.flow_core.specs.declared.lane.Entry.{Entry}
use Rattle.flow_core.specs.Lanes.{own_unit, work_unit, own_left, work_left, lane_left}
use Rattle.flow_core.specs.declared.lane.Own.{Own}
use Rattle.flow_core.specs.declared.lane.Own.TheVariants.{Free, Claimed, Booked, Loaded}
use Rattle.flow_core.specs.declared.lane.Work.{Work}
use Rattle.flow_core.specs.declared.lane.Work.TheVariants.{Idle, Popped, Stored, Emitted}
use Rattle.flow_core.specs.State.{CoreState, need_of, left_of}
use Rattle.flow_core.specs.Kept.{units, in_hand, each_lane, own_entry, work_entry, owned, worked, own_need, unit_need, lane_need, IsOfLanes, IsKept}
use Rattle.flow_core.specs.Settled.{list_at, Settled, of_lane, by_lane, own_of, work_of, IsKeptInLane}
use Rattle.flow_core.specs.Laws.{IsSettled}
use Rattle.flow_core.proofs.BagLemmas.{sum_by-map}

-- two lists of lists that agree in each list have the same in all
same_concat : (w : ℕ → ℕ) (xs ys : List (List ℕ)) → ((lane : ℕ) → sum_by w (list_at xs lane) ≡ sum_by w (list_at ys lane)) → sum_by w (concat xs) ≡ sum_by w (concat ys)
same_concat w [] [] h = refl
same_concat w [] (y ∷ ys) h =
    let here = h 0 in
    let a = sum_by-append w y (concat ys) in
    let r = same_concat w [] ys (λ lane. h (suc lane)) in omega arith
same_concat w (x ∷ xs) [] h =
    let here = h 0 in
    let a = sum_by-append w x (concat xs) in
    let r = same_concat w xs [] (λ lane. h (suc lane)) in omega arith
same_concat w (x ∷ xs) (y ∷ ys) h =
    let here = h 0 in
    let a = sum_by-append w x (concat xs) in
    let b = sum_by-append w y (concat ys) in
    let r = same_concat w xs ys (λ lane. h (suc lane)) in omega arith

-- so all that was done is each number below n once
pub done_once : (n : ℕ) (claims pushed popped done : List (List ℕ)) → Settled n claims pushed popped done → IsEachOnce n (concat done)
done_once n claims pushed popped done h = λ x.
    let w : ℕ → ℕ = λ y. cond (y == x) 1 0 in
    let a = same_concat w done popped (λ lane. h.lane_did lane w) in
    let b = h.moved w in
    let c = same_concat w claims pushed (λ lane. h.lane_pushed lane w) in
    let d = h.claimed_once x in omega arith

-- an entry's weight, if it is of the lane; if it is of a lane below m
abbrev only : (ℕ → ℕ) → ℕ → Entry → ℕ
only w lane entry = cond (entry.lane == lane) (w entry.unit) 0

abbrev before : (ℕ → ℕ) → ℕ → Entry → ℕ
before w m entry = cond (nat_lt entry.lane m) (w entry.unit) 0

-- one lane's units
first_weighs : (w : ℕ → ℕ) (e : Entry) (xs : List Entry) (b : Bool) → sum_by w (units (cond b (e ∷ xs) xs)) ≡ cond b (w e.unit) 0 + sum_by w (units xs)
first_weighs w e xs true = sum_by-cons w e.unit (units xs)
first_weighs w e xs false = omega arith

of_lane_weighs : (w : ℕ → ℕ) (lane : ℕ) (entries : List Entry) → sum_by w (of_lane entries lane) ≡ sum_by (only w lane) entries
of_lane_weighs w lane [] = refl
of_lane_weighs w lane (e ∷ entries) =
    let a = first_weighs w e (filter (λ (x : Entry). x.lane == lane) entries) (e.lane == lane) in
    let b = sum_by-cons (only w lane) e entries in
    let r = of_lane_weighs w lane entries in omega arith

-- sums of sums
sum_by-add : {A : Type 0} (f g h : A → ℕ) (xs : List A) → ((x : A) → h x ≡ f x + g x) → sum_by h xs ≡ sum_by f xs + sum_by g xs
sum_by-add f g h [] e = refl
sum_by-add f g h (x ∷ xs) e =
    let here = e x in
    let a = sum_by-cons f x xs in
    let b = sum_by-cons g x xs in
    let c = sum_by-cons h x xs in
    let r = sum_by-add f g h xs e in omega arith

sum_by-none : {A : Type 0} (f : A → ℕ) (xs : List A) → ((x : A) → f x ≡ 0) → sum_by f xs ≡ 0
sum_by-none f [] e = refl
sum_by-none f (x ∷ xs) e =
    let here = e x in
    let a = sum_by-cons f x xs in
    let r = sum_by-none f xs e in omega arith

concat_push : (w : ℕ → ℕ) (xs : List (List ℕ)) (y : List ℕ) → sum_by w (concat (xs ++ y ∷ [])) ≡ sum_by w (concat xs) + sum_by w y
concat_push w [] y = let a = sum_by-append w y [] in omega arith
concat_push w (x ∷ xs) y =
    let a = sum_by-append w x (concat (xs ++ y ∷ [])) in
    let b = sum_by-append w x (concat xs) in
    let r = concat_push w xs y in omega arith

-- one lane more
one_more : (x m v : ℕ) → cond (nat_lt x (suc m)) v 0 ≡ cond (nat_lt x m) v 0 + cond (x == m) v 0
one_more x m v = grind (arith, nat_tests)

none_before : (x v : ℕ) → cond (nat_lt x 0) v 0 ≡ 0
none_before x v = grind (arith, nat_tests)

-- all lanes below m together
together : (w : ℕ → ℕ) (entries : List Entry) (m : ℕ) → sum_by w (concat (by_lane m entries)) ≡ sum_by (before w m) entries
together w entries zero = sym (sum_by-none (before w 0) entries (λ e. none_before e.lane (w e.unit)))
together w entries (suc m) =
    let a = ap (λ xs. sum_by w (concat xs)) (map_push (of_lane entries) (below m) m) in
    let b = concat_push w (map (of_lane entries) (below m)) (of_lane entries m) in
    let c = of_lane_weighs w m entries in
    let d = sum_by-add (before w m) (only w m) (before w (suc m)) entries (λ e. one_more e.lane m (w e.unit)) in
    let r = together w entries m in omega arith

all_before : (w : ℕ → ℕ) (m : ℕ) (entries : List Entry) → IsOfLanes m entries → sum_by (before w m) entries ≡ sum_by w (units entries)
all_before w m [] h = refl
all_before w m (e ∷ entries) h =
    let here = cond-true (nat_lt e.lane m) (w e.unit) 0 (lt-ltb e.lane m (All-head (λ (x : Entry). x.lane < m) e entries h)) in
    let a = sum_by-cons (before w m) e entries in
    let b = sum_by-cons w e.unit (units entries) in
    let r = all_before w m entries (All-tail (λ (x : Entry). x.lane < m) e entries h) in omega arith

-- lane by lane
lane_by_lane : (w : ℕ → ℕ) (f g : ℕ → List ℕ) (lanes : List ℕ) (k : ℕ) → ((lane : ℕ) → sum_by w (f lane) ≡ sum_by w (g lane)) → sum_by w (list_at (map f lanes) k) ≡ sum_by w (list_at (map g lanes) k)
lane_by_lane w f g [] k h = refl
lane_by_lane w f g (x ∷ lanes) zero h = h x
lane_by_lane w f g (x ∷ lanes) (suc k) h = lane_by_lane w f g lanes k h

same_lanes : (m : ℕ) (xs ys : List Entry) → IsSameBag xs ys → (lane : ℕ) → IsSameBag (list_at (by_lane m xs) lane) (list_at (by_lane m ys) lane)
same_lanes m xs ys h lane = λ w.
    lane_by_lane w (of_lane xs) (of_lane ys) (below m) lane (λ k.
    let a = of_lane_weighs w k xs in
    let b = of_lane_weighs w k ys in
    let c = h (only w k) in omega arith)

-- a lane's hand, by the entries of all hands
module _ (w : ℕ → ℕ) (g : LaneState → Option ℕ) (k : ℕ) where
  this_hand : (j : ℕ) (o : Option ℕ) → j ≡ k → sum_by (only w k) (in_hand j o) ≡ sum_by w (option_to_list o)
  this_hand j None e = refl
  this_hand j (Some unit) e =
      let a = cond-true (j == k) (w unit) 0 (eq-eqb j k e) in omega arith

  other_hand : (j : ℕ) (o : Option ℕ) → (j ≡ k → ⊥) → sum_by (only w k) (in_hand j o) ≡ 0
  other_hand j None e = refl
  other_hand j (Some unit) e =
      let a = cond-false (j == k) (w unit) 0 (ne_eqb j k e) in omega arith

  later_hands : (lanes : List LaneState) (j : ℕ) → k < j → sum_by (only w k) (each_lane (λ i l. in_hand i (g l)) j lanes) ≡ 0
  later_hands [] j h = refl
  later_hands (l ∷ lanes) j h =
      let a = sum_by-append (only w k) (in_hand j (g l)) (each_lane (λ i x. in_hand i (g x)) (suc j) lanes) in
      let b = other_hand j (g l) (λ e. absurd (omega arith)) in
      let less : k < suc j = omega arith in
      let r = later_hands lanes (suc j) less in omega arith

  lane_hand : (hand : Option LaneState → List ℕ) → hand None ≡ [] → ((l : LaneState) → hand (Some l) ≡ option_to_list (g l)) → (lanes : List LaneState) (j i : ℕ) → k ≡ j + i → sum_by (only w k) (each_lane (λ i l. in_hand i (g l)) j lanes) ≡ sum_by w (hand (slice_get lanes i))
  lane_hand hand none some [] j i e = sym (ap (sum_by w) none)
  lane_hand hand none some (l ∷ lanes) j zero e =
      let a = sum_by-append (only w k) (in_hand j (g l)) (each_lane (λ i x. in_hand i (g x)) (suc j) lanes) in
      let b = this_hand j (g l) (omega arith) in
      let c = ap (sum_by w) (some l) in
      let less : k < suc j = omega arith in
      let r = later_hands lanes (suc j) less in omega arith
  lane_hand hand none some (l ∷ lanes) j (suc i) e =
      let a = sum_by-append (only w k) (in_hand j (g l)) (each_lane (λ i x. in_hand i (g x)) (suc j) lanes) in
      let b = other_hand j (g l) (λ f. absurd (omega arith)) in
      let further : k ≡ suc j + i = omega arith in
      let r = lane_hand hand none some lanes (suc j) i further in omega arith

-- what is kept, lane by lane
pub kept_in_lane : (s : CoreState) (lane : ℕ) → IsKept s → IsKeptInLane s lane
kept_in_lane s lane h =
    let zero_k : lane ≡ 0 + lane = omega arith in
    record {
      claims = λ w.
          let a = of_lane_weighs w lane s.claims in
          let b = h.own (only w lane) in
          let c = sum_by-append (only w lane) (owned s.lanes) s.pushed in
          let d = lane_hand w (λ l. own_unit l.own) lane own_of refl (λ _. refl) s.lanes 0 lane zero_k in
          let e = of_lane_weighs w lane s.pushed in
          let f = sum_by-append w (own_of (slice_get s.lanes lane)) (of_lane s.pushed lane) in omega arith;
      popped = λ w.
          let a = of_lane_weighs w lane s.popped in
          let b = h.work (only w lane) in
          let c = sum_by-append (only w lane) (worked s.lanes) s.done in
          let d = lane_hand w (λ l. work_unit l.work) lane work_of refl (λ _. refl) s.lanes 0 lane zero_k in
          let e = of_lane_weighs w lane s.done in
          let f = sum_by-append w (of_lane s.done lane) (work_of (slice_get s.lanes lane)) in omega arith;
    }

-- a lane with nothing left has nothing in hand
pub none_own : (own : Own) → own_left own ≡ 0 → own ≡ Free
none_own Free e = refl
none_own _ e = absurd (omega arith)

pub none_work : (work : Work) → work_left work ≡ 0 → work ≡ Idle
none_work Idle e = refl
none_work _ e = absurd (omega arith)

none_in_hand : (w : Entry → ℕ) (unit : LaneState → Option ℕ) → ((l : LaneState) → lane_left l ≡ 0 → unit l ≡ None) → (lanes : List LaneState) (j : ℕ) → sum_by lane_left lanes ≡ 0 → sum_by w (each_lane (λ i l. in_hand i (unit l)) j lanes) ≡ 0
none_in_hand w unit none [] j e = refl
none_in_hand w unit none (l ∷ lanes) j e =
    let a = sum_by-cons lane_left l lanes in
    let b = ap (λ o. sum_by w (in_hand j o)) (none l (omega arith)) in
    let c = sum_by-append w (in_hand j (unit l)) (each_lane (λ i x. in_hand i (unit x)) (suc j) lanes) in
    let rest : sum_by lane_left lanes ≡ 0 = omega arith in
    let r = none_in_hand w unit none lanes (suc j) rest in omega arith

none_owned : (w : Entry → ℕ) (lanes : List LaneState) → sum_by lane_left lanes ≡ 0 → sum_by w (owned lanes) ≡ 0
none_owned w lanes = none_in_hand w (λ l. own_unit l.own) (λ l e. ap own_unit (none_own l.own (omega arith))) lanes 0

none_worked : (w : Entry → ℕ) (lanes : List LaneState) → sum_by lane_left lanes ≡ 0 → sum_by w (worked lanes) ≡ 0
none_worked w lanes = none_in_hand w (λ l. work_unit l.work) (λ l e. ap work_unit (none_work l.work (omega arith))) lanes 0

none_needed : (needs : List ℕ) (lanes : List LaneState) → sum_by lane_left lanes ≡ 0 → sum_by (lane_need needs) lanes ≡ 0
none_needed needs [] e = refl
none_needed needs (l ∷ lanes) e =
    let a = sum_by-cons lane_left l lanes in
    let b = ap (own_need needs) (none_own l.own (omega arith)) in
    let c = ap (λ o. unit_need needs (work_unit o)) (none_work l.work (omega arith)) in
    let d = sum_by-cons (lane_need needs) l lanes in
    let rest : sum_by lane_left lanes ≡ 0 = omega arith in
    let r = none_needed needs lanes rest in omega arith

-- where nothing is left, units are settled
pub settled_is : (s : CoreState) → IsKept s → left_of s ≡ 0 → IsSettled s
settled_is s h none =
    let within = h.claims.within in
    let all : s.next ≡ length s.needs = omega arith in
    let no_lane : sum_by lane_left s.lanes ≡ 0 = omega arith in
    let empty : s.queue ≡ [] = nil_from_length s.queue (omega arith) in
    let own : IsSameBag s.claims s.pushed = λ w.
    let a = h.own w in
    let b = sum_by-append w (owned s.lanes) s.pushed in
    let c = none_owned w s.lanes no_lane in omega arith in
    let work : IsSameBag s.done s.popped = λ w.
    let a = h.work w in
    let b = sum_by-append w (worked s.lanes) s.done in
    let c = none_worked w s.lanes no_lane in omega arith in
    let m = length s.lanes in
    record {
      units = record {
        claimed_once = λ x.
            let w : ℕ → ℕ = λ y. cond (y == x) 1 0 in
            let a = together w s.claims m in
            let b = all_before w m s.claims h.claims.of_lanes in
            let c = ap (sum_by w) h.claims.in_order in
            let d = ap (λ n. sum_by w (below n)) all in omega arith;
        moved = λ w.
            let a = together w s.pushed m in
            let b = own (before w m) in
            let c = all_before w m s.claims h.claims.of_lanes in
            let d = own (λ e. w e.unit) in
            let e = sum_by-map w (λ (x : Entry). x.unit) s.claims in
            let f = sum_by-map w (λ (x : Entry). x.unit) s.pushed in
            let g = h.queue.moved w in
            let i = sum_by-append w (units s.popped) s.queue in
            let j = ap (sum_by w) empty in
            let k = together w s.popped m in
            let l = all_before w m s.popped h.popped_of_lanes in omega arith;
        lane_pushed = same_lanes m s.claims s.pushed own;
        lane_did = same_lanes m s.done s.popped work;
      };
      nothing_booked =
          let a = h.booked.total in
          let b = none_needed s.needs s.lanes no_lane in
          let c = ap (sum_by (need_of s.needs)) empty in omega arith;
    }
