-- The steps among the events of the lanes follow the machine's state, and where nothing is left they are a whole pass.
use Rattle.std.proofs.Common.{◌≡◌, ℕ, zero, suc, ◌+◌, ◌≤◌, inl, inr, Bool, true, false, cond, nat_lt, nat_le, Option, Some, None, IfSome, option_map, unwrap_or, List, [], ◌∷◌, ◌++◌, flat_map, length, set, take, replicate, slice_get, slice_set, append_assoc, append-nil, sym, ap, refl, subst, ◌∙◌, arith}
use Rattle.std.specs.List.{sum_by}
use Rattle.std.proofs.lemmas.Bool.{cases_lt}
use Rattle.std.proofs.lemmas.List.{take-append-le, take_all, length-append, nil_from_length}
use Rattle.std.proofs.Math.Seq.{take-nil}
use Rattle.std.proofs.lemmas.List.Sums.{sum_by-cons, sum_by-append, sum_by_push}
use Rattle.std.proofs.lemmas.Option.{get_or_from_slice_get}
use Rattle.std.proofs.lemmas.Grind.{flat_map-append}
use Rattle.tb_types.specs.Bags.{below, times}
use Rattle.flow_core.specs.declared.event.Event.{Event}
use Rattle.flow_core.specs.declared.event.Event.TheVariants.{Claim, Book, Load, Push, Pop, Put, Emit, Give}
use Rattle.flow_core.specs.declared.lane.Own.{Own}
use Rattle.flow_core.specs.declared.lane.Work.{Work}
use Rattle.flow_core.specs.declared.lane.Own.TheVariants.{Free, Claimed, Booked, Loaded}
use Rattle.flow_core.specs.declared.lane.Work.TheVariants.{Idle, Popped, Stored, Emitted}
use Rattle.flow_core.specs.declared.lane.LaneState.{LaneState}
use Rattle.flow_core.specs.declared.lane.Entry.{Entry}
use Rattle.flow_core.specs.Lanes.{own_unit, work_unit, fresh_lane, lane_at, lane_left}
use Rattle.flow_core.specs.State.{CoreState, start_state, need_of, left_of}
use Rattle.flow_core.specs.Events.{lane_of, unit_in, unit_of, effect, entry_of, claim_effect, over_effect}
use Rattle.flow_core.specs.Runs.{step_of, run_of}
use Rattle.flow_core.specs.Kept.{units, in_hand, each_lane, work_entry, owned, worked, IsKept}
use Rattle.flow_core.proofs.BagLemmas.{sum_at, sum_by-map}
use Rattle.flow_core.proofs.EventLemmas.{lane, about, where_true, where_some}
use Rattle.flow_core.proofs.RunLemmas.{kept_step, kept_start, same_run}
use Rattle.flow_core.proofs.SettledLemmas.{none_own, none_work}
use Rattle.flow_core.specs.Laws.{MayStart}
use Rattle.pass_order.proofs.Times.{one}
use Rattle.pass_order.specs.declared.step.Step.{Step}
use Rattle.pass_order.specs.declared.step.Step.TheVariants as steps
use Rattle.pass_order.specs.Whole.{load_of, put_of, emit_of, loaded, stored, emitted, IsBehind, IsWhole, event_step, on_unit, steps_at, steps_along}

-- What a lane has in hand, weighed: a unit that it loaded and didn't push, one that it put, and one that it emitted.
abbrev pub own_loaded : (ℕ → ℕ) → Own → ℕ
own_loaded h Free = 0
own_loaded h (Claimed unit) = 0
own_loaded h (Booked unit) = 0
own_loaded h (Loaded unit) = h unit

abbrev pub work_put : (ℕ → ℕ) → Work → ℕ
work_put h Idle = 0
work_put h (Popped unit) = 0
work_put h (Stored unit) = h unit
work_put h (Emitted unit) = h unit

abbrev pub work_emitted : (ℕ → ℕ) → Work → ℕ
work_emitted h Idle = 0
work_emitted h (Popped unit) = 0
work_emitted h (Stored unit) = 0
work_emitted h (Emitted unit) = h unit

abbrev pub lane_loaded : (ℕ → ℕ) → LaneState → ℕ
lane_loaded h l = own_loaded h l.own

abbrev pub lane_put : (ℕ → ℕ) → LaneState → ℕ
lane_put h l = work_put h l.work

abbrev pub lane_emitted : (ℕ → ℕ) → LaneState → ℕ
lane_emitted h l = work_emitted h l.work

abbrev pub weight : (ℕ → ℕ) → Entry → ℕ
weight h entry = h entry.unit

-- What was loaded is what lanes have loaded and what they pushed; what was put or emitted is what they have so far and what they did.
pub record Follows (done : List Step) (lanes : List LaneState) (pushed finished : List Entry) : Type 0 where
  pub loads : (h : ℕ → ℕ) → sum_by h (loaded done) ≡ sum_by (lane_loaded h) lanes + sum_by (weight h) pushed
  pub puts : (h : ℕ → ℕ) → sum_by h (stored done) ≡ sum_by (lane_put h) lanes + sum_by (weight h) finished
  pub emits : (h : ℕ → ℕ) → sum_by h (emitted done) ≡ sum_by (lane_emitted h) lanes + sum_by (weight h) finished

abbrev pub FollowsState : List Step → CoreState → Type 0
FollowsState done s = Follows done s.lanes s.pushed s.done

grown : (h : ℕ → ℕ) (f : Step → List ℕ) (done extra : List Step) → sum_by h (flat_map f (done ++ extra)) ≡ sum_by h (flat_map f done) + sum_by h (flat_map f extra)
grown h f done extra = ap (sum_by h) (flat_map-append f done extra) ∙ sum_by-append h (flat_map f done) (flat_map f extra)

-- one lane changes, and steps are done with it
module _ (done : List Step) (s : CoreState) (k : ℕ) (l : LaneState) (at : slice_get s.lanes k ≡ Some l) (was : FollowsState done s) where
  changes : (extra : List Step) (l' : LaneState) (pushed finished : List Entry)
      → ((h : ℕ → ℕ) → lane_loaded h l + sum_by h (loaded extra) + sum_by (weight h) s.pushed ≡ lane_loaded h l' + sum_by (weight h) pushed)
      → ((h : ℕ → ℕ) → lane_put h l + sum_by h (stored extra) + sum_by (weight h) s.done ≡ lane_put h l' + sum_by (weight h) finished)
      → ((h : ℕ → ℕ) → lane_emitted h l + sum_by h (emitted extra) + sum_by (weight h) s.done ≡ lane_emitted h l' + sum_by (weight h) finished)
      → Follows (done ++ extra) (set s.lanes k l') pushed finished
  changes extra l' pushed finished a b c =
      record {
        loads = λ h. omega (arith, a h, was.loads h, grown h load_of done extra, sum_at (lane_loaded h) s.lanes k l l' at);
        puts = λ h. omega (arith, b h, was.puts h, grown h put_of done extra, sum_at (lane_put h) s.lanes k l l' at);
        emits = λ h. omega (arith, c h, was.emits h, grown h emit_of done extra, sum_at (lane_emitted h) s.lanes k l l' at);
      }

  by-set : (extra : List Step) (f : LaneState → LaneState) (pushed finished : List Entry) → Follows (done ++ extra) (set s.lanes k (f l)) pushed finished
      → Follows (done ++ extra) (slice_set s.lanes k (f (lane_at s.lanes k))) pushed finished
  by-set extra f pushed finished d =
      subst (λ (lanes : List LaneState). Follows (done ++ extra) lanes pushed finished) (sym (ap (λ (x : LaneState). set s.lanes k (f x)) (get_or_from_slice_get s.lanes k l fresh_lane at))) d

abbrev pub Then : List Step → Event → CoreState → ℕ → Type 0
Then done event s unit = FollowsState (done ++ event_step event unit) (effect event unit s)

claimed : (done : List Step) (s : CoreState) (k : ℕ) → FollowsState done s → slice_get s.lanes k ≡ Some (lane Free Idle false) → (b : Bool)
    → FollowsState (done ++ []) (cond b (claim_effect k s.next s) (over_effect k s))
claimed done s k was at true =
    by-set done s k (lane Free Idle false) at was [] (λ x. record x { own = Claimed s.next }) s.pushed s.done
    (changes done s k (lane Free Idle false) at was [] (lane (Claimed s.next) Idle false) s.pushed s.done (λ h. omega arith) (λ h. omega arith) (λ h. omega arith))
claimed done s k was at false =
    by-set done s k (lane Free Idle false) at was [] (λ x. record x { over = true }) s.pushed s.done
    (changes done s k (lane Free Idle false) at was [] (lane Free Idle true) s.pushed s.done (λ h. omega arith) (λ h. omega arith) (λ h. omega arith))

one-unit : (h : ℕ → ℕ) (unit : ℕ) → sum_by h (unit ∷ []) ≡ h unit
one-unit h unit = let a = sum_by-cons h unit [] in omega (arith, a)

-- every event, by what its lane has in hand
then_in : (done : List Step) (event : Event) (s : CoreState) (own : Own) (work : Work) (over : Bool) → FollowsState done s → slice_get s.lanes (lane_of event) ≡ Some (lane own work over)
    → IfSome (unit_in event s own work over) (Then done event s)
then_in done (Claim k) s Free Idle false was at = claimed done s k was at (nat_lt s.next (length s.needs))
then_in done (Book k) s (Claimed unit) Idle over was at =
    where_true (Then done (Book k) s) (nat_le (s.booked + need_of s.needs unit) s.part) unit (λ _.
    by-set done s k (lane (Claimed unit) Idle over) at was [] (λ x. record x { own = Booked unit }) s.pushed s.done
    (changes done s k (lane (Claimed unit) Idle over) at was [] (lane (Booked unit) Idle over) s.pushed s.done (λ h. omega arith) (λ h. omega arith) (λ h. omega arith)))
then_in done (Load k) s (Booked unit) work over was at =
    by-set done s k (lane (Booked unit) work over) at was (steps.Load unit ∷ []) (λ x. record x { own = Loaded unit }) s.pushed s.done
    (changes done s k (lane (Booked unit) work over) at was (steps.Load unit ∷ []) (lane (Loaded unit) work over) s.pushed s.done (λ h. omega (arith, one-unit h unit)) (λ h. omega arith) (λ h. omega arith))
then_in done (Push k) s (Loaded unit) Idle over was at =
    where_true (Then done (Push k) s) (nat_lt (length s.queue) s.capacity) unit (λ _.
    by-set done s k (lane (Loaded unit) Idle over) at was [] (λ x. record x { own = Free }) (s.pushed ++ entry_of k unit ∷ []) s.done
    (changes done s k (lane (Loaded unit) Idle over) at was [] (lane Free Idle over) (s.pushed ++ entry_of k unit ∷ []) s.done (λ h. omega (arith, sum_by_push (weight h) s.pushed (entry_of k unit))) (λ h. omega arith) (λ h. omega arith)))
then_in done (Pop k) s (Booked _) work over was at = tt
then_in done (Pop k) s own Idle over was at =
    where_some (Then done (Pop k) s) (slice_get s.queue 0) (λ unit _.
    by-set done s k (lane own Idle over) at was [] (λ x. record x { work = Popped unit }) s.pushed s.done
    (changes done s k (lane own Idle over) at was [] (lane own (Popped unit) over) s.pushed s.done (λ h. omega arith) (λ h. omega arith) (λ h. omega arith)))
then_in done (Put k) s own (Popped unit) over was at =
    by-set done s k (lane own (Popped unit) over) at was (steps.Put unit ∷ []) (λ x. record x { work = Stored unit }) s.pushed s.done
    (changes done s k (lane own (Popped unit) over) at was (steps.Put unit ∷ []) (lane own (Stored unit) over) s.pushed s.done (λ h. omega arith) (λ h. omega (arith, one-unit h unit)) (λ h. omega arith))
then_in done (Emit k) s own (Stored unit) over was at =
    by-set done s k (lane own (Stored unit) over) at was (steps.Emit unit ∷ []) (λ x. record x { work = Emitted unit }) s.pushed s.done
    (changes done s k (lane own (Stored unit) over) at was (steps.Emit unit ∷ []) (lane own (Emitted unit) over) s.pushed s.done (λ h. omega arith) (λ h. omega arith) (λ h. omega (arith, one-unit h unit)))
then_in done (Give k) s own (Emitted unit) over was at =
    by-set done s k (lane own (Emitted unit) over) at was [] (λ x. record x { work = Idle }) s.pushed (s.done ++ entry_of k unit ∷ [])
    (changes done s k (lane own (Emitted unit) over) at was [] (lane own Idle over) s.pushed (s.done ++ entry_of k unit ∷ []) (λ h. omega arith)
    (λ h. omega (arith, sum_by_push (weight h) s.done (entry_of k unit))) (λ h. omega (arith, sum_by_push (weight h) s.done (entry_of k unit))))
then_in done _ s own work over was at = tt

-- and every event as it is tried
follows_step : (done : List Step) (event : Event) (s : CoreState) → FollowsState done s → FollowsState (done ++ steps_at event s) (step_of event s)
follows_step done event s was = by_unit (unit_of event s) refl
  where
    then_at : (unit : ℕ) → unit_of event s ≡ Some unit → Then done event s unit
    then_at unit e = about (Then done event s) event s unit (λ l at. then_in done event s l.own l.work l.over was at) e

    by_unit : (o : Option ℕ) → unit_of event s ≡ o → FollowsState (done ++ on_unit event o) (unwrap_or (option_map (λ unit. effect event unit s) o) s)
    by_unit None e = subst (λ (xs : List Step). FollowsState xs s) (sym (append-nil done)) was
    by_unit (Some unit) e = then_at unit e

-- sums over lanes
sum-below : (f g : LaneState → ℕ) → ((l : LaneState) → f l ≤ g l) → (lanes : List LaneState) → sum_by f lanes ≤ sum_by g lanes
sum-below f g h [] = omega arith
sum-below f g h (l ∷ lanes) = let r = sum-below f g h lanes in omega (arith, sum_by-cons f l lanes, sum_by-cons g l lanes, h l, r)

emitted-put : (h : ℕ → ℕ) (work : Work) → work_emitted h work ≤ work_put h work
emitted-put h Idle = omega arith
emitted-put h (Popped unit) = omega arith
emitted-put h (Stored unit) = omega arith
emitted-put h (Emitted unit) = omega arith

put-worked : (h : ℕ → ℕ) (j : ℕ) (work : Work) → work_put h work ≤ sum_by (weight h) (in_hand j (work_unit work))
put-worked h j Idle = omega arith
put-worked h j (Popped unit) = omega arith
put-worked h j (Stored unit) = omega (arith, sum_by-cons (weight h) (entry_of j unit) [])
put-worked h j (Emitted unit) = omega (arith, sum_by-cons (weight h) (entry_of j unit) [])

put-all : (h : ℕ → ℕ) (lanes : List LaneState) (j : ℕ) → sum_by (lane_put h) lanes ≤ sum_by (weight h) (each_lane work_entry j lanes)
put-all h [] j = omega arith
put-all h (l ∷ lanes) j =
    let a = sum_by-cons (lane_put h) l lanes in
    let b = sum_by-append (weight h) (work_entry j l) (each_lane work_entry (suc j) lanes) in
    let c = put-worked h j l.work in
    let r = put-all h lanes (suc j) in omega (arith, a, b, c, r)

-- what is popped, and what waits in the queue, was pushed
queued : (h : ℕ → ℕ) (s : CoreState) → IsKept s → sum_by (weight h) s.pushed ≡ sum_by (weight h) s.popped + sum_by h s.queue
queued h s kept =
    let a = sum_by-map h (λ (x : Entry). x.unit) s.pushed in
    let b = sum_by-map h (λ (x : Entry). x.unit) s.popped in
    let c = kept.queue.moved h in
    let d = sum_by-append h (units s.popped) s.queue in omega (arith, a, b, c, d)

-- at any time nothing is put that isn't loaded, nor emitted that isn't put
pub behind : (done : List Step) (s : CoreState) → IsKept s → FollowsState done s → IsBehind done
behind done s kept was =
    record {
      puts = λ unit.
          let h = one unit in
          let a = was.loads h in
          let b = was.puts h in
          let c = put-all h s.lanes 0 in
          let d = kept.work (weight h) in
          let e = sum_by-append (weight h) (worked s.lanes) s.done in
          let f = queued h s kept in omega (arith, a, b, c, d, e, f);
      emits = λ unit.
          let h = one unit in
          let a = was.puts h in
          let b = was.emits h in
          let c = sum-below (lane_emitted h) (lane_put h) (λ l. emitted-put h l.work) s.lanes in omega (arith, a, b, c);
    }

-- a list of steps that follows the state, and in turn
pub record Goes (done : List Step) (s : CoreState) : Type 0 where
  pub kept : IsKept s
  pub follows : FollowsState done s
  pub in_turn : (k : ℕ) → IsBehind (take k done)

few : (event : Event) (o : Option ℕ) → length (on_unit event o) ≤ 1
few event None = omega arith
few (Claim _) (Some unit) = omega arith
few (Book _) (Some unit) = omega arith
few (Load _) (Some unit) = omega arith
few (Push _) (Some unit) = omega arith
few (Pop _) (Some unit) = omega arith
few (Put _) (Some unit) = omega arith
few (Emit _) (Some unit) = omega arith
few (Give _) (Some unit) = omega arith

pub goes-step : (done : List Step) (event : Event) (s : CoreState) → Goes done s → Goes (done ++ steps_at event s) (step_of event s)
goes-step done event s h =
    let kept = kept_step event s h.kept in
    let follows = follows_step done event s h.follows in
    let extra = steps_at event s in
    record {
      kept = kept;
      follows = follows;
      in_turn = λ k.
          elim (cases_lt (length done) k) [
            | inl past ↦
                let all = take_all k (done ++ extra) (omega (arith, length-append done extra, few event (unit_of event s), past)) in
                subst (λ (xs : List Step). IsBehind xs) (sym all) (behind (done ++ extra) (step_of event s) kept follows)
            | inr front ↦ subst (λ (xs : List Step). IsBehind xs) (sym (take-append-le k done extra front)) (h.in_turn k)
          ];
    }

pub goes-run : (events : List Event) (done : List Step) (s : CoreState) → Goes done s → Goes (done ++ steps_along events s) (run_of events s)
goes-run [] done s h = subst (λ (xs : List Step). Goes xs s) (sym (append-nil done)) h
goes-run (event ∷ events) done s h =
    subst (λ (xs : List Step). Goes xs (run_of events (step_of event s))) (append_assoc done (steps_at event s) (steps_along events (step_of event s)))
    (goes-run events (done ++ steps_at event s) (step_of event s) (goes-step done event s h))

-- where nothing is left, lanes have nothing in hand
none-left : (f : LaneState → ℕ) → ((l : LaneState) → lane_left l ≡ 0 → f l ≡ 0) → (lanes : List LaneState) → sum_by lane_left lanes ≡ 0 → sum_by f lanes ≡ 0
none-left f h [] e = refl
none-left f h (l ∷ lanes) e =
    let a = sum_by-cons lane_left l lanes in
    let b = sum_by-cons f l lanes in
    let r = none-left f h lanes (omega (arith, a, e)) in omega (arith, b, r, h l (omega (arith, a, e)))

none-in-hand : (w : Entry → ℕ) (unit : LaneState → Option ℕ) → ((l : LaneState) → lane_left l ≡ 0 → unit l ≡ None) → (lanes : List LaneState) (j : ℕ) → sum_by lane_left lanes ≡ 0 → sum_by w (each_lane (λ i l. in_hand i (unit l)) j lanes) ≡ 0
none-in-hand w unit h [] j e = refl
none-in-hand w unit h (l ∷ lanes) j e =
    let a = sum_by-cons lane_left l lanes in
    let b = ap (λ o. sum_by w (in_hand j o)) (h l (omega (arith, a, e))) in
    let c = sum_by-append w (in_hand j (unit l)) (each_lane (λ i x. in_hand i (unit x)) (suc j) lanes) in
    let r = none-in-hand w unit h lanes (suc j) (omega (arith, a, e)) in omega (arith, b, c, r)

-- so the steps are a whole pass
pub whole : (done : List Step) (s : CoreState) → Goes done s → left_of s ≡ 0 → IsWhole (length s.needs) done
whole done s h none =
    let within = h.kept.claims.within in
    let all : s.next ≡ length s.needs = omega (arith, within, none) in
    let idle : sum_by lane_left s.lanes ≡ 0 = omega (arith, none) in
    let nothing : s.queue ≡ [] = nil_from_length s.queue (omega (arith, none)) in
    let pushed : (x : ℕ) → sum_by (weight (one x)) s.pushed ≡ times x (below (length s.needs)) = λ x.
    let w = weight (one x) in
    let a = h.kept.own w in
    let b = sum_by-append w (owned s.lanes) s.pushed in
    let c = none-in-hand w (λ l. own_unit l.own) (λ l e. ap own_unit (none_own l.own (omega (arith, e)))) s.lanes 0 idle in
    let d = sum_by-map (one x) (λ (e : Entry). e.unit) s.claims in
    let e = ap (sum_by (one x)) h.kept.claims.in_order in
    let f = ap (λ n. sum_by (one x) (below n)) all in omega (arith, a, b, c, d, e, f) in
    let did : (x : ℕ) → sum_by (weight (one x)) s.done ≡ sum_by (weight (one x)) s.pushed = λ x.
    let w = weight (one x) in
    let a = h.kept.work w in
    let b = sum_by-append w (worked s.lanes) s.done in
    let c = none-in-hand w (λ l. work_unit l.work) (λ l e. ap work_unit (none_work l.work (omega (arith, e)))) s.lanes 0 idle in
    let d = queued (one x) s h.kept in
    let e = ap (sum_by (one x)) nothing in omega (arith, a, b, c, d, e) in
    record {
      loads = λ x. omega (arith, h.follows.loads (one x), none-left (lane_loaded (one x)) (λ l e. ap (own_loaded (one x)) (none_own l.own (omega (arith, e)))) s.lanes idle, pushed x);
      puts = λ x. omega (arith, h.follows.puts (one x), none-left (lane_put (one x)) (λ l e. ap (work_put (one x)) (none_work l.work (omega (arith, e)))) s.lanes idle, pushed x, did x);
      emits = λ x. omega (arith, h.follows.emits (one x), none-left (lane_emitted (one x)) (λ l e. ap (work_emitted (one x)) (none_work l.work (omega (arith, e)))) s.lanes idle, pushed x, did x);
      in_turn = h.in_turn;
    }

-- nothing was done at the start
fresh-sum : (f : LaneState → ℕ) (n : ℕ) → f fresh_lane ≡ 0 → sum_by f (replicate n fresh_lane) ≡ 0
fresh-sum f zero e = refl
fresh-sum f (suc n) e = let r = fresh-sum f n e in omega (arith, sum_by-cons f fresh_lane (replicate n fresh_lane), e, r)

pub goes-start : (needs : List ℕ) (lanes queue part : ℕ) → MayStart needs lanes queue part → Goes [] (start_state needs lanes queue part)
goes-start needs lanes queue part may =
    record {
      kept = kept_start needs lanes queue part may;
      follows = record {
        loads = λ h. let a = fresh-sum (lane_loaded h) lanes refl in omega (arith, a);
        puts = λ h. let a = fresh-sum (lane_put h) lanes refl in omega (arith, a);
        emits = λ h. let a = fresh-sum (lane_emitted h) lanes refl in omega (arith, a);
      };
      in_turn = λ k. subst (λ (xs : List Step). IsBehind xs) (sym (take-nil k)) (record { puts = λ unit. omega arith; emits = λ unit. omega arith });
    }

pub schedule-whole : (needs : List ℕ) (lanes queue part : ℕ) (events : List Event) → MayStart needs lanes queue part
    → left_of (run_of events (start_state needs lanes queue part)) ≡ 0 → IsWhole (length needs) (steps_along events (start_state needs lanes queue part))
schedule-whole needs lanes queue part events may none =
    let s = start_state needs lanes queue part in
    let same = ap length (same_run events s).needs in
    subst (λ (n : ℕ). IsWhole n (steps_along events s)) same (whole (steps_along events s) (run_of events s) (goes-run events [] s (goes-start needs lanes queue part may)) none)
