-- Lists of events, from a start on.
use Rattle.std.proofs.Common.{drop, ◌≡◌, inl, inr, ℕ, zero, suc, ◌+◌, ◌*◌, ◌<◌, ◌≤◌, Bool, true, false, cond, Option, Some, None, is_some, option_and_then, option_map, unwrap_or, List, [], ◌∷◌, length, replicate, slice_get, sym, ap, refl, ◌∙◌, arith}
use Rattle.std.specs.List.{sum_by}
use Rattle.std.proofs.lemmas.Bool.{cases_lt}
use Rattle.std.proofs.lemmas.List.{drop_all, length-replicate, get_or_past}
use Rattle.std.proofs.lemmas.List.Sums.{sum_by-cons, sum_by-append}
use Rattle.std.proofs.lemmas.List.Elements.{All-nil, All-get_or, All-replicate}
use Rattle.flow_core.specs.declared.event.Event.{Event}
use Rattle.flow_core.specs.declared.lane.LaneState.{LaneState}
use Rattle.flow_core.specs.declared.lane.Entry.{Entry}
use Rattle.flow_core.specs.Lanes.{fresh_lane, lane_left}
use Rattle.flow_core.specs.State.{CoreState, start_state, need_of, left_of}
use Rattle.flow_core.specs.Events.{lane_of, unit_at, effect, is_possible}
use Rattle.flow_core.specs.Runs.{step_of, run_of, taken, IsSameMachine}
use Rattle.flow_core.specs.Kept.{each_lane, own_entry, work_entry, owned, worked, lane_need, IsKept}
use Rattle.flow_core.specs.Laws.{MayStart, Progresses, HasEnd}
use Rattle.flow_core.proofs.EventLemmas.{does_at, same_effect}
use Rattle.flow_core.proofs.SettledLemmas.{settled_is}
use Rattle.flow_core.proofs.ProgressLemmas.{goes_on}

-- an event that isn't possible, and one that is
module _ (P : Bool → CoreState → Type 0) (event : Event) (s : CoreState) where
  by_unit : (l : LaneState) (o : Option ℕ) → unit_at event s l ≡ o → P false s → ((unit : ℕ) → unit_at event s l ≡ Some unit → P true (effect event unit s)) → P (is_some o) (unwrap_or (option_map (λ unit. effect event unit s) o) s)
  by_unit l None e stays does = stays
  by_unit l (Some unit) e stays does = does unit e

  by_lane_at : (o : Option LaneState) → slice_get s.lanes (lane_of event) ≡ o → P false s → ((l : LaneState) (unit : ℕ) → slice_get s.lanes (lane_of event) ≡ Some l → unit_at event s l ≡ Some unit → P true (effect event unit s)) → P (is_some (option_and_then (unit_at event s) o)) (unwrap_or (option_map (λ unit. effect event unit s) (option_and_then (unit_at event s) o)) s)
  by_lane_at None e stays does = stays
  by_lane_at (Some l) e stays does = by_unit l (unit_at event s l) refl stays (λ unit f. does l unit e f)

  step_cases : P false s → ((l : LaneState) (unit : ℕ) → slice_get s.lanes (lane_of event) ≡ Some l → unit_at event s l ≡ Some unit → P true (effect event unit s)) → P (is_possible s event) (step_of event s)
  step_cases stays does = by_lane_at (slice_get s.lanes (lane_of event)) refl stays does

pub kept_step : (event : Event) (s : CoreState) → IsKept s → IsKept (step_of event s)
kept_step event s h = step_cases (λ _ x. IsKept x) event s h (λ l unit at e. (does_at event s l unit h at e).kept)

left_step : (event : Event) (s : CoreState) → IsKept s → cond (is_possible s event) 1 0 + left_of (step_of event s) ≡ left_of s
left_step event s h =
    step_cases (λ b x. cond b 1 0 + left_of x ≡ left_of s) event s (omega arith) (λ l unit at e. let less = (does_at event s l unit h at e).less in omega arith)

pub kept_run : (events : List Event) (s : CoreState) → IsKept s → IsKept (run_of events s)
kept_run [] s h = h
kept_run (event ∷ events) s h = kept_run events (step_of event s) (kept_step event s h)

pub left_run : (events : List Event) (s : CoreState) → IsKept s → taken events s + left_of (run_of events s) ≡ left_of s
left_run [] s h = omega arith
left_run (event ∷ events) s h =
    let here = left_step event s h in
    let rest = left_run events (step_of event s) (kept_step event s h) in omega arith

pub progresses : (s : CoreState) → IsKept s → Progresses s
progresses s h = record { kept = h; goes_on = λ more. goes_on s h more; settled = λ none. settled_is s h none }

-- the parameters stay
pub same_self : (s : CoreState) → IsSameMachine s s
same_self s = record { needs = refl; capacity = refl; part = refl; lanes = refl }

same_step : (event : Event) (s : CoreState) → IsSameMachine s (step_of event s)
same_step event s = step_cases (λ _ x. IsSameMachine s x) event s (same_self s) (λ l unit at e. same_effect event unit s)

pub same_run : (events : List Event) (s : CoreState) → IsSameMachine s (run_of events s)
same_run [] s = same_self s
same_run (event ∷ events) s =
    let a = same_step event s in
    let b = same_run events (step_of event s) in
    record {
      needs = b.needs ∙ a.needs;
      capacity = b.capacity ∙ a.capacity;
      part = b.part ∙ a.part;
      lanes = b.lanes ∙ a.lanes;
    }

-- the start
sum_none : (f : LaneState → ℕ) (n : ℕ) → f fresh_lane ≡ 0 → sum_by f (replicate n fresh_lane) ≡ 0
sum_none f zero e = refl
sum_none f (suc n) e =
    let a = sum_by-cons f fresh_lane (replicate n fresh_lane) in
    let r = sum_none f n e in omega arith

sum_ones : (f : LaneState → ℕ) (n : ℕ) → f fresh_lane ≡ 1 → sum_by f (replicate n fresh_lane) ≡ n
sum_ones f zero e = refl
sum_ones f (suc n) e =
    let a = sum_by-cons f fresh_lane (replicate n fresh_lane) in
    let r = sum_ones f n e in omega arith

no_entries : (w : Entry → ℕ) (f : ℕ → LaneState → List Entry) (n j : ℕ) → ((k : ℕ) → f k fresh_lane ≡ []) → sum_by w (each_lane f j (replicate n fresh_lane)) ≡ 0
no_entries w f zero j e = refl
no_entries w f (suc n) j e =
    let a = sum_by-append w (f j fresh_lane) (each_lane f (suc j) (replicate n fresh_lane)) in
    let b = ap (sum_by w) (e j) in
    let r = no_entries w f n (suc j) e in omega arith

pub left_start : (needs : List ℕ) (lanes queue part : ℕ) → left_of (start_state needs lanes queue part) ≡ 8 * length needs + lanes
left_start needs lanes queue part = let a = sum_ones lane_left lanes refl in omega arith

module _ (needs : List ℕ) (lanes queue part : ℕ) (h : MayStart needs lanes queue part) where
  need_fits : (unit : ℕ) → need_of needs unit ≤ part
  need_fits unit =
      elim (cases_lt unit (length needs)) [
        | inl less ↦ All-get_or (λ need. need ≤ part) needs unit 0 less h.fit
        | inr most ↦ let past = get_or_past needs unit 0 most in omega arith
      ]

  pub kept_start : IsKept (start_state needs lanes queue part)
  kept_start =
      let many = length-replicate lanes fresh_lane in
      let some = h.some_lane in
      let few = h.few_lanes in
      record {
        limits = record {
          few_units = h.few_units;
          fit = need_fits;
          some_lane = omega arith;
          few_lanes = omega arith;
          some_place = h.some_place;
          few_places = h.few_places;
        };
        claims = record {
          in_order = refl;
          within = omega arith;
          of_lanes = All-nil (λ (entry : Entry). entry.lane < length (replicate lanes fresh_lane));
          over = All-replicate (λ (lane : LaneState). lane.over ≡ true → 0 ≡ length needs) lanes fresh_lane (λ o. cc);
        };
        booked = record { total = let a = sum_none (lane_need needs) lanes refl in omega arith; within = omega arith };
        queue = record { short = omega arith; moved = λ w. refl };
        own = λ w.
            let a = no_entries w own_entry lanes 0 (λ _. refl) in
            let b = sum_by-append w (owned (replicate lanes fresh_lane)) [] in omega arith;
        work = λ w.
            let a = no_entries w work_entry lanes 0 (λ _. refl) in
            let b = sum_by-append w (worked (replicate lanes fresh_lane)) [] in omega arith;
        popped_of_lanes = All-nil (λ (entry : Entry). entry.lane < length (replicate lanes fresh_lane));
      }

  pub has_end : (events : List Event) → HasEnd needs lanes queue part events
  has_end events =
      let s = start_state needs lanes queue part in
      let all = left_run events s kept_start in
      let start = left_start needs lanes queue part in
      record {
        counted = omega arith;
        bounded = omega arith;
        end = progresses (run_of events s) (kept_run events s kept_start);
      }

-- where a run has gone through all events
pub run_end : (events : List Event) (old now : CoreState) (n : ℕ) → length events ≤ n → run_of (drop n events) now ≡ run_of events old → now ≡ run_of events old
run_end events old now n all is = ap (λ (xs : List Event). run_of xs now) (sym (drop_all n events all)) ∙ is

pub ran : (events : List Event) (old now : CoreState) (n : ℕ) → IsKept old → length events ≤ n → run_of (drop n events) now ≡ run_of events old → taken events old + left_of now ≡ left_of old
ran events old now n h all is =
    let rest = ap (λ (xs : List Event). left_of (run_of xs now)) (drop_all n events all) in
    let same = ap left_of is in
    let total = left_run events old h in omega arith
