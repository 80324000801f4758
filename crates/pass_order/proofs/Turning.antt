-- A pass of drawn lanes comes to its end.
use Rattle.std.proofs.Common.{◌≡◌, ◌≢◌, ℕ, zero, suc, ◌+◌, ◌-◌, ◌^◌, ◌/◌, ◌<◌, ◌≤◌, inl, inr, Option, Some, None, IsSome, option_map, unwrap_or, List, [], ◌∷◌, ◌++◌, length, sym, ap, refl, subst, ◌∙◌, true≢false, mod-lt, arith}
use Rattle.std.specs.List.{range_with_len}
use Rattle.std.specs.Option.{option_or, option_map_or}
use Rattle.std.proofs.lemmas.Bool.{cases_lt}
use Rattle.std.proofs.lemmas.Option.{none-some, same_Some}
use Rattle.gen_world.specs.Numbers.{number, draw}
use Rattle.flow_core.specs.declared.event.Event.{Event}
use Rattle.flow_core.specs.State.{CoreState, start_state, left_of}
use Rattle.flow_core.specs.Events.{unit_of, effect, after, next_event}
use Rattle.flow_core.specs.Runs.{step_of, run_of}
use Rattle.flow_core.specs.Kept.{IsKept}
use Rattle.flow_core.specs.Laws.{MayStart}
use Rattle.flow_core.proofs.EventLemmas.{does_after}
use Rattle.flow_core.proofs.NextLemmas.{may_if}
use Rattle.flow_core.proofs.ProgressLemmas.{goes_on}
use Rattle.flow_core.proofs.RunLemmas.{kept_step, kept_run, kept_start, left_start, progresses}
use Rattle.pass_order.specs.Turns.{round, first_event, event_of, drawn_event, drawn_from, drawn_events, IsDrawn}
use Rattle.pass_order.specs.Laws.{HasDrawnEnd}

-- the first of two that there is
or-none : {A : Type 0} (x y : Option A) → option_or x y ≡ None → (x ≡ None) × (y ≡ None)
or-none None y e = (refl, e)
or-none (Some a) y e = absurd (none-some a (sym e))

pub first-append : (s : CoreState) (xs ys : List ℕ) → first_event s (xs ++ ys) ≡ option_or (first_event s xs) (first_event s ys)
first-append s [] ys = refl
first-append s (x ∷ xs) ys = ap (option_or (next_event x s)) (first-append s xs ys) ∙ or-assoc (next_event x s) (first_event s xs) (first_event s ys)
  where
    or-assoc : {A : Type 0} (x y z : Option A) → option_or x (option_or y z) ≡ option_or (option_or x y) z
    or-assoc None y z = refl
    or-assoc (Some a) y z = refl

-- no lane of a range has an event
first-none : (s : CoreState) (a n : ℕ) → first_event s (range_with_len a n) ≡ None → (lane : ℕ) → a ≤ lane → lane < a + n → next_event lane s ≡ None
first-none s a zero e lane low high = absurd (omega (arith, low, high))
first-none s a (suc n) e lane low high =
    let both = or-none (next_event a s) (first_event s (range_with_len (a + 1) n)) e in
    elim (cases_lt a lane) [
      | inl past ↦ first-none s (a + 1) n both.1 lane (omega (arith, past)) (omega (arith, high))
      | inr here ↦ let same : a ≡ lane = omega (arith, low, here) in ap (λ k. next_event k s) (sym same) ∙ both.0
    ]

pub round-none : (k : ℕ) (s : CoreState) → k < length s.lanes → event_of k s ≡ None → (lane : ℕ) → lane < length s.lanes → next_event lane s ≡ None
round-none k s less e lane within =
    let n = length s.lanes in
    let both = or-none (first_event s (range_with_len k (n - k))) (first_event s (range_with_len 0 k)) (sym (first-append s (range_with_len k (n - k)) (range_with_len 0 k)) ∙ e) in
    elim (cases_lt lane k) [
      | inl front ↦ first-none s 0 k both.1 lane (omega arith) (omega (arith, front))
      | inr back ↦ first-none s k (n - k) both.0 lane back (omega (arith, less, within))
    ]

-- an event that is found is possible
pub first-possible : (s : CoreState) (lanes : List ℕ) (event : Event) → first_event s lanes ≡ Some event → IsSome (after event s)
first-possible s [] event e = absurd (none-some event e)
first-possible s (lane ∷ lanes) event e = by_own (next_event lane s) refl e (first-possible s lanes event)
  where
    by_own : (o : Option Event) → o ≡ next_event lane s → option_or o (first_event s lanes) ≡ Some event → (first_event s lanes ≡ Some event → IsSome (after event s)) → IsSome (after event s)
    by_own None f e rest = rest e
    by_own (Some x) f e rest = subst (λ (y : Event). IsSome (after y s)) (same_Some x event e) (may_if lane s (Some x) f).1

-- which is one event less
less-then : (s : CoreState) (event : Event) → IsKept s → IsSome (after event s) → left_of (step_of event s) + 1 ≡ left_of s
less-then s event kept may = by_unit (unit_of event s) refl may
  where
    by_unit : (o : Option ℕ) → unit_of event s ≡ o → IsSome (option_map (λ unit. effect event unit s) o) → left_of (unwrap_or (option_map (λ unit. effect event unit s) o) s) + 1 ≡ left_of s
    by_unit None e may = absurd (true≢false (sym may))
    by_unit (Some unit) e may = (does_after event s unit kept e).less

-- the lane that is drawn is there
drawn-within : (last n : ℕ) → 0 < n → draw last 1 n < n
unfolding draw
drawn-within last n some = mod-lt (number last 1 / 2 ^ 32) some

-- where something is left some event is drawn, and where nothing is left no lane has one
drawn-some : (last : ℕ) (s : CoreState) → IsKept s → left_of s ≢ 0 → drawn_event last s ≢ None
unfolding drawn_event
drawn-some last s kept more e =
    let some = kept.limits.some_lane in
    let may = goes_on s kept more in
    let gone = round-none (draw last 1 (length s.lanes)) s (drawn-within last (length s.lanes) (omega (arith, some))) e may.0 may.1 in
    true≢false (sym (subst (λ (o : Option Event). IsSome o) gone may.2))

drawn-possible : (last : ℕ) (s : CoreState) (event : Event) → drawn_event last s ≡ Some event → IsSome (after event s)
unfolding drawn_event
drawn-possible last s event e = first-possible s (round (draw last 1 (length s.lanes)) (length s.lanes)) event e

none-at-end : (s : CoreState) → IsKept s → left_of s ≡ 0 → (lane : ℕ) → next_event lane s ≡ None
none-at-end s kept none lane = by_own (next_event lane s) refl
  where
    by_own : (o : Option Event) → o ≡ next_event lane s → o ≡ None
    by_own None e = refl
    by_own (Some x) e = absurd (omega (arith, less-then s x kept (may_if lane s (Some x) e).1, none))

-- the events that are drawn come to the end
record Ends (more last : ℕ) (s : CoreState) (events : List Event) : Type 0 where
  drawn : IsDrawn last s events
  none : left_of (run_of events s) ≡ 0
  counted : length events ≡ more

ends : (more last : ℕ) (s : CoreState) → IsKept s → left_of s ≡ more → Ends more last s (drawn_from more last s)
ends zero last s kept e = record { drawn = none-at-end s kept e; none = e; counted = refl }
ends (suc more) last s kept e =
    by_event (drawn_event last s) refl (λ event may. ends more (number last 1) (step_of event s) (kept_step event s kept) (omega (arith, less-then s event kept may, e)))
  where
    by_event : (o : Option Event) → drawn_event last s ≡ o → ((event : Event) → IsSome (after event s) → Ends more (number last 1) (step_of event s) (drawn_from more (number last 1) (step_of event s)))
        → Ends (suc more) last s (option_map_or (λ event. event ∷ drawn_from more (number last 1) (step_of event s)) o [])
    by_event None f rest = absurd (drawn-some last s kept (λ none. absurd (omega (arith, none, e))) f)
    by_event (Some event) f rest =
        let r = rest event (drawn-possible last s event f) in
        record { drawn = (f, r.drawn); none = r.none; counted = ap suc r.counted }

-- and no other list is drawn
only : (events : List Event) (more last : ℕ) (s : CoreState) → IsKept s → left_of s ≡ more → IsDrawn last s events → events ≡ drawn_from more last s
only [] zero last s kept e d = refl
only [] (suc more) last s kept e d =
    let may = goes_on s kept (λ none. absurd (omega (arith, none, e))) in
    absurd (true≢false (sym (subst (λ (o : Option Event). IsSome o) (d may.0) may.2)))
only (event ∷ events) zero last s kept e d = absurd (omega (arith, less-then s event kept (drawn-possible last s event d.0), e))
only (event ∷ events) (suc more) last s kept e d =
    ap (λ (xs : List Event). event ∷ xs) (only events more (number last 1) (step_of event s) (kept_step event s kept) (omega (arith, less-then s event kept (drawn-possible last s event d.0), e)) d.1)
    ∙ sym (ap (λ o. option_map_or (λ x. x ∷ drawn_from more (number last 1) (step_of x s)) o []) d.0)

pub has-end : (last : ℕ) (needs : List ℕ) (lanes queue part : ℕ) → MayStart needs lanes queue part → HasDrawnEnd last needs lanes queue part
unfolding drawn_events
has-end last needs lanes queue part may =
    let s = start_state needs lanes queue part in
    let kept = kept_start needs lanes queue part may in
    let e = ends (left_of s) last s kept refl in
    let events = drawn_from (left_of s) last s in
    record {
      drawn = e.drawn;
      only = λ others d. only others (left_of s) last s kept refl d;
      counted = e.counted ∙ left_start needs lanes queue part;
      settled = (progresses (run_of events s) (kept_run events s kept)).settled e.none;
    }

pub drawn-none : (last : ℕ) (needs : List ℕ) (lanes queue part : ℕ) → MayStart needs lanes queue part → left_of (run_of (drawn_events last (start_state needs lanes queue part)) (start_state needs lanes queue part)) ≡ 0
unfolding drawn_events
drawn-none last needs lanes queue part may =
    let s = start_state needs lanes queue part in (ends (left_of s) last s (kept_start needs lanes queue part may) refl).none
