-- The steps of drawn lanes, as they are planned turn by turn.
use Rattle.std.proofs.Common.{◌≡◌, ◌≢◌, ℕ, suc, ◌+◌, ◌-◌, ◌^◌, ◌<◌, Option, Some, None, IsSome, option_map, List, [], ◌∷◌, ◌++◌, length, add-one, append_assoc, append-nil, sym, ap, refl, subst, ◌∙◌, true≢false, arith}
use Rattle.std.specs.List.{range_with_len}
use Rattle.std.specs.Option.{option_or, option_map_or}
use Rattle.std.proofs.lemmas.List.{length-replicate}
use Rattle.flow_core.specs.Lanes.{fresh_lane}
use Rattle.gen_world.specs.Numbers.{number, draw}
use Rattle.flow_core.specs.declared.event.Event.{Event}
use Rattle.flow_core.specs.State.{CoreState, start_state, left_of}
use Rattle.flow_core.specs.Events.{unit_of, effect, next_event}
use Rattle.flow_core.specs.Runs.{step_of, IsSameMachine}
use Rattle.flow_core.specs.Kept.{IsKept}
use Rattle.flow_core.specs.Laws.{MayStart}
use Rattle.flow_core.proofs.ProgressLemmas.{goes_on}
use Rattle.flow_core.proofs.RunLemmas.{kept_start, left_start, same_self}
use Rattle.pass_order.specs.declared.step.Step.{Step}
use Rattle.pass_order.specs.Turns.{round, first_event, event_of, drawn_event, drawn_from, drawn_events}
use Rattle.pass_order.specs.Whole.{steps_at, steps_along}
use Rattle.pass_order.specs.Planned.{TakesTurn}
use Rattle.pass_order.proofs.Turning.{first-append, first-possible, round-none, has-end}

-- a range of lanes whose first one has no event
pub next-lane : (s : CoreState) (lane to : ℕ) (o : Option Event) → lane < to → o ≡ next_event lane s → o ≡ None → first_event s (range_with_len (lane + 1) (to - (lane + 1))) ≡ first_event s (range_with_len lane (to - lane))
next-lane s lane to o less e none =
    let longer : to - lane ≡ suc (to - (lane + 1)) = omega (arith, less) in
    ap (λ x. option_or x (first_event s (range_with_len (lane + 1) (to - (lane + 1))))) (sym none ∙ e) ∙ sym (ap (λ n. first_event s (range_with_len lane n)) longer)

-- the lanes from the drawn one on, and those before it
pub found-here : (s : CoreState) (lanes first : ℕ) (event : Event) → lanes ≡ length s.lanes → Some event ≡ first_event s (range_with_len first (lanes - first)) → Some event ≡ event_of first s
found-here s lanes first event n e =
    sym (ap (λ k. event_of_lanes k) (sym n) ∙ first-append s (range_with_len first (lanes - first)) (range_with_len 0 first) ∙ ap (λ x. option_or x (first_event s (range_with_len 0 first))) (sym e))
  where
    event_of_lanes : ℕ → Option Event
    event_of_lanes k = first_event s (round first k)

pub found-before : (s : CoreState) (lanes first : ℕ) (o : Option Event) → lanes ≡ length s.lanes → None ≡ first_event s (range_with_len first (lanes - first)) → o ≡ first_event s (range_with_len 0 (first - 0)) → o ≡ event_of first s
found-before s lanes first o n none e =
    e ∙ ap (λ k. first_event s (range_with_len 0 k)) (all first) ∙ sym (ap (λ k. first_event s (round first k)) (sym n) ∙ first-append s (range_with_len first (lanes - first)) (range_with_len 0 first) ∙ ap (λ x. option_or x (first_event s (range_with_len 0 first))) (sym none))
  where
    all : (k : ℕ) → k - 0 ≡ k
    all k = omega arith

-- some lane has an event, and the event that is found is about a unit
pub some-found : (s : CoreState) (first : ℕ) → IsKept s → left_of s ≢ 0 → first < length s.lanes → event_of first s ≡ None → ⊥
some-found s first kept more less e =
    let may = goes_on s kept more in
    true≢false (sym (subst (λ (o : Option Event). IsSome o) (round-none first s less e may.0 may.1) may.2))

pub some-unit : (s : CoreState) (first : ℕ) (event : Event) → event_of first s ≡ Some event → unit_of event s ≡ None → ⊥
some-unit s first event e none =
    let may = first-possible s (round first (length s.lanes)) event e in
    true≢false (sym (subst (λ o. IsSome (option_map (λ unit. effect event unit s) o)) none may))

-- the turns so far, so many numbers behind the last one of the pass before
pub record Planning (last : ℕ) (begin now : CoreState) (planned : List Step) (seed taken : ℕ) : Type 0 where
  pub kept : IsKept now
  pub machine : IsSameMachine begin now
  pub seed_is : seed ≡ last
  pub count : taken + left_of now ≡ left_of begin
  pub steps : planned ++ steps_along (drawn_from (left_of now) (number last taken) now) now ≡ steps_along (drawn_events last begin) begin

module _ (last : ℕ) (needs : List ℕ) (lanes queue part : ℕ) (may : MayStart needs lanes queue part) where
  pub start : (core : CoreState) (planned : List Step) (seed taken : ℕ) → core ≡ start_state needs lanes queue part → planned ≡ [] → seed ≡ last → taken ≡ 0 → Planning last (start_state needs lanes queue part) core planned seed taken
  unfolding drawn_events number
  start core planned seed taken same none s t =
      let begin = start_state needs lanes queue part in
      subst (λ (x : CoreState). Planning last begin x planned seed taken) (sym same) (record {
        kept = kept_start needs lanes queue part may;
        machine = same_self begin;
        seed_is = s;
        count = omega (arith, t);
        steps = ap (λ (xs : List Step). xs ++ steps_along (drawn_from (left_of begin) (number last taken) begin) begin) none ∙ ap (λ k. steps_along (drawn_from (left_of begin) (number last k) begin) begin) t;
      })

  pub few : (now : CoreState) (planned : List Step) (seed taken : ℕ) → Planning last (start_state needs lanes queue part) now planned seed taken → taken < 2 ^ 63
  few now planned seed taken p = omega (arith, p.count, left_start needs lanes queue part, may.few_units, may.few_lanes)

  pub same-lanes : (now : CoreState) (planned : List Step) (seed taken : ℕ) → Planning last (start_state needs lanes queue part) now planned seed taken → lanes ≡ length now.lanes
  same-lanes now planned seed taken p = sym (p.machine.lanes ∙ length-replicate lanes fresh_lane)

  -- the next draw is the first one behind what was taken
  draw-on : (taken n : ℕ) → draw last (taken + 1) n ≡ draw (number last taken) 1 n
  unfolding draw number
  draw-on taken n = rw add-one refl

  drawn-is : (now : CoreState) (taken : ℕ) (event : Event) → event_of (draw last (taken + 1) (length now.lanes)) now ≡ Some event → drawn_event (number last taken) now ≡ Some event
  unfolding drawn_event
  drawn-is now taken event e = ap (λ k. event_of k now) (sym (draw-on taken (length now.lanes))) ∙ e

  number-on : (taken : ℕ) → number (number last taken) 1 ≡ number last (taken + 1)
  unfolding number
  number-on taken = rw add-one refl

  pub next : (now new : CoreState) (planned planned' : List Step) (seed taken seed' taken' first : ℕ) → Planning last (start_state needs lanes queue part) now planned seed taken
      → seed' ≡ seed → taken' ≡ taken + 1 → first ≡ draw seed (taken + 1) lanes → TakesTurn first now new planned planned' → Planning last (start_state needs lanes queue part) new planned' seed' taken'
  next now new planned planned' seed taken seed' taken' first p s t f turn =
      let begin = start_state needs lanes queue part in
      let event = turn.event in
      let lane : first ≡ draw last (taken + 1) (length now.lanes) = f ∙ ap (λ x. draw x (taken + 1) lanes) p.seed_is ∙ ap (draw last (taken + 1)) (same-lanes now planned seed taken p) in
      let drawn = drawn-is now taken event (ap (λ k. event_of k now) (sym lane) ∙ turn.drawn) in
      let more : left_of now ≡ suc (left_of new) = omega (arith, turn.less) in
      let rest : List Event = drawn_from (left_of new) (number last (taken + 1)) new in
      let front : drawn_from (left_of now) (number last taken) now ≡ event ∷ rest =
      ap (λ k. drawn_from k (number last taken) now) more
      ∙ ap (λ o. option_map_or (λ x. x ∷ drawn_from (left_of new) (number (number last taken) 1) (step_of x now)) o []) drawn
      ∙ ap (λ k. event ∷ drawn_from (left_of new) k (step_of event now)) (number-on taken)
      ∙ ap (λ (x : CoreState). event ∷ drawn_from (left_of new) (number last (taken + 1)) x) (sym turn.done) in
      record {
        kept = turn.kept;
        machine = record {
          needs = turn.machine.needs ∙ p.machine.needs;
          capacity = turn.machine.capacity ∙ p.machine.capacity;
          part = turn.machine.part ∙ p.machine.part;
          lanes = turn.machine.lanes ∙ p.machine.lanes;
        };
        seed_is = s ∙ p.seed_is;
        count = omega (arith, p.count, turn.less, t);
        steps = ap (λ k. planned' ++ steps_along (drawn_from (left_of new) (number last k) new) new) t
            ∙ ap (λ (xs : List Step). xs ++ steps_along rest new) turn.planned
            ∙ append_assoc planned (steps_at event now) (steps_along rest new)
            ∙ ap (λ (x : CoreState). planned ++ (steps_at event now ++ steps_along rest x)) turn.done
            ∙ ap (λ (xs : List Event). planned ++ steps_along xs now) (sym front)
            ∙ p.steps;
      }

  pub all-steps : (now : CoreState) (planned : List Step) (seed taken : ℕ) → Planning last (start_state needs lanes queue part) now planned seed taken → left_of now ≡ 0 → planned ≡ steps_along (drawn_events last (start_state needs lanes queue part)) (start_state needs lanes queue part)
  all-steps now planned seed taken p none =
      sym (append-nil planned) ∙ sym (ap (λ k. planned ++ steps_along (drawn_from k (number last taken) now) now) none) ∙ p.steps

  pub all-taken : (now : CoreState) (planned : List Step) (seed taken answer : ℕ) → Planning last (start_state needs lanes queue part) now planned seed taken → left_of now ≡ 0 → answer ≡ number seed taken
      → answer ≡ number last (length (drawn_events last (start_state needs lanes queue part)))
  all-taken now planned seed taken answer p none e =
      let h = has-end last needs lanes queue part may in
      let many : taken ≡ length (drawn_events last (start_state needs lanes queue part)) = omega (arith, p.count, none, h.counted, left_start needs lanes queue part) in
      e ∙ ap (λ x. number x taken) p.seed_is ∙ ap (number last) many
