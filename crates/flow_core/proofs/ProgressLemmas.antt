-- Where something is left, some lane has an event.
use Rattle.std.proofs.Common.{◌≡◌, ◌≢◌, ℕ, zero, suc, ◌+◌, ◌<◌, ◌≤◌, inl, inr, Bool, true, false, cond, nat_lt, nat_le, Option, Some, None, is_some, IsSome, option_and_then, List, [], ◌∷◌, length, slice_get, subst, ap, refl, ◌∙◌, arith}
use Rattle.std.specs.List.{sum_by, find}
use Rattle.std.proofs.lemmas.Bool.{false≢true, false_from_ne_true, cond-true, lt-ltb, le-leb, cases_eq, cases_lt}
use Rattle.std.proofs.lemmas.List.{nil_from_length}
use Rattle.std.proofs.lemmas.List.Sums.{sum_by-cons, get_or-le-sum_by}
use Rattle.std.proofs.lemmas.List.Elements.{All-get_or}
use Rattle.std.proofs.lemmas.Option.{none-some, same_Some, slice_get_within, get_or_from_slice_get}
use Rattle.flow_core.specs.declared.event.Event.{Event}
use Rattle.flow_core.specs.declared.event.Event.TheVariants.{Claim, Book, Load, Push, Pop, Put, Emit, Give}
use Rattle.flow_core.specs.declared.lane.Own.{Own}
use Rattle.flow_core.specs.declared.lane.Own.TheVariants.{Free, Claimed, Booked, Loaded}
use Rattle.flow_core.specs.declared.lane.Work.{Work}
use Rattle.flow_core.specs.declared.lane.Work.TheVariants.{Idle, Popped, Stored, Emitted}
use Rattle.flow_core.specs.declared.lane.LaneState.{LaneState}
use Rattle.flow_core.specs.Lanes.{work_unit, own_left, work_left, over_left, lane_left}
use Rattle.flow_core.specs.State.{CoreState, need_of, left_of}
use Rattle.flow_core.specs.Events.{lane_of, unit_in, unit_at, unit_of, in_order, is_possible}
use Rattle.flow_core.specs.Kept.{own_need, unit_need, lane_need, IsKept}
use Rattle.flow_core.specs.Laws.{SomeLaneMay}
use Rattle.flow_core.proofs.SettledLemmas.{none_work}

-- an event of the list that is possible: the first such is found
found_first : (b : Bool) (x : Event) (o : Option Event) → b ≡ true → IsSome (cond b (Some x) o)
found_first true x o e = refl
found_first false x o e = absurd (false≢true e)

found_later : (b : Bool) (x : Event) (o : Option Event) → IsSome o → IsSome (cond b (Some x) o)
found_later true x o h = refl
found_later false x o h = h

found : (p : Event → Bool) (events : List Event) (k : ℕ) (event : Event) → slice_get events k ≡ Some event → p event ≡ true → IsSome (find p events)
found p [] k event at e = absurd (none-some event at)
found p (x ∷ events) zero event at e = found_first (p x) x (find p events) (ap p (same_Some x event at) ∙ e)
found p (x ∷ events) (suc k) event at e = found_later (p x) x (find p events) (found p events k event at e)

goes : (s : CoreState) (k : ℕ) (l : LaneState) (i : ℕ) (event : Event) (unit : ℕ) → slice_get s.lanes k ≡ Some l → slice_get (in_order k) i ≡ Some event → unit_of event s ≡ Some unit → SomeLaneMay s
goes s k l i event unit at place e =
    (k, slice_get_within s.lanes k l at, found (is_possible s) (in_order k) i event place (ap (λ (o : Option ℕ). is_some o) e))

-- whether a lane's own unit is at a stage
abbrev booked_flag : Own → ℕ
booked_flag (Booked _) = 1
booked_flag _ = 0

abbrev loaded_flag : Own → ℕ
loaded_flag (Loaded _) = 1
loaded_flag _ = 0

abbrev claimed_flag : Own → ℕ
claimed_flag (Claimed _) = 1
claimed_flag _ = 0

is_booked : (own : Own) → 0 < booked_flag own → (unit : ℕ) × (own ≡ Booked unit)
is_booked (Booked unit) h = (unit, refl)
is_booked _ h = absurd (omega arith)

is_loaded : (own : Own) → 0 < loaded_flag own → (unit : ℕ) × (own ≡ Loaded unit)
is_loaded (Loaded unit) h = (unit, refl)
is_loaded _ h = absurd (omega arith)

is_claimed : (own : Own) → 0 < claimed_flag own → (unit : ℕ) × (own ≡ Claimed unit)
is_claimed (Claimed unit) h = (unit, refl)
is_claimed _ h = absurd (omega arith)

needs_none : (needs : List ℕ) (own : Own) → booked_flag own ≡ 0 → loaded_flag own ≡ 0 → own_need needs own ≡ 0
needs_none needs (Booked _) e f = absurd (omega arith)
needs_none needs (Loaded _) e f = absurd (omega arith)
needs_none needs _ e f = refl

has_none : (own : Own) → booked_flag own ≡ 0 → loaded_flag own ≡ 0 → claimed_flag own ≡ 0 → own ≡ Free
has_none Free e f g = refl
has_none _ e f g = absurd (omega arith)

-- what a lane that works nothing may pop
pops_front : (k : ℕ) (s : CoreState) (own : Own) (over : Bool) → booked_flag own ≡ 0 → unit_in (Pop k) s own Idle over ≡ slice_get s.queue 0
pops_front k s (Booked _) over e = absurd (omega arith)
pops_front k s _ over e = refl

not_over : (over : Bool) → 0 < over_left over → over ≡ false
not_over true h = absurd (omega arith)
not_over false h = refl

-- a lane in which an event is possible
module _ (s : CoreState) (k : ℕ) (l : LaneState) (at : slice_get s.lanes k ≡ Some l) where
  -- the unit that it is about
  here : (event : Event) (unit : ℕ) → lane_of event ≡ k → unit_at event s l ≡ Some unit → unit_of event s ≡ Some unit
  here event unit e f =
      ap (λ (i : ℕ). option_and_then (unit_at event s) (slice_get s.lanes i)) e ∙ ap (option_and_then (unit_at event s)) at ∙ f

  work_goes : (work : Work) → 0 < work_left work → l.work ≡ work → SomeLaneMay s
  work_goes Idle h e = absurd (omega arith)
  work_goes (Popped unit) h e = goes s k l 4 (Put k) unit at refl (here (Put k) unit refl (ap (λ x. unit_in (Put k) s l.own x l.over) e))
  work_goes (Stored unit) h e = goes s k l 1 (Emit k) unit at refl (here (Emit k) unit refl (ap (λ x. unit_in (Emit k) s l.own x l.over) e))
  work_goes (Emitted unit) h e = goes s k l 0 (Give k) unit at refl (here (Give k) unit refl (ap (λ x. unit_in (Give k) s l.own x l.over) e))

  -- what it is about, by what the lane has in hand
  by_hands : (event : Event) (own : Own) (work : Work) (over : Bool) (unit : ℕ) → lane_of event ≡ k → l.own ≡ own → l.work ≡ work → l.over ≡ over → unit_in event s own work over ≡ Some unit → unit_of event s ≡ Some unit
  by_hands event own work over unit e a b c f =
      here event unit e (ap (λ x. unit_in event s x l.work l.over) a ∙ ap (λ x. unit_in event s own x l.over) b ∙ ap (λ x. unit_in event s own work x) c ∙ f)

  load_goes : (unit : ℕ) → l.own ≡ Booked unit → SomeLaneMay s
  load_goes unit own = goes s k l 2 (Load k) unit at refl (by_hands (Load k) (Booked unit) l.work l.over unit refl own refl refl refl)

  push_goes : (unit : ℕ) → l.own ≡ Loaded unit → l.work ≡ Idle → length s.queue < s.capacity → SomeLaneMay s
  push_goes unit own work room =
      goes s k l 3 (Push k) unit at refl (by_hands (Push k) (Loaded unit) Idle l.over unit refl own work refl (cond-true (nat_lt (length s.queue) s.capacity) (Some unit) None (lt-ltb (length s.queue) s.capacity room)))

  book_goes : (unit : ℕ) → l.own ≡ Claimed unit → l.work ≡ Idle → s.booked + need_of s.needs unit ≤ s.part → SomeLaneMay s
  book_goes unit own work fits =
      goes s k l 5 (Book k) unit at refl (by_hands (Book k) (Claimed unit) Idle l.over unit refl own work refl (cond-true (nat_le (s.booked + need_of s.needs unit) s.part) (Some unit) None (le-leb (s.booked + need_of s.needs unit) s.part fits)))

  pop_goes : (unit : ℕ) → l.work ≡ Idle → booked_flag l.own ≡ 0 → slice_get s.queue 0 ≡ Some unit → SomeLaneMay s
  pop_goes unit work own front = goes s k l 7 (Pop k) unit at refl (by_hands (Pop k) l.own Idle l.over unit refl refl work refl (pops_front k s l.own l.over own ∙ front))

  claim_goes : l.own ≡ Free → l.work ≡ Idle → l.over ≡ false → SomeLaneMay s
  claim_goes own work over = goes s k l 6 (Claim k) s.next at refl (by_hands (Claim k) Free Idle false s.next refl own work over refl)

-- sums over the lanes: some lane has what they have, and none has anything of nothing
sum_some : (f : LaneState → ℕ) (lanes : List LaneState) → 0 < sum_by f lanes → (k : ℕ) × (l : LaneState) × (slice_get lanes k ≡ Some l) × (0 < f l)
sum_some f [] h = absurd (omega arith)
sum_some f (x ∷ lanes) h =
    let a = sum_by-cons f x lanes in
    elim (cases_eq (f x) 0) [
      | inl none ↦ let r = sum_some f lanes (omega arith) in (suc r.0, r.1, r.2, r.3)
      | inr some ↦ (0, x, refl, omega arith)
    ]

zero_at : (f : LaneState → ℕ) (lanes : List LaneState) (k : ℕ) (l : LaneState) → slice_get lanes k ≡ Some l → sum_by f lanes ≡ 0 → f l ≡ 0
zero_at f lanes k l at none =
    let e = ap f (get_or_from_slice_get lanes k l l at) in
    let least = get_or-le-sum_by f lanes k l (slice_get_within lanes k l at) in omega arith

all_zero : (f g h : LaneState → ℕ) (lanes : List LaneState) → ((l : LaneState) → f l ≡ 0 → g l ≡ 0 → h l ≡ 0) → sum_by f lanes ≡ 0 → sum_by g lanes ≡ 0 → sum_by h lanes ≡ 0
all_zero f g h [] each a b = refl
all_zero f g h (x ∷ lanes) each a b =
    let d = sum_by-cons f x lanes in
    let e = sum_by-cons g x lanes in
    let i = sum_by-cons h x lanes in
    let here : h x ≡ 0 = each x (omega arith) (omega arith) in
    let no_f : sum_by f lanes ≡ 0 = omega arith in
    let no_g : sum_by g lanes ≡ 0 = omega arith in
    let r = all_zero f g h lanes each no_f no_g in omega arith

first_lane : (lanes : List LaneState) → 1 ≤ length lanes → (l : LaneState) × (slice_get lanes 0 ≡ Some l)
first_lane [] h = absurd (omega arith)
first_lane (x ∷ lanes) h = (x, refl)

front_of : (queue : List ℕ) → queue ≢ [] → (unit : ℕ) × (slice_get queue 0 ≡ Some unit)
front_of [] h = absurd (h refl)
front_of (x ∷ queue) h = (x, refl)

abbrev busy : LaneState → ℕ
busy l = work_left l.work + booked_flag l.own

abbrev loaded : LaneState → ℕ
loaded l = loaded_flag l.own

abbrev claimed : LaneState → ℕ
claimed l = claimed_flag l.own

module _ (s : CoreState) (h : IsKept s) where
  -- a lane that works a unit, or has booked one
  busy_goes : (k : ℕ) (l : LaneState) → slice_get s.lanes k ≡ Some l → 0 < busy l → SomeLaneMay s
  busy_goes k l at some =
      elim (cases_eq (work_left l.work) 0) [
        | inl none ↦ let b = is_booked l.own (omega arith) in load_goes s k l at b.0 b.1
        | inr works ↦ work_goes s k l at l.work (omega arith) refl
      ]

  module _ (no_busy : sum_by busy s.lanes ≡ 0) where
    idle : (k : ℕ) (l : LaneState) → slice_get s.lanes k ≡ Some l → (l.work ≡ Idle) × (booked_flag l.own ≡ 0)
    idle k l at = let none = zero_at busy s.lanes k l at no_busy in (none_work l.work (omega arith), omega arith)

    -- no lane is busy, and a unit is in the queue
    queue_goes : s.queue ≢ [] → SomeLaneMay s
    queue_goes some =
        let l = first_lane s.lanes h.limits.some_lane in
        let i = idle 0 l.0 l.1 in
        let front = front_of s.queue some in pop_goes s 0 l.0 l.1 front.0 i.0 i.1 front.1

    module _ (empty : s.queue ≡ []) where
      -- the queue is empty, and a unit is loaded
      loaded_goes : (k : ℕ) (l : LaneState) → slice_get s.lanes k ≡ Some l → 0 < loaded l → SomeLaneMay s
      loaded_goes k l at some =
          let own = is_loaded l.own some in
          let none = ap length empty in
          let place = h.limits.some_place in push_goes s k l at own.0 own.1 (idle k l at).0 (omega arith)

      module _ (no_loaded : sum_by loaded s.lanes ≡ 0) where
        none_needed : (l : LaneState) → busy l ≡ 0 → loaded l ≡ 0 → lane_need s.needs l ≡ 0
        none_needed l e f =
            let a = needs_none s.needs l.own (omega arith) f in
            let b = ap (λ o. unit_need s.needs (work_unit o)) (none_work l.work (omega arith)) in omega arith

        -- nothing is booked, and a unit is claimed
        claimed_goes : (k : ℕ) (l : LaneState) → slice_get s.lanes k ≡ Some l → 0 < claimed l → SomeLaneMay s
        claimed_goes k l at some =
            let own = is_claimed l.own some in
            let total = h.booked.total in
            let a = all_zero busy loaded (lane_need s.needs) s.lanes none_needed no_busy no_loaded in
            let b = ap (sum_by (need_of s.needs)) empty in
            let fit = h.limits.fit own.0 in book_goes s k l at own.0 own.1 (idle k l at).0 (omega arith)

        module _ (no_claimed : sum_by claimed s.lanes ≡ 0) where
          free : (k : ℕ) (l : LaneState) → slice_get s.lanes k ≡ Some l → l.own ≡ Free
          free k l at = has_none l.own (idle k l at).1 (zero_at loaded s.lanes k l at no_loaded) (zero_at claimed s.lanes k l at no_claimed)

          -- all hands are empty, and a unit is unclaimed
          unclaimed_goes : s.next < length s.needs → SomeLaneMay s
          unclaimed_goes less =
              let l = first_lane s.lanes h.limits.some_lane in
              let P : LaneState → Type 0 = λ x. x.over ≡ true → s.next ≡ length s.needs in
              let over : P l.0 = subst P (get_or_from_slice_get s.lanes 0 l.0 l.0 l.1) (All-get_or P s.lanes 0 l.0 (slice_get_within s.lanes 0 l.0 l.1) h.claims.over) in
              let not_yet : l.0.over ≡ true → ⊥ = λ o. let all = over o in absurd (omega arith) in
              claim_goes s 0 l.0 l.1 (free 0 l.0 l.1) (idle 0 l.0 l.1).0 (false_from_ne_true l.0.over not_yet)

          -- all hands are empty, and a lane isn't over
          last_goes : length s.needs ≤ s.next → left_of s ≢ 0 → SomeLaneMay s
          last_goes most more =
              let none = ap length empty in
              let some : 0 < sum_by lane_left s.lanes = omega arith in
              let r = sum_some lane_left s.lanes some in
              let own = ap own_left (free r.0 r.1 r.2) in
              let work = ap work_left (idle r.0 r.1 r.2).0 in
              let left = r.3 in
              claim_goes s r.0 r.1 r.2 (free r.0 r.1 r.2) (idle r.0 r.1 r.2).0 (not_over r.1.over (omega arith))

          end_goes : left_of s ≢ 0 → SomeLaneMay s
          end_goes more =
              elim (cases_lt s.next (length s.needs)) [ inl less ↦ unclaimed_goes less | inr most ↦ last_goes most more ]

        free_goes : left_of s ≢ 0 → SomeLaneMay s
        free_goes more =
            elim (cases_eq (sum_by claimed s.lanes) 0) [
              | inl none ↦ end_goes none more
              | inr some ↦ let r = sum_some claimed s.lanes (omega arith) in claimed_goes r.0 r.1 r.2 r.3
            ]

      empty_goes : left_of s ≢ 0 → SomeLaneMay s
      empty_goes more =
          elim (cases_eq (sum_by loaded s.lanes) 0) [
            | inl none ↦ free_goes none more
            | inr some ↦ let r = sum_some loaded s.lanes (omega arith) in loaded_goes r.0 r.1 r.2 r.3
          ]

    idle_goes : left_of s ≢ 0 → SomeLaneMay s
    idle_goes more =
        elim (cases_eq (length s.queue) 0) [
          | inl none ↦ empty_goes (nil_from_length s.queue none) more
          | inr some ↦ queue_goes (λ e. some (ap length e))
        ]

  pub goes_on : left_of s ≢ 0 → SomeLaneMay s
  goes_on more =
      elim (cases_eq (sum_by busy s.lanes) 0) [
        | inl none ↦ idle_goes none more
        | inr some ↦ let r = sum_some busy s.lanes (omega arith) in busy_goes r.0 r.1 r.2 r.3
      ]
