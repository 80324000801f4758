-- Each event keeps what is kept, and is one less of what is left.
use Rattle.std.proofs.Common.{◌≡◌, ℕ, ◌+◌, ◌-◌, ◌<◌, ◌≤◌, Bool, true, false, cond, nat_lt, nat_le, Option, Some, None, IfSome, List, [], ◌∷◌, ◌++◌, length, set, drop, length-set, slice_get, slice_set, subst, sym, ap, refl, arith}
use Rattle.std.specs.List.{sum_by}
use Rattle.std.proofs.lemmas.Bool.{ltb-true, ltb-false, leb-true}
use Rattle.std.proofs.lemmas.List.{length_push}
use Rattle.std.proofs.lemmas.List.Sums.{sum_by_push}
use Rattle.std.proofs.lemmas.Option.{option_and_then_some, slice_get_within, get_or_from_slice_get}
use Rattle.flow_core.specs.declared.event.Event.{Event}
use Rattle.flow_core.specs.declared.event.Event.TheVariants.{Claim, Book, Load, Push, Pop, Put, Emit, Give}
use Rattle.flow_core.specs.declared.lane.Own.{Own}
use Rattle.flow_core.specs.declared.lane.Own.TheVariants.{Free, Claimed, Booked, Loaded}
use Rattle.flow_core.specs.declared.lane.Work.{Work}
use Rattle.flow_core.specs.declared.lane.Work.TheVariants.{Idle, Popped, Stored, Emitted}
use Rattle.flow_core.specs.declared.lane.LaneState.{LaneState}
use Rattle.flow_core.specs.Lanes.{own_unit, work_unit, fresh_lane, lane_at, lane_left}
use Rattle.flow_core.specs.State.{CoreState, need_of, left_of}
use Rattle.flow_core.specs.Events.{lane_of, unit_in, unit_at, unit_of, entry_of, claim_effect, over_effect, effect}
use Rattle.flow_core.specs.Runs.{IsSameMachine}
use Rattle.flow_core.specs.Kept.{units, in_hand, own_entry, work_entry, lane_need, IsKept}
use Rattle.flow_core.proofs.BagLemmas.{sum_at, units_push, front_sum, front_length}
use Rattle.flow_core.proofs.KeptLemmas.{limits_stay, of_lanes, of_lanes_more, was_over, claims_stay, claims_more, booked_now, hands_now, queue_now}

abbrev pub lane : Own → Work → Bool → LaneState
lane own work over = record { own = own; work = work; over = over }

-- the next state has what is kept, and one event less is left
pub record Does (s next : CoreState) : Type 0 where
  pub kept : IsKept next
  pub less : left_of next + 1 ≡ left_of s

-- what holds of the unit that an event is about, by the lane that acts
pub about : (P : ℕ → Type 0) (event : Event) (s : CoreState) (unit : ℕ) → ((l : LaneState) → slice_get s.lanes (lane_of event) ≡ Some l → IfSome (unit_at event s l) P) → unit_of event s ≡ Some unit → P unit
about P event s unit each e = option_and_then_some (unit_at event s) (slice_get s.lanes (lane_of event)) unit e (λ l at f. subst (λ (o : Option ℕ). IfSome o P) f (each l at))

-- what holds under a test, and of a unit that may be missing
pub where_true : (P : ℕ → Type 0) (b : Bool) (unit : ℕ) → (b ≡ true → P unit) → IfSome (cond b (Some unit) None) P
where_true P true unit e = e refl
where_true P false unit e = tt

pub where_some : (P : ℕ → Type 0) (o : Option ℕ) → ((unit : ℕ) → o ≡ Some unit → P unit) → IfSome o P
where_some P None e = tt
where_some P (Some unit) e = e unit refl

module _ (s : CoreState) (k : ℕ) (l : LaneState) (at : slice_get s.lanes k ≡ Some l) (h : IsKept s) where
  -- one lane changed is one element set
  by_set : (f : LaneState → LaneState) (next : List LaneState → CoreState) → Does s (next (set s.lanes k (f l))) → Does s (next (slice_set s.lanes k (f (lane_at s.lanes k))))
  by_set f next d = subst (λ (lanes : List LaneState). Does s (next lanes)) (sym (ap (λ (x : LaneState). set s.lanes k (f x)) (get_or_from_slice_get s.lanes k l fresh_lane at))) d

  -- a lane goes on with its units, or is over
  lane_goes : (l' : LaneState) → own_unit l'.own ≡ own_unit l.own → work_unit l'.work ≡ work_unit l.work → lane_need s.needs l' ≡ lane_need s.needs l → (l'.over ≡ true → s.next ≡ length s.needs) → lane_left l' + 1 ≡ lane_left l
      → Does s (record s { lanes = set s.lanes k l' })
  lane_goes l' own work need over left = record {
    kept = record {
      limits = limits_stay s k l l' at h;
      claims = claims_stay s k l l' at h over;
      booked = booked_now s k l l' at h s.booked s.queue (omega arith) h.booked.within;
      queue = h.queue;
      own = hands_now s k l l' at h own_entry s.claims s.pushed s.claims s.pushed h.own (λ w. let e = ap (λ o. sum_by w (in_hand k o)) own in omega arith);
      work = hands_now s k l l' at h work_entry s.popped s.done s.popped s.done h.work (λ w. let e = ap (λ o. sum_by w (in_hand k o)) work in omega arith);
      popped_of_lanes = of_lanes s k l l' at h s.popped h.popped_of_lanes;
    };
    less = let t = sum_at lane_left s.lanes k l l' at in omega arith;
  }

-- a lane with these in hand does what it may
module _ (s : CoreState) (k : ℕ) (own : Own) (work : Work) (over : Bool) (h : IsKept s) where
  claims_next : slice_get s.lanes k ≡ Some (lane Free work over) → s.next < length s.needs → Does s (claim_effect k s.next s)
  claims_next at less =
      let l = lane Free work over in
      let l' = lane (Claimed s.next) work over in
      by_set s k l at h (λ x. record x { own = Claimed s.next }) (λ lanes. record s { lanes = lanes; next = s.next + 1; claims = s.claims ++ entry_of k s.next ∷ [] }) (record {
        kept = record {
          limits = limits_stay s k l l' at h;
          claims = claims_more s k l l' at h less refl;
          booked = booked_now s k l l' at h s.booked s.queue refl h.booked.within;
          queue = h.queue;
          own = hands_now s k l l' at h own_entry s.claims s.pushed (s.claims ++ entry_of k s.next ∷ []) s.pushed h.own (λ w. let a = sum_by_push w s.claims (entry_of k s.next) in omega arith);
          work = hands_now s k l l' at h work_entry s.popped s.done s.popped s.done h.work (λ w. refl);
          popped_of_lanes = of_lanes s k l l' at h s.popped h.popped_of_lanes;
        };
        less = let t = sum_at lane_left s.lanes k l l' at in omega arith;
      })

  books : (unit : ℕ) → slice_get s.lanes k ≡ Some (lane (Claimed unit) work over) → s.booked + need_of s.needs unit ≤ s.part → Does s (effect (Book k) unit s)
  books unit at fits =
      let l = lane (Claimed unit) work over in
      let l' = lane (Booked unit) work over in
      by_set s k l at h (λ x. record x { own = Booked unit }) (λ lanes. record s { lanes = lanes; booked = s.booked + need_of s.needs unit }) (record {
        kept = record {
          limits = limits_stay s k l l' at h;
          claims = claims_stay s k l l' at h (was_over s k l l' at h);
          booked = booked_now s k l l' at h (s.booked + need_of s.needs unit) s.queue (omega arith) fits;
          queue = h.queue;
          own = hands_now s k l l' at h own_entry s.claims s.pushed s.claims s.pushed h.own (λ w. refl);
          work = hands_now s k l l' at h work_entry s.popped s.done s.popped s.done h.work (λ w. refl);
          popped_of_lanes = of_lanes s k l l' at h s.popped h.popped_of_lanes;
        };
        less = let t = sum_at lane_left s.lanes k l l' at in omega arith;
      })

  pushes : (unit : ℕ) → slice_get s.lanes k ≡ Some (lane (Loaded unit) work over) → length s.queue < s.capacity → Does s (effect (Push k) unit s)
  pushes unit at room =
      let l = lane (Loaded unit) work over in
      let l' = lane Free work over in
      let entry = entry_of k unit in
      let longer = length_push s.queue unit in
      by_set s k l at h (λ x. record x { own = Free }) (λ lanes. record s { lanes = lanes; queue = s.queue ++ unit ∷ []; pushed = s.pushed ++ entry ∷ [] }) (record {
        kept = record {
          limits = limits_stay s k l l' at h;
          claims = claims_stay s k l l' at h (was_over s k l l' at h);
          booked = booked_now s k l l' at h s.booked (s.queue ++ unit ∷ []) (let a = sum_by_push (need_of s.needs) s.queue unit in omega arith) h.booked.within;
          queue = queue_now s k l l' at h (s.queue ++ unit ∷ []) (s.pushed ++ entry ∷ []) s.popped (omega arith)
              (λ w. let a = ap (sum_by w) (units_push s.pushed k unit) in let b = sum_by_push w (units s.pushed) unit in let c = sum_by_push w s.queue unit in omega arith);
          own = hands_now s k l l' at h own_entry s.claims s.pushed s.claims (s.pushed ++ entry ∷ []) h.own (λ w. let a = sum_by_push w s.pushed entry in omega arith);
          work = hands_now s k l l' at h work_entry s.popped s.done s.popped s.done h.work (λ w. refl);
          popped_of_lanes = of_lanes s k l l' at h s.popped h.popped_of_lanes;
        };
        less = let t = sum_at lane_left s.lanes k l l' at in omega arith;
      })

  pops : (unit : ℕ) → slice_get s.lanes k ≡ Some (lane own Idle over) → slice_get s.queue 0 ≡ Some unit → Does s (effect (Pop k) unit s)
  pops unit at front =
      let l = lane own Idle over in
      let l' = lane own (Popped unit) over in
      let entry = entry_of k unit in
      let shorter = front_length s.queue unit front in
      by_set s k l at h (λ x. record x { work = Popped unit }) (λ lanes. record s { lanes = lanes; queue = drop 1 s.queue; popped = s.popped ++ entry ∷ [] }) (record {
        kept = record {
          limits = limits_stay s k l l' at h;
          claims = claims_stay s k l l' at h (was_over s k l l' at h);
          booked = booked_now s k l l' at h s.booked (drop 1 s.queue) (let a = front_sum (need_of s.needs) s.queue unit front in omega arith) h.booked.within;
          queue = queue_now s k l l' at h (drop 1 s.queue) s.pushed (s.popped ++ entry ∷ []) (let was = h.queue.short in omega arith)
              (λ w. let a = ap (sum_by w) (units_push s.popped k unit) in let b = sum_by_push w (units s.popped) unit in let c = front_sum w s.queue unit front in omega arith);
          own = hands_now s k l l' at h own_entry s.claims s.pushed s.claims s.pushed h.own (λ w. refl);
          work = hands_now s k l l' at h work_entry s.popped s.done (s.popped ++ entry ∷ []) s.done h.work (λ w. let a = sum_by_push w s.popped entry in omega arith);
          popped_of_lanes = of_lanes_more s k l l' at h s.popped unit h.popped_of_lanes;
        };
        less = let t = sum_at lane_left s.lanes k l l' at in omega arith;
      })

  gives : (unit : ℕ) → slice_get s.lanes k ≡ Some (lane own (Emitted unit) over) → Does s (effect (Give k) unit s)
  gives unit at =
      let l = lane own (Emitted unit) over in
      let l' = lane own Idle over in
      let entry = entry_of k unit in
      let total = h.booked.total in let within = h.booked.within in
      let mine = sum_at (lane_need s.needs) s.lanes k l l' at in
      by_set s k l at h (λ x. record x { work = Idle }) (λ lanes. record s { lanes = lanes; booked = s.booked - need_of s.needs unit; done = s.done ++ entry ∷ [] }) (record {
        kept = record {
          limits = limits_stay s k l l' at h;
          claims = claims_stay s k l l' at h (was_over s k l l' at h);
          booked = booked_now s k l l' at h (s.booked - need_of s.needs unit) s.queue (omega arith) (omega arith);
          queue = h.queue;
          own = hands_now s k l l' at h own_entry s.claims s.pushed s.claims s.pushed h.own (λ w. refl);
          work = hands_now s k l l' at h work_entry s.popped s.done s.popped (s.done ++ entry ∷ []) h.work (λ w. let a = sum_by_push w s.done entry in omega arith);
          popped_of_lanes = of_lanes s k l l' at h s.popped h.popped_of_lanes;
        };
        less = let t = sum_at lane_left s.lanes k l l' at in omega arith;
      })

  goes : (own' : Own) (work' : Work) → slice_get s.lanes k ≡ Some (lane own work over) → own_unit own' ≡ own_unit own → work_unit work' ≡ work_unit work → lane_need s.needs (lane own' work' over) ≡ lane_need s.needs (lane own work over) → lane_left (lane own' work' over) + 1 ≡ lane_left (lane own work over)
      → Does s (record s { lanes = set s.lanes k (lane own' work' over) })
  goes own' work' at same same' need left = lane_goes s k (lane own work over) at h (lane own' work' over) same same' need (was_over s k (lane own work over) (lane own work over) at h) left

claims : (s : CoreState) (k : ℕ) → IsKept s → slice_get s.lanes k ≡ Some (lane Free Idle false) → (b : Bool) → nat_lt s.next (length s.needs) ≡ b → Does s (cond b (claim_effect k s.next s) (over_effect k s))
claims s k h at true e = claims_next s k Free Idle false h at (ltb-true s.next (length s.needs) e)
claims s k h at false e =
    let most = ltb-false s.next (length s.needs) e in
    let within = h.claims.within in
    by_set s k (lane Free Idle false) at h (λ x. record x { over = true }) (λ lanes. record s { lanes = lanes }) (lane_goes s k (lane Free Idle false) at h (lane Free Idle true) refl refl refl (λ _. omega arith) refl)

-- every event, by what its lane has in hand
does_in : (event : Event) (s : CoreState) (own : Own) (work : Work) (over : Bool) → IsKept s → slice_get s.lanes (lane_of event) ≡ Some (lane own work over) → IfSome (unit_in event s own work over) (λ unit. Does s (effect event unit s))
does_in (Claim k) s Free Idle false h at = claims s k h at (nat_lt s.next (length s.needs)) refl
does_in (Book k) s (Claimed unit) Idle over h at =
    where_true (λ u. Does s (effect (Book k) u s)) (nat_le (s.booked + need_of s.needs unit) s.part) unit (λ e. books s k Free Idle over h unit at (leb-true (s.booked + need_of s.needs unit) s.part e))
does_in (Load k) s (Booked unit) work over h at =
    by_set s k (lane (Booked unit) work over) at h (λ x. record x { own = Loaded unit }) (λ lanes. record s { lanes = lanes }) (goes s k (Booked unit) work over h (Loaded unit) work at refl refl refl (omega arith))
does_in (Push k) s (Loaded unit) Idle over h at =
    where_true (λ u. Does s (effect (Push k) u s)) (nat_lt (length s.queue) s.capacity) unit (λ e. pushes s k Free Idle over h unit at (ltb-true (length s.queue) s.capacity e))
does_in (Pop k) s (Booked _) work over h at = tt
does_in (Pop k) s own Idle over h at = where_some (λ u. Does s (effect (Pop k) u s)) (slice_get s.queue 0) (λ unit front. pops s k own Idle over h unit at front)
does_in (Put k) s own (Popped unit) over h at =
    by_set s k (lane own (Popped unit) over) at h (λ x. record x { work = Stored unit }) (λ lanes. record s { lanes = lanes }) (goes s k own (Popped unit) over h own (Stored unit) at refl refl refl (omega arith))
does_in (Emit k) s own (Stored unit) over h at =
    by_set s k (lane own (Stored unit) over) at h (λ x. record x { work = Emitted unit }) (λ lanes. record s { lanes = lanes }) (goes s k own (Stored unit) over h own (Emitted unit) at refl refl refl (omega arith))
does_in (Give k) s own (Emitted unit) over h at = gives s k own Idle over h unit at
does_in _ s own work over h at = tt

-- and by the unit that it is about
pub does_at : (event : Event) (s : CoreState) (l : LaneState) (unit : ℕ) → IsKept s → slice_get s.lanes (lane_of event) ≡ Some l → unit_at event s l ≡ Some unit → Does s (effect event unit s)
does_at event s l unit h at f = subst (λ (o : Option ℕ). IfSome o (λ u. Does s (effect event u s))) f (does_in event s l.own l.work l.over h at)

pub does_after : (event : Event) (s : CoreState) (unit : ℕ) → IsKept s → unit_of event s ≡ Some unit → Does s (effect event unit s)
does_after event s unit h = about (λ u. Does s (effect event u s)) event s unit (λ l at. does_in event s l.own l.work l.over h at)

-- the parameters stay
same_claimed : (b : Bool) (k unit : ℕ) (s : CoreState) → IsSameMachine s (cond b (claim_effect k unit s) (over_effect k s))
same_claimed true k unit s = record { needs = refl; capacity = refl; part = refl; lanes = length-set s.lanes k _ }
same_claimed false k unit s = record { needs = refl; capacity = refl; part = refl; lanes = length-set s.lanes k _ }

pub same_effect : (event : Event) (unit : ℕ) (s : CoreState) → IsSameMachine s (effect event unit s)
same_effect (Claim k) unit s = same_claimed (nat_lt unit (length s.needs)) k unit s
same_effect _ unit s = record { needs = refl; capacity = refl; part = refl; lanes = length-set s.lanes _ _ }

-- an event is possible in a lane alone
pub lane_within : (event : Event) (s : CoreState) (unit : ℕ) → unit_of event s ≡ Some unit → lane_of event < length s.lanes
lane_within event s unit = about (λ _. lane_of event < length s.lanes) event s unit (λ l at. where_some (λ _. lane_of event < length s.lanes) (unit_at event s l) (λ _ _. slice_get_within s.lanes (lane_of event) l at))
