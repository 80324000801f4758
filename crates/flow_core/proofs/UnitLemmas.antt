-- The units that events are about are units that there are.
use Rattle.std.proofs.Common.{◌≡◌, ℕ, zero, suc, ◌+◌, ◌<◌, ◌≤◌, inl, inr, Bool, false, cond, nat_lt, nat_le, Option, Some, IfSome, List, length, slice_get, get_or, subst, sym, ap, refl, arith}
use Rattle.std.specs.List.{sum_by}
use Rattle.std.proofs.lemmas.Bool.{cond-true, cond-false, lt-ltb, le-ltb, cases_lt}
use Rattle.std.proofs.lemmas.List.Sums.{sum_by-append, sum_by_push}
use Rattle.std.proofs.lemmas.Option.{slice_get_read}
use Rattle.tb_types.specs.Bags.{below}
use Rattle.flow_core.specs.declared.event.Event.{Event}
use Rattle.flow_core.specs.declared.event.Event.TheVariants.{Claim, Book, Load, Push, Pop, Put, Emit, Give}
use Rattle.flow_core.specs.declared.lane.Own.{Own}
use Rattle.flow_core.specs.declared.lane.Own.TheVariants.{Free, Claimed, Booked, Loaded}
use Rattle.flow_core.specs.declared.lane.Work.{Work}
use Rattle.flow_core.specs.declared.lane.Work.TheVariants.{Idle, Popped, Stored, Emitted}
use Rattle.flow_core.specs.declared.lane.LaneState.{LaneState}
use Rattle.flow_core.specs.declared.lane.Entry.{Entry}
use Rattle.flow_core.specs.Lanes.{own_unit, work_unit, fresh_lane}
use Rattle.flow_core.specs.State.{CoreState, need_of}
use Rattle.flow_core.specs.Events.{lane_of, unit_in, unit_at, IsUnitOf}
use Rattle.flow_core.specs.Kept.{units, in_hand, each_lane, own_entry, work_entry, owned, worked, IsKept}
use Rattle.flow_core.proofs.BagLemmas.{sum_by-map, each_lane_set, front_sum}
use Rattle.flow_core.proofs.EventLemmas.{lane, where_true, where_some}

-- a number weighs 1 if there is no such unit: a list of units weighs nothing
abbrev unknown : ℕ → ℕ → ℕ
unknown n unit = cond (nat_lt unit n) 0 1

known_is : (n unit : ℕ) → unknown n unit ≡ 0 → unit < n
known_is n unit e =
    elim (cases_lt unit n) [
      | inl less ↦ less
      | inr most ↦ let one = cond-false {A = ℕ} (nat_lt unit n) 0 1 (le-ltb unit n most) in absurd (omega arith)
    ]

below_known : (m n : ℕ) → m ≤ n → sum_by (unknown n) (below m) ≡ 0
below_known zero n h = refl
below_known (suc m) n h =
    let a = sum_by_push (unknown n) (below m) m in
    let b = cond-true {A = ℕ} (nat_lt m n) 0 1 (lt-ltb m n (omega arith)) in
    let less : m ≤ n = omega arith in
    let r = below_known m n less in omega arith

module _ (s : CoreState) (h : IsKept s) where
  weight : Entry → ℕ
  weight entry = unknown (length s.needs) entry.unit

  known_claims : sum_by weight s.claims ≡ 0
  unfolding weight
  known_claims =
      let a = sum_by-map (unknown (length s.needs)) (λ (entry : Entry). entry.unit) s.claims in
      let b = ap (sum_by (unknown (length s.needs))) h.claims.in_order in
      let c = below_known s.next (length s.needs) h.claims.within in omega arith

  known_own : (sum_by weight (owned s.lanes) ≡ 0) × (sum_by weight s.pushed ≡ 0)
  known_own =
      let a = known_claims in
      let b = h.own weight in
      let c = sum_by-append weight (owned s.lanes) s.pushed in (omega arith, omega arith)

  known_queue : (sum_by weight s.popped ≡ 0) × (sum_by (unknown (length s.needs)) s.queue ≡ 0)
  unfolding weight
  known_queue =
      let a = known_own.1 in
      let b = h.queue.moved (unknown (length s.needs)) in
      let c = sum_by-append (unknown (length s.needs)) (units s.popped) s.queue in
      let d = sum_by-map (unknown (length s.needs)) (λ (entry : Entry). entry.unit) s.pushed in
      let e = sum_by-map (unknown (length s.needs)) (λ (entry : Entry). entry.unit) s.popped in (omega arith, omega arith)

  known_work : sum_by weight (worked s.lanes) ≡ 0
  known_work =
      let a = known_queue.0 in
      let b = h.work weight in
      let c = sum_by-append weight (worked s.lanes) s.done in omega arith

  -- of the units in the lanes' hands
  hand_known : (entry : ℕ → LaneState → List Entry) (k : ℕ) (l : LaneState) → slice_get s.lanes k ≡ Some l → sum_by weight (each_lane entry 0 s.lanes) ≡ 0 → sum_by weight (entry k fresh_lane) ≡ 0 → sum_by weight (entry k l) ≡ 0
  hand_known entry k l at none fresh =
      let zero_k : k ≡ 0 + k = omega arith in
      let a = each_lane_set weight entry s.lanes 0 k k l fresh_lane at zero_k in omega arith

  own_known : (k : ℕ) (own : Own) (work : Work) (over : Bool) (unit : ℕ) → slice_get s.lanes k ≡ Some (lane own work over) → own_unit own ≡ Some unit → unit < length s.needs
  unfolding weight
  own_known k own work over unit at is =
      let a = hand_known own_entry k (lane own work over) at known_own.0 refl in
      let b = ap (λ o. sum_by weight (in_hand k o)) is in known_is (length s.needs) unit (omega arith)

  work_known : (k : ℕ) (own : Own) (work : Work) (over : Bool) (unit : ℕ) → slice_get s.lanes k ≡ Some (lane own work over) → work_unit work ≡ Some unit → unit < length s.needs
  unfolding weight
  work_known k own work over unit at is =
      let a = hand_known work_entry k (lane own work over) at known_work refl in
      let b = ap (λ o. sum_by weight (in_hand k o)) is in known_is (length s.needs) unit (omega arith)

  front_known : (unit : ℕ) → slice_get s.queue 0 ≡ Some unit → unit < length s.needs
  front_known unit front =
      let a = front_sum (unknown (length s.needs)) s.queue unit front in
      let b = known_queue.1 in known_is (length s.needs) unit (omega arith)

  known_in : (event : Event) (own : Own) (work : Work) (over : Bool) → slice_get s.lanes (lane_of event) ≡ Some (lane own work over) → IfSome (unit_in event s own work over) (λ unit. IsUnitOf event (length s.needs) unit)
  known_in (Claim k) Free Idle false at = h.claims.within
  known_in (Book k) (Claimed unit) Idle over at = where_true (λ u. u < length s.needs) (nat_le (s.booked + need_of s.needs unit) s.part) unit (λ _. own_known k (Claimed unit) Idle over unit at refl)
  known_in (Load k) (Booked unit) work over at = own_known k (Booked unit) work over unit at refl
  known_in (Push k) (Loaded unit) Idle over at = where_true (λ u. u < length s.needs) (nat_lt (length s.queue) s.capacity) unit (λ _. own_known k (Loaded unit) Idle over unit at refl)
  known_in (Pop k) (Booked _) work over at = tt
  known_in (Pop k) own Idle over at = where_some (λ u. u < length s.needs) (slice_get s.queue 0) front_known
  known_in (Put k) own (Popped unit) over at = work_known k own (Popped unit) over unit at refl
  known_in (Emit k) own (Stored unit) over at = work_known k own (Stored unit) over unit at refl
  known_in (Give k) own (Emitted unit) over at = work_known k own (Emitted unit) over unit at refl
  known_in _ own work over at = tt

-- by what `unit_at` answers in the lane that acts
pub known_if : (event : Event) (s : CoreState) (l : LaneState) (o : Option ℕ) → IsKept s → slice_get s.lanes (lane_of event) ≡ Some l → o ≡ unit_at event s l → IfSome o (λ unit. IsUnitOf event (length s.needs) unit)
known_if event s l o h at e = subst (λ (x : Option ℕ). IfSome x (λ unit. IsUnitOf event (length s.needs) unit)) (sym e) (known_in s h event l.own l.work l.over at)

-- a lane that was read
pub read_is : (xs lanes : List LaneState) (i k : ℕ) (l : LaneState) → xs ≡ lanes → i ≡ k → i < length xs → l ≡ get_or xs i l → slice_get lanes k ≡ Some l
read_is xs lanes i k l e f less read =
    let at = slice_get_read xs (length xs) i l refl less read in
    let there : slice_get lanes i ≡ Some l = subst (λ (ys : List LaneState). slice_get ys i ≡ Some l) e at in
    subst (λ (j : ℕ). slice_get lanes j ≡ Some l) f there
