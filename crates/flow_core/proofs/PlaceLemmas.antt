-- There is place for each event that is possible, and the fields stay sound.
use Rattle.std.proofs.Common.{◌≡◌, ℕ, ◌+◌, ◌≤◌, Bool, false, nat_lt, nat_le, Some, IfSome, List, length, slice_get, subst, sym, ap, ◌∙◌, arith}
use Rattle.std.specs.List.{sum_by}
use Rattle.std.proofs.lemmas.Bool.{ltb-true, leb-true}
use Rattle.std.proofs.lemmas.List.{length-map}
use Rattle.std.proofs.lemmas.List.Sums.{sum_by-append}
use Rattle.flow_core.specs.declared.event.Event.{Event}
use Rattle.flow_core.specs.declared.event.Event.TheVariants.{Claim, Book, Load, Push, Pop, Put, Emit, Give}
use Rattle.flow_core.specs.declared.flow.Flow.{Flow}
use Rattle.flow_core.specs.declared.lane.Own.{Own}
use Rattle.flow_core.specs.declared.lane.Own.TheVariants.{Free, Claimed, Booked, Loaded}
use Rattle.flow_core.specs.declared.lane.Work.{Work}
use Rattle.flow_core.specs.declared.lane.Work.TheVariants.{Idle, Emitted}
use Rattle.flow_core.specs.declared.lane.LaneState.{LaneState}
use Rattle.flow_core.specs.declared.lane.Entry.{Entry}
use Rattle.flow_core.specs.Lanes.{fresh_lane}
use Rattle.flow_core.specs.State.{CoreState, need_of, left_of}
use Rattle.flow_core.specs.Events.{lane_of, unit_in, unit_of, effect}
use Rattle.flow_core.specs.Kept.{units, each_lane, own_entry, work_entry, owned, worked, lane_need, IsKept}
use Rattle.flow_core.specs.Inside.{state_of, IsSound, HasPlace, HasRoomOf}
use Rattle.flow_core.proofs.BagLemmas.{sum_one, length-below, sum_at, each_lane_set, front_length}
use Rattle.flow_core.proofs.EventLemmas.{lane, about, where_true, where_some, does_after, same_effect}

-- a unit in a lane's hand counts
hand_counts : (entry : ℕ → LaneState → List Entry) (lanes : List LaneState) (k : ℕ) (l : LaneState) → slice_get lanes k ≡ Some l → sum_by (λ _. 1) (entry k l) ≤ sum_by (λ _. 1) (entry k fresh_lane) + sum_by (λ _. 1) (each_lane entry 0 lanes)
hand_counts entry lanes k l at = let zero_k : k ≡ 0 + k = omega arith in let e = each_lane_set (λ _. 1) entry lanes 0 k k l fresh_lane at zero_k in omega arith

-- how long the lists are, by the units in hand
record Lengths (s : CoreState) : Type 0 where
  claims : length s.claims ≡ s.next
  pushed : sum_by (λ _. 1) (owned s.lanes) + length s.pushed ≡ s.next
  popped : length s.popped + length s.queue ≡ length s.pushed
  done : sum_by (λ _. 1) (worked s.lanes) + length s.done ≡ length s.popped

lengths : (s : CoreState) → IsKept s → Lengths s
lengths s h =
    let a = ap length h.claims.in_order in
    let b = length-map s.claims (λ (entry : Entry). entry.unit) in
    let c = length-below s.next in
    let d = h.own (λ _. 1) in
    let e = sum_by-append (λ _. 1) (owned s.lanes) s.pushed in
    let f = h.queue.moved (λ _. 1) in
    let g = sum_by-append (λ _. 1) (units s.popped) s.queue in
    let i = length-map s.pushed (λ (entry : Entry). entry.unit) in
    let j = length-map s.popped (λ (entry : Entry). entry.unit) in
    let k = h.work (λ _. 1) in
    let l = sum_by-append (λ _. 1) (worked s.lanes) s.done in
    let m = sum_one s.claims in let n = sum_one s.pushed in let o = sum_one s.popped in let p = sum_one s.done in
    let q = sum_one (units s.pushed) in let r = sum_one (units s.popped) in let t = sum_one s.queue in
    record { claims = omega arith; pushed = omega arith; popped = omega arith; done = omega arith }

-- by what the lane has in hand
place_in : (event : Event) (flow : Flow) (own : Own) (work : Work) (over : Bool) → IsSound flow → slice_get flow.lanes.items (lane_of event) ≡ Some (lane own work over) → IfSome (unit_in event (state_of flow) own work over) (λ unit. HasPlace event unit flow)
place_in (Claim k) flow Free Idle false h at =
    (h.0.limits.few_units, λ less. (let n = (lengths (state_of flow) h.0).claims in let room = h.1.claims in let len = flow.claims.ok.0 in omega arith))
place_in (Book k) flow (Claimed unit) Idle over h at =
    where_true (λ u. HasPlace (Book k) u flow) (nat_le (flow.booked + need_of flow.needs.items unit) flow.part) unit (λ e. leb-true (flow.booked + need_of flow.needs.items unit) flow.part e)
place_in (Push k) flow (Loaded unit) Idle over h at =
    where_true (λ u. HasPlace (Push k) u flow) (nat_lt (length flow.queue.items) flow.capacity) unit (λ e.
    let free = ltb-true (length flow.queue.items) flow.capacity e in
    let n = lengths (state_of flow) h.0 in
    let pushed = n.pushed in let popped = n.popped in
    let mine = hand_counts own_entry flow.lanes.items k (lane (Loaded unit) Idle over) at in
    let within = h.0.claims.within in
    let room = h.1.pushed in let len = flow.pushed.ok.0 in
    let places = h.1.queue in let full = flow.queue.ok.0 in (omega arith, omega arith))
place_in (Pop k) flow (Booked _) work over h at = tt
place_in (Pop k) flow own Idle over h at =
    where_some (λ u. HasPlace (Pop k) u flow) (slice_get flow.queue.items 0) (λ unit front.
    let n = lengths (state_of flow) h.0 in
    let pushed = n.pushed in let popped = n.popped in
    let some = front_length flow.queue.items unit front in
    let within = h.0.claims.within in
    let room = h.1.popped in let len = flow.popped.ok.0 in omega arith)
place_in (Give k) flow own (Emitted unit) over h at =
    let n = lengths (state_of flow) h.0 in
    let pushed = n.pushed in let popped = n.popped in let done = n.done in
    let mine = hand_counts work_entry flow.lanes.items k (lane own (Emitted unit) over) at in
    let within = h.0.claims.within in
    let room = h.1.done in let len = flow.done.ok.0 in
    let part = sum_at (lane_need flow.needs.items) flow.lanes.items k (lane own (Emitted unit) over) fresh_lane at in
    let total = h.0.booked.total in (omega arith, omega arith)
place_in (Load k) flow own work over h at = where_some (λ u. HasPlace (Load k) u flow) (unit_in (Load k) (state_of flow) own work over) (λ _ _. tt)
place_in (Put k) flow own work over h at = where_some (λ u. HasPlace (Put k) u flow) (unit_in (Put k) (state_of flow) own work over) (λ _ _. tt)
place_in (Emit k) flow own work over h at = where_some (λ u. HasPlace (Emit k) u flow) (unit_in (Emit k) (state_of flow) own work over) (λ _ _. tt)
place_in _ flow own work over h at = tt

pub has_place : (event : Event) (flow : Flow) (unit : ℕ) → IsSound flow → unit_of event (state_of flow) ≡ Some unit → HasPlace event unit flow
has_place event flow unit h = about (λ u. HasPlace event u flow) event (state_of flow) unit (λ l at. place_in event flow l.own l.work l.over h at)

-- after it the fields are sound, and one event less is left
pub acted : (event : Event) (old new : Flow) (unit : ℕ) → IsSound old → unit_of event (state_of old) ≡ Some unit → state_of new ≡ effect event unit (state_of old) → HasRoomOf old new → IsSound new × (left_of (state_of new) + 1 ≡ left_of (state_of old))
acted event old new unit h may is room =
    let does = does_after event (state_of old) unit h.0 may in
    let same = same_effect event unit (state_of old) in
    let needs : length new.needs.items ≡ length old.needs.items = ap (λ (x : CoreState). length x.needs) is ∙ ap length same.needs in
    let capacity : new.capacity ≡ old.capacity = ap (λ (x : CoreState). x.capacity) is ∙ same.capacity in
    let a = h.1.claims in let b = h.1.pushed in let c = h.1.popped in let d = h.1.done in let e = h.1.queue in
    let i = room.claims in let j = room.pushed in let k = room.popped in let l = room.done in let m = room.queue in (
      (
        subst (λ (x : CoreState). IsKept x) (sym is) does.kept,
        record { claims = omega arith; pushed = omega arith; popped = omega arith; done = omega arith; queue = omega arith },
      ),
      ap (λ x. left_of x + 1) is ∙ does.less,
    )
