-- What is kept, as one lane changes.
use Rattle.std.proofs.Common.{◌≡◌, ℕ, ◌+◌, ◌<◌, ◌≤◌, true, Some, List, [], ◌∷◌, ◌++◌, length, set, slice_get, subst, sym, ap, ◌∙◌, arith, length-set, add-one}
use Rattle.std.specs.List.{sum_by}
use Rattle.std.proofs.lemmas.List.Sums.{sum_by-append}
use Rattle.std.proofs.lemmas.List.Elements.{All-set, All-get_or, All-push, All-weaker}
use Rattle.std.proofs.lemmas.Option.{slice_get_within, get_or_from_slice_get}
use Rattle.tb_types.specs.Bags.{below, IsSameBag}
use Rattle.flow_core.specs.declared.lane.LaneState.{LaneState}
use Rattle.flow_core.specs.declared.lane.Entry.{Entry}
use Rattle.flow_core.specs.State.{CoreState, need_of}
use Rattle.flow_core.specs.Events.{entry_of}
use Rattle.flow_core.specs.Kept.{units, each_lane, lane_need, IsWithin, IsOfLanes, IsClaimed, IsBooked, IsQueued, IsKept}
use Rattle.flow_core.proofs.BagLemmas.{sum_at, each_lane_set, units_push}

module _ (s : CoreState) (k : ℕ) (l l' : LaneState) (at : slice_get s.lanes k ≡ Some l) (h : IsKept s) where
  abbrev changed : List LaneState
  changed = set s.lanes k l'

  pub limits_stay : IsWithin s.needs s.capacity s.part (length changed)
  limits_stay = subst (λ n. IsWithin s.needs s.capacity s.part n) (sym (length-set s.lanes k l')) h.limits

  pub of_lanes : (entries : List Entry) → IsOfLanes (length s.lanes) entries → IsOfLanes (length changed) entries
  of_lanes entries e = subst (λ n. IsOfLanes n entries) (sym (length-set s.lanes k l')) e

  -- an entry of this lane more
  pub of_lanes_more : (entries : List Entry) (unit : ℕ) → IsOfLanes (length s.lanes) entries → IsOfLanes (length changed) (entries ++ entry_of k unit ∷ [])
  of_lanes_more entries unit e =
      of_lanes (entries ++ entry_of k unit ∷ []) (All-push (λ (entry : Entry). entry.lane < length s.lanes) entries (entry_of k unit) e (slice_get_within s.lanes k l at))

  -- the lane was over only if no unit was left
  pub was_over : l.over ≡ true → s.next ≡ length s.needs
  was_over =
      let P : LaneState → Type 0 = λ x. x.over ≡ true → s.next ≡ length s.needs in
      subst P (get_or_from_slice_get s.lanes k l l at) (All-get_or P s.lanes k l (slice_get_within s.lanes k l at) h.claims.over)

  pub claims_stay : (l'.over ≡ true → s.next ≡ length s.needs) → IsClaimed s.needs s.next changed s.claims
  claims_stay over =
      record {
        in_order = h.claims.in_order;
        within = h.claims.within;
        of_lanes = of_lanes s.claims h.claims.of_lanes;
        over = All-set (λ x. x.over ≡ true → s.next ≡ length s.needs) s.lanes k l' over h.claims.over;
      }

  -- the next unit joins the claims
  pub claims_more : s.next < length s.needs → l'.over ≡ l.over → IsClaimed s.needs (s.next + 1) changed (s.claims ++ entry_of k s.next ∷ [])
  claims_more less same =
      let not_over : (x : LaneState) → (x.over ≡ true → s.next ≡ length s.needs) → x.over ≡ true → s.next + 1 ≡ length s.needs = λ x p o. let q = p o in absurd (omega arith) in
      let P : LaneState → Type 0 = λ x. x.over ≡ true → s.next ≡ length s.needs in
      let Q : LaneState → Type 0 = λ x. x.over ≡ true → s.next + 1 ≡ length s.needs in
      record {
        in_order = units_push s.claims k s.next ∙ ap (λ xs. xs ++ s.next ∷ []) h.claims.in_order ∙ ap below (sym (add-one s.next));
        within = omega arith;
        of_lanes = of_lanes_more s.claims s.next h.claims.of_lanes;
        over = All-set Q s.lanes k l' (λ o. not_over l was_over (sym same ∙ o)) (All-weaker P Q not_over s.lanes h.claims.over);
      }

  -- what is booked, with the needs of this lane and of the queue
  pub booked_now : (booked : ℕ) (queue : List ℕ) → booked + (lane_need s.needs l + sum_by (need_of s.needs) s.queue) ≡ s.booked + (lane_need s.needs l' + sum_by (need_of s.needs) queue) → booked ≤ s.part → IsBooked s.needs s.part booked changed queue
  booked_now booked queue same fits =
      let t = sum_at (lane_need s.needs) s.lanes k l l' at in
      let u = h.booked.total in record { total = omega arith; within = fits }

  -- what is in the lanes' hands: what came in, and what went out
  pub hands_now : (entry : ℕ → LaneState → List Entry) (ins outs ins' outs' : List Entry) → IsSameBag ins (each_lane entry 0 s.lanes ++ outs)
      → ((w : Entry → ℕ) → sum_by w ins' + (sum_by w (entry k l) + sum_by w outs) ≡ sum_by w ins + (sum_by w (entry k l') + sum_by w outs')) → IsSameBag ins' (each_lane entry 0 changed ++ outs')
  hands_now entry ins outs ins' outs' was same w =
      let zero_k : k ≡ 0 + k = omega arith in
      let e = each_lane_set w entry s.lanes 0 k k l l' at zero_k in
      let a = sum_by-append w (each_lane entry 0 s.lanes) outs in
      let b = sum_by-append w (each_lane entry 0 changed) outs' in
      let c = same w in let d = was w in omega arith

  -- the queue, what was pushed and what was popped
  pub queue_now : (queue : List ℕ) (pushed popped : List Entry) → length queue ≤ s.capacity
      → ((w : ℕ → ℕ) → sum_by w (units pushed) + (sum_by w (units s.popped) + sum_by w s.queue) ≡ sum_by w (units s.pushed) + (sum_by w (units popped) + sum_by w queue)) → IsQueued s.capacity queue pushed popped
  queue_now queue pushed popped short same =
      record {
        short = short;
        moved = λ w.
            let a = sum_by-append w (units s.popped) s.queue in
            let b = sum_by-append w (units popped) queue in
            let c = same w in let d = h.queue.moved w in omega arith;
      }
