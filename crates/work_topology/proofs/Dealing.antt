-- Seats and passes are dealt and gathered, one post more.
use Rattle.std.proofs.Common.{◌≡◌, ◌∙◌, ℕ, suc, ◌+◌, ◌-◌, ◌<◌, Bool, true, false, true≢false, List, [], ◌∷◌, ◌++◌, length, length-append, take, drop, map, Option, Some, None, ap, sym, refl, subst, arith, append_assoc}
use Rattle.std.specs.Prelude.{nat_lt, if◌then◌else◌, slice_index_or}
use Rattle.std.proofs.lemmas.List.{append-nil, map_push, flat_map_more}
use Rattle.std.proofs.lemmas.Bool.Decides.{nat_tests}
use lib.ListN.{get_elem?}
use Rattle.claim_desk.specs.Facts.{DeskFacts, SeatFacts, has_ended, later}
use Rattle.batch_queue.specs.Facts.{QueueFacts, PassFacts}
use Rattle.work_topology.specs.declared.post.Report.{Report}
use Rattle.work_topology.specs.declared.post.Post.{Post}
use Rattle.work_topology.specs.Lists.{Each}
use Rattle.work_topology.specs.Parts.{first_seat, first_pass, IsDealt, AreDealt, DealsRest, AreTogether, AreGathered, GathersRest}
use Rattle.work_topology.proofs.Steps.{paired_push}

-- a list's first element, and the rest
pub first_and_rest : {A : Type 0} (xs ys : List A) (x : A) → 0 < length xs → x ≡ slice_index_or xs 0 x → ys ≡ take 0 xs ++ drop 1 xs → xs ≡ x ∷ ys
first_and_rest [] ys x filled is are = absurd (omega arith)
first_and_rest (z ∷ zs) ys x filled is are = λ i. sym is i ∷ sym are i

module _ {L Out : Type 0} (desk : DeskFacts) (queue : QueueFacts) where
  pub dealt_more : (reports : List (Report Out)) (seat seat' : SeatFacts) (pass pass' : PassFacts) (posts : List (Post L Out)) (report : Report Out) (post : Post L Out)
      → DealsRest desk queue reports seat pass posts
      → seat' ≡ record seat { out = seat.out + 1; splits = seat.splits + 1 } → pass' ≡ record pass { out = pass.out + 1 }
      → post.seat ≡ record seat { first = false; out = 0; splits = 0; seen = None; past = 0; drawn = [] } → post.queue ≡ record pass { first = false; out = 0; pushed = []; popped = [] } → post.report ≡ report
      → DealsRest desk queue (reports ++ report ∷ []) seat' pass' (posts ++ post ∷ [])
  dealt_more reports seat seat' pass pass' posts report post d s p s0 p0 r =
      let len : length reports + 1 ≡ length (reports ++ report ∷ []) = sym (length-append reports (report ∷ [])) in
      record {
        each =
            paired_push (IsDealt desk queue) reports posts report post d.each
            (record {
              reports = r;
              at_desk = (ap (λ x. x.place) s0 ∙ ap (λ x. x.place) d.of_seat, ap (λ x. x.limit) s0 ∙ ap (λ x. x.limit) d.of_seat);
              at_queue = ap (λ x. x.place) p0 ∙ ap (λ x. x.place) d.of_pass;
              no_claim = ap (λ x. x.drawn) s0;
              no_push = ap (λ x. x.pushed) p0;
              no_pop = ap (λ x. x.popped) p0;
            });
        of_seat = s ∙ ap (λ (x : SeatFacts). record x { out = x.out + 1; splits = x.splits + 1 }) d.of_seat ∙ ap (first_seat desk) len;
        of_pass = p ∙ ap (λ (x : PassFacts). record x { out = x.out + 1 }) d.of_pass ∙ ap (first_pass queue) len;
      }

  pub dealt_none : (seat : SeatFacts) (pass : PassFacts) (posts : List (Post L Out)) → length posts ≡ 0 → seat ≡ first_seat desk 0 → pass ≡ first_pass queue 0 → DealsRest desk queue [] seat pass posts
  dealt_none seat pass [] len s p = record { each = tt; of_seat = s; of_pass = p }
  dealt_none seat pass (x ∷ xs) len s p = absurd (omega arith)

  pub dealt_all : (reports rest : List (Report Out)) (own : Report Out) (seat : SeatFacts) (pass : PassFacts) (posts : List (Post L Out)) (post : Post L Out)
      → reports ≡ own ∷ rest → DealsRest desk queue rest seat pass posts → post.seat ≡ seat → post.queue ≡ pass → post.report ≡ own → AreDealt desk queue reports (post ∷ posts)
  dealt_all reports rest own seat pass posts post are d s p r =
      subst (λ l. AreDealt desk queue l (post ∷ posts)) (sym are)
      (record {
        each = (
          record {
            reports = r;
            at_desk = (ap (λ x. x.place) s ∙ ap (λ x. x.place) d.of_seat, ap (λ x. x.limit) s ∙ ap (λ x. x.limit) d.of_seat);
            at_queue = ap (λ x. x.place) p ∙ ap (λ x. x.place) d.of_pass;
            no_claim = ap (λ x. x.drawn) s ∙ ap (λ x. x.drawn) d.of_seat;
            no_push = ap (λ x. x.pushed) p ∙ ap (λ x. x.pushed) d.of_pass;
            no_pop = ap (λ x. x.popped) p ∙ ap (λ x. x.popped) d.of_pass;
          },
          d.each,
        );
        leads =
            record {
              seat = (ap (λ x. x.first) s ∙ ap (λ x. x.first) d.of_seat, ap (λ x. x.out) s ∙ ap (λ x. x.out) d.of_seat ∙ (let z : length rest ≡ length (own ∷ rest) - 1 = omega arith in z));
              pass = (ap (λ x. x.first) p ∙ ap (λ x. x.first) d.of_pass, ap (λ x. x.out) p ∙ ap (λ x. x.out) d.of_pass ∙ (let z : length rest ≡ length (own ∷ rest) - 1 = omega arith in z));
            };
      })

-- a seat that has seen the end has seen it after a join
pub later_ended : (n : ℕ) (x y : Option ℕ) → has_ended n x ≡ true → has_ended n (later x y) ≡ true
later_ended n None y h = absurd (true≢false (sym h))
later_ended n (Some x) None h = h
later_ended n (Some x) (Some y) h = choose (nat_lt x y) refl
  where
    choose : (b : Bool) → nat_lt x y ≡ b → has_ended n (Some (if b then y else x)) ≡ true
    choose true less = grind (arith, nat_tests)
    choose false not = h

module _ {L Out : Type 0} (desk : DeskFacts) (seat : SeatFacts) (pass : PassFacts) (reports : List (Report Out)) where
  pub gathered_none : GathersRest {L = L} desk [] seat pass reports seat pass reports
  gathered_none =
      record {
        each = sym (append-nil reports);
        of_seat = (refl, refl, refl, let z : seat.out ≡ seat.out - 0 = omega arith in z);
        of_pass = (refl, refl, let z : pass.out ≡ pass.out - 0 = omega arith in z);
        drawn = sym (append-nil seat.drawn);
        pushed = sym (append-nil pass.pushed);
        popped = sym (append-nil pass.popped);
        ended = λ h. h;
      }

  pub gathered_more : (posts : List (Post L Out)) (post : Post L Out) (s s' : SeatFacts) (p p' : PassFacts) (rs rs' : List (Report Out)) (past : ℕ) (a b : Bool)
      → GathersRest desk posts seat pass reports s p rs
      → s' ≡ record s { out = s.out - 1; seen = later s.seen post.seat.seen; past = past; drawn = s.drawn ++ post.seat.drawn }
      → p' ≡ record p { out = p.out - 1; pushed = p.pushed ++ post.queue.pushed; popped = p.popped ++ post.queue.popped; pushed_in_order = a; popped_in_order = b }
      → rs' ≡ rs ++ post.report ∷ []
      → GathersRest desk (posts ++ post ∷ []) seat pass reports s' p' rs'
  gathered_more posts post s s' p p' rs rs' past a b g e f r =
      let len = length-append posts (post ∷ []) in
      let out = g.of_seat.3 in
      let outs = g.of_pass.2 in
      let one = ap (λ x. x.out) e in
      let two = ap (λ x. x.out) f in
      record {
        each = r ∙ ap (λ l. l ++ post.report ∷ []) g.each ∙ append_assoc reports (map (λ x. x.report) posts) (post.report ∷ []) ∙ ap (λ l. reports ++ l) (sym (map_push (λ (x : Post L Out). x.report) posts post));
        of_seat = (ap (λ x. x.place) e ∙ g.of_seat.0, ap (λ x. x.limit) e ∙ g.of_seat.1, ap (λ x. x.first) e ∙ g.of_seat.2, omega arith);
        of_pass = (ap (λ x. x.place) f ∙ g.of_pass.0, ap (λ x. x.first) f ∙ g.of_pass.1, omega arith);
        drawn = ap (λ x. x.drawn) e ∙ ap (λ l. l ++ post.seat.drawn) g.drawn ∙ flat_map_more (λ (x : Post L Out). x.seat.drawn) seat.drawn posts post;
        pushed = ap (λ x. x.pushed) f ∙ ap (λ l. l ++ post.queue.pushed) g.pushed ∙ flat_map_more (λ (x : Post L Out). x.queue.pushed) pass.pushed posts post;
        popped = ap (λ x. x.popped) f ∙ ap (λ l. l ++ post.queue.popped) g.popped ∙ flat_map_more (λ (x : Post L Out). x.queue.popped) pass.popped posts post;
        ended = λ h. ap (λ x. has_ended desk.limit x.seen) e ∙ later_ended desk.limit s.seen post.seat.seen (g.ended h);
      }

-- the first post and the rest, gathered
pub gathered_all : {L Out : Type 0} (desk : DeskFacts) (queue : QueueFacts) (posts rest : List (Post L Out)) (lead : Post L Out) (seat : SeatFacts) (pass : PassFacts) (none reports : List (Report Out))
    → posts ≡ lead ∷ rest → AreTogether desk queue posts → none ≡ lead.report ∷ [] → GathersRest desk rest lead.seat lead.queue none seat pass reports → AreGathered desk queue posts seat pass reports
gathered_all {L} {Out} desk queue posts rest lead seat pass none reports are together one g =
    let t = subst (λ l. AreTogether desk queue l) are together in
    let here = t.here 0 lead refl in
    let out = t.leads.seat.1 in let outs = t.leads.pass.1 in
    let a = g.of_seat.3 in let b = g.of_pass.2 in
    subst (λ l. AreGathered desk queue l seat pass reports) (sym are)
    (record {
      each = g.each ∙ ap (λ l. l ++ map (λ x. x.report) rest) one;
      at_desk = (g.of_seat.0 ∙ here.0.0, g.of_seat.1 ∙ here.0.1);
      at_queue = g.of_pass.0 ∙ here.1;
      seats = (g.of_seat.2 ∙ t.leads.seat.0, omega arith);
      passes = (g.of_pass.1 ∙ t.leads.pass.0, omega arith);
      drawn = g.drawn;
      pushed = g.pushed;
      popped = g.popped;
      ended = g.ended;
    })

-- the posts behind the first one
pub rest_here : {A : Type 0} (P : A → Type 0) (xs ys : List A) (x : A) → xs ≡ x ∷ ys → Each P xs → Each P ys
rest_here P xs ys x are all k y e = all (suc k) y (ap (λ l. get_elem? l (suc k)) are ∙ e)
