-- The end of each lane's part: what it leaves, and why it is refused.
use Rattle.std.proofs.Common.{◌≡◌, ◌∙◌, inl, inr, ℕ, ◌+◌, ◌<◌, ◌≤◌, List, length, Option, Some, None, ap, subst, arith}
use Rattle.std.specs.Prelude.{MatchOption, IfSome}
use mathlib.Core.Option.{some}
use lib.ListN.{get_elem?}
use Rattle.tb_types.specs.declared.trouble.Trouble.{Trouble}
use Rattle.tb_outside.specs.declared.lane.Lane.{Lane}
use Rattle.tb_outside.specs.Source.{SourceSeen}
use Rattle.tb_outside.specs.Spill.{SpillSeen}
use Rattle.pbf_blobs.specs.declared.block.BlockAt.{BlockAt}
use Rattle.claim_desk.specs.Facts.{SeatFacts}
use Rattle.batch_queue.specs.Facts.{PassFacts}
use Rattle.work_topology.specs.declared.post.Report.{Report}
use Rattle.work_topology.specs.Spread.{AllReady, AllRun}
use Rattle.work_topology.specs.Objects.{objects_of, AreUncounted}
use Rattle.work_topology.specs.Job.{Meaning, JobCause, NeverChanges, GoesOn}
use Rattle.work_topology.specs.Lane.{EndsPart}
use Rattle.work_topology.specs.Told.{IsFirstTold, NotBefore}
use Rattle.work_topology.specs.Ends.{IsChanged, IsUncounted, PassCause, LaneStays, LanesStay}
use Rattle.work_topology.specs.Parts.{HaveWorked}
use Rattle.work_topology.proofs.Pairs.{inside, there}
use Rattle.work_topology.proofs.Steps.{of_job}
use Rattle.work_topology.proofs.Causes.{Behind, pass_cause}

module _ {Seed Out R S : Type 0} (m : Meaning Seed Out S) (laws : GoesOn m) (source : R → SourceSeen) (spill : S → SpillSeen) (blocks : List BlockAt)
    (lanes lanes' : List (Lane R S)) (starts reports : List (Report Out)) (starts_len : length starts ≡ length lanes) (seat : SeatFacts) (pass : PassFacts)
    (h : HaveWorked m source spill blocks lanes lanes' starts reports seat pass) where
  -- what each lane has done before the end
  before : (k : ℕ) (lane lane' : Lane R S) (report : Report Out) → get_elem? lanes k ≡ some lane → get_elem? lanes' k ≡ some lane' → get_elem? reports k ≡ some report
      → (LaneStays m source spill blocks lane lane' × m.fits k report.out (objects_of lane')) × ((source lane'.reader).faults ≡ (source lane.reader).faults) × AreUncounted spill (objects_of lane) (objects_of lane')
  before k lane lane' report e e' r =
      let a = h.pushed_len in let b = h.popped_len in
      let less = inside lanes k lane e in
      let start = there starts k (omega arith) in let es = there h.pushed k (omega arith) in let fs = there h.popped k (omega arith) in
      let w = h.each k lane lane' start.0 report es.0 fs.0 e e' start.1 r es.1 fs.1 in
      let read = w.counts.0 in let well = w.counts.1 in
      ((record { bytes = w.bytes; loads = (report.claims, w.within, w.log); never_falls = (omega arith, omega arith); moves = w.moves }, w.fits), read, well)

  -- what all lanes did leaves them as a pass does
  pub worked_stay : LanesStay m source spill blocks lanes lanes'
  worked_stay =
      let b = h.reports_len in
      record {
        same = h.lanes_len;
        each = λ k lane lane' e e'. let less = inside lanes k lane e in let report = there reports k (omega arith) in (before k lane lane' report.0 e e' report.1).0.0;
      }

  -- each lane's part can be ended
  pub end_ready : 0 < length lanes → length lanes ≤ 64 → AllReady (λ number lane report. m.fits number report.out (objects_of lane)) 0 lanes' reports
  end_ready filled few =
      let a = h.lanes_len in let b = h.reports_len in
      record {
        same = omega arith;
        some_item = omega arith;
        room = omega arith;
        each = λ k lane' report e r.
            let less = inside lanes' k lane' e in
            let lane = there lanes k (omega arith) in
            subst (λ n. m.fits n report.out (objects_of lane')) (let z : k ≡ 0 + k = omega arith in z) (before k lane.0 lane' report lane.1 e r).0.1;
      }

  module _ (lanes'' : List (Lane R S)) (reports'' : List (Report Out)) (last : AllRun (λ number lane report lane' report'. EndsPart m spill number lane report lane' report') 0 lanes' reports lanes'' reports'') where
    part : (k : ℕ) (lane' lane'' : Lane R S) (report report'' : Report Out) → get_elem? lanes' k ≡ some lane' → get_elem? lanes'' k ≡ some lane'' → get_elem? reports k ≡ some report → get_elem? reports'' k ≡ some report'' → EndsPart m spill k lane' report lane'' report''
    part k lane' lane'' report report'' e e' r r' = subst (λ n. EndsPart m spill n lane' report lane'' report'') (let z : 0 + k ≡ k = omega arith in z) (last.each k lane' lane'' report report'' e e' r r')

    pub end_stay : LanesStay m source spill blocks lanes lanes''
    end_stay =
        let a = h.lanes_len in let b = h.reports_len in let c = last.items_len in let d = last.places_len in
        record {
          same = omega arith;
          each = λ k lane lane'' e e''.
              let less = inside lanes k lane e in
              let lane' = there lanes' k (omega arith) in let report = there reports k (omega arith) in let report'' = there reports'' k (omega arith) in
              let w = before k lane lane'.0 report.0 e lane'.1 report.1 in
              let p = part k lane'.0 lane'' report.0 report''.0 lane'.1 e'' report.1 report''.1 in
              let read = w.1 in let well = w.2 in let same = ap (λ r. (source r).faults) p.reader in let fell = p.never_falls in
              record {
                bytes = ap (λ r. (source r).bytes) p.reader ∙ w.0.0.bytes;
                loads = (w.0.0.loads.0, w.0.0.loads.1, ap (λ r. (source r).log) p.reader ∙ w.0.0.loads.2);
                never_falls = (omega arith, omega arith);
                moves = laws.follows _ _ _ w.0.0.moves p.moves;
              };
        }

    never : (number block : ℕ) → NeverChanges number block → IsChanged m source blocks lanes number block
    never number block no_way = absurd no_way

    -- a lane whose end was refused, or not
    ended : (k : ℕ) (lane lane' lane'' : Lane R S) (report report'' : Report Out) (t : Option Trouble) → (source lane'.reader).faults ≡ (source lane.reader).faults → AreUncounted spill (objects_of lane) (objects_of lane') → lane''.reader ≡ lane'.reader
        → MatchOption t (m.ends k report.out report''.out (objects_of lane') (objects_of lane'') × AreUncounted spill (objects_of lane') (objects_of lane'')) (JobCause m spill k NeverChanges (objects_of lane') (objects_of lane''))
        → (told : Trouble) → IfSome t (NotBefore told) → Behind m source spill (IsChanged m source blocks lanes) told k lane lane''
    ended k lane lane' lane'' report report'' None read well reader r told not = inl (ap (λ x. (source x).faults) reader ∙ read, r.1 ∙ well)
    ended k lane lane' lane'' report report'' (Some t) read well reader r told not = inr (t, of_job m source spill k NeverChanges (IsChanged m source blocks lanes) lane lane' lane'' t never read well reader r, not)

    -- why the ends are refused
    pub end_cause : (told : Trouble) → IsFirstTold reports'' told → PassCause m source spill blocks lanes lanes'' told
    end_cause told first =
        let a = h.lanes_len in let b = h.reports_len in let c = last.items_len in let d = last.places_len in
        let k = first.place in
        let less = inside reports'' k first.report first.at in
        let lane = there lanes k (omega arith) in let lane' = there lanes' k (omega arith) in let lane'' = there lanes'' k (omega arith) in let report = there reports k (omega arith) in
        let w = before k lane.0 lane'.0 report.0 lane.1 lane'.1 report.1 in
        let p = part k lane'.0 lane''.0 report.0 first.report lane'.1 lane''.1 report.1 first.at in
        let r =
        subst (λ t. MatchOption t (m.ends k report.0.out first.report.out (objects_of lane'.0) (objects_of lane''.0) × AreUncounted spill (objects_of lane'.0) (objects_of lane''.0)) (JobCause m spill k NeverChanges (objects_of lane'.0) (objects_of lane''.0))) first.has p.ended in
        pass_cause m source spill blocks lanes lanes'' k lane.0 lane''.0 lane.1 lane''.1 told
        (of_job m source spill k NeverChanges (IsChanged m source blocks lanes) lane.0 lane'.0 lane''.0 told never w.1 w.2 p.reader r)
        (
        λ j l l'' e e''.
        let inside_j = inside lanes j l e in
        let l' = there lanes' j (omega arith) in let q = there reports j (omega arith) in let q'' = there reports'' j (omega arith) in
        let v = before j l l'.0 q.0 e l'.1 q.1 in
        let o = part j l'.0 l'' q.0 q''.0 l'.1 e'' q.1 q''.1 in
        ended j l l'.0 l'' q.0 q''.0 q''.0.trouble v.1 v.2 o.reader o.ended told (first.first j q''.0 q''.1)
        )

    -- where nothing is told the lanes are left as they were told
    pub ends_uncounted : ((k : ℕ) (r : Report Out) → get_elem? reports'' k ≡ some r → r.trouble ≡ None) → (k : ℕ) (lane lane'' : Lane R S) → get_elem? lanes k ≡ some lane → get_elem? lanes'' k ≡ some lane'' → IsUncounted source spill lane lane''
    ends_uncounted none k lane lane'' e e'' =
        let a = h.lanes_len in let b = h.reports_len in let c = last.items_len in let d = last.places_len in
        let less = inside lanes k lane e in
        let lane' = there lanes' k (omega arith) in let report = there reports k (omega arith) in let report'' = there reports'' k (omega arith) in
        let w = before k lane lane'.0 report.0 e lane'.1 report.1 in
        let p = part k lane'.0 lane'' report.0 report''.0 lane'.1 e'' report.1 report''.1 in
        let r =
        subst (λ t. MatchOption t (m.ends k report.0.out report''.0.out (objects_of lane'.0) (objects_of lane'') × AreUncounted spill (objects_of lane'.0) (objects_of lane'')) (JobCause m spill k NeverChanges (objects_of lane'.0) (objects_of lane''))) (none k report''.0 report''.1) p.ended in
        (ap (λ x. (source x).faults) p.reader ∙ w.1, r.1 ∙ w.2)
