-- Batches that were left in the queue: one more is worked.
use Rattle.std.proofs.Common.{◌≡◌, ◌∙◌, ℕ, List, [], ◌∷◌, ◌++◌, length, Ok, Err, ap, sym, refl, subst, arith, append_assoc}
use Rattle.std.proofs.lemmas.List.{append-nil}
use Rattle.atomic_table.proofs.Lists.{at_last}
use Rattle.tb_types.specs.declared.trouble.Trouble.{Trouble}
use Rattle.tb_types.specs.declared.trouble.Trouble.TheVariants as troubles
use Rattle.tb_types.specs.Counts.{Rose}
use Rattle.tb_outside.specs.declared.lane.Lane.{Lane}
use Rattle.tb_outside.specs.Spill.{SpillSeen}
use Rattle.batch_queue.specs.Facts.{PassFacts, BatchFacts}
use Rattle.batch_queue.specs.declared.entry.Entry.{Entry}
use Rattle.work_topology.specs.declared.post.Report.{Report}
use Rattle.work_topology.specs.Objects.{Objects, objects_of, AreUncounted}
use Rattle.work_topology.specs.Job.{Meaning, JobCause, MayChange, SomeChanges, GoesOn}
use Rattle.work_topology.specs.Lane.{TakesUp, IsDone}
use Rattle.work_topology.specs.Parts.{WorksLeft, PopsAlso}
use Rattle.work_topology.proofs.Steps.{worked_push, paired_push}

pub pops_none : (pass : PassFacts) → PopsAlso pass [] pass
pops_none pass = λ i. record pass { popped = sym (append-nil pass.popped) i }

-- one more is popped
pub pops_more : (old mid new : PassFacts) (entries : List Entry) (e : Entry) → PopsAlso old entries mid → new ≡ record mid { popped = mid.popped ++ e ∷ [] } → PopsAlso old (entries ++ e ∷ []) new
pops_more old mid new entries e was is =
    is ∙ ap (λ (p : PassFacts). record p { popped = p.popped ++ e ∷ [] }) was ∙ ap (λ es. record old { popped = es }) (append_assoc old.popped entries (e ∷ []))

module _ {Seed Out R S : Type 0} (m : Meaning Seed Out S) (laws : GoesOn m) (spill : S → SpillSeen) (n : ℕ) (lane : Lane R S) (report : Report Out) where
  pub works_none : m.fits n report.out (objects_of lane) → WorksLeft m spill n [] lane report lane report (Ok tt)
  works_none fits =
      record {
        reader = refl;
        claims = refl;
        moves = laws.stays (objects_of lane);
        never_falls = omega arith;
        worked = ((refl, refl), fits, refl);
        listed = ([], sym (append-nil report.done), tt);
        cause = tt;
      }

  -- the cause of the last refusal is one of all
  widen : (entries : List Entry) (e : Entry) (mid new : Objects S) (t : Trouble) → AreUncounted spill (objects_of lane) mid → JobCause m spill n (MayChange m e) mid new t → JobCause m spill n (SomeChanges m (entries ++ e ∷ [])) (objects_of lane) new t
  widen entries e mid new (troubles.Source whom) well cause = absurd cause
  widen entries e mid new (troubles.Spill whom) well cause = ((cause.0.0, subst (λ f. Rose f (spill new.spill).faults) well cause.0.1), λ before. cause.1 before ∙ well)
  widen entries e mid new (troubles.Outside whom run at) well cause = (cause.0, cause.1, cause.2, cause.3 ∙ well)
  widen entries e mid new (troubles.Changed pass block) well cause = ((length entries, e, at_last entries e (length entries) refl, cause.0), cause.1 ∙ well)
  widen entries e mid new troubles.Memory well cause = cause ∙ well

  -- one batch more is worked
  pub works_more : (entries : List Entry) (batch : BatchFacts) (mid : Lane R S) (done : Report Out) (lane' : Lane R S) (report' : Report Out)
      → WorksLeft m spill n entries lane report mid done (Ok tt) → TakesUp m spill n batch mid done lane' report' (Ok tt) → WorksLeft m spill n (entries ++ batch.entry ∷ []) lane report lane' report' (Ok tt)
  works_more entries batch mid done lane' report' w t =
      let d = t.listed in
      record {
        reader = t.reader ∙ w.reader;
        claims = t.claims ∙ w.claims;
        moves = laws.follows _ _ _ w.moves t.moves;
        never_falls = let a = w.never_falls in let b = t.never_falls in omega arith;
        worked = (
          worked_push m n entries batch.entry report.out done.out report'.out (objects_of lane) (objects_of mid) (objects_of lane') w.worked.0 t.worked.0,
          t.worked.1,
          t.worked.2 ∙ w.worked.2,
        );
        listed = (
          w.listed.0 ++ d.0 ∷ [],
          d.1 ∙ ap (λ ds. ds ++ d.0 ∷ []) w.listed.1 ∙ append_assoc report.done w.listed.0 (d.0 ∷ []),
          paired_push (IsDone n) entries w.listed.0 batch.entry d.0 w.listed.2 d.2,
        );
        cause = tt;
      }

  -- the work of one more is refused
  pub works_not : (entries : List Entry) (batch : BatchFacts) (mid : Lane R S) (done : Report Out) (lane' : Lane R S) (report' : Report Out) (t : Trouble)
      → WorksLeft m spill n entries lane report mid done (Ok tt) → TakesUp m spill n batch mid done lane' report' (Err t) → WorksLeft m spill n (entries ++ batch.entry ∷ []) lane report lane' report' (Err t)
  works_not entries batch mid done lane' report' trouble w t =
      record {
        reader = t.reader ∙ w.reader;
        claims = t.claims ∙ w.claims;
        moves = laws.follows _ _ _ w.moves t.moves;
        never_falls = let a = w.never_falls in let b = t.never_falls in omega arith;
        worked = tt;
        listed = tt;
        cause = widen entries batch.entry (objects_of mid) (objects_of lane') trouble w.worked.2 t.cause;
      }
