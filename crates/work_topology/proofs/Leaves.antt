-- All lanes where nothing was begun, and where the work on what was left ended early.
use Rattle.std.proofs.Common.{◌≡◌, ◌∙◌, inl, inr, ℕ, zero, suc, List, [], ◌∷◌, ◌++◌, Err, None, ap, sym, refl, subst, arith}
use Rattle.std.specs.List.{flat_map, sum_by}
use mathlib.Core.Option.{some, some-injective, some-ne-none}
use lib.ListN.{get_elem?}
use Rattle.tb_types.specs.Bags.{IsSameBag}
use Rattle.tb_types.specs.declared.trouble.Trouble.{Trouble}
use Rattle.tb_types.specs.declared.trouble.Trouble.TheVariants as troubles
use Rattle.tb_outside.specs.declared.lane.Lane.{Lane}
use Rattle.tb_outside.specs.Source.{SourceSeen}
use Rattle.tb_outside.specs.Spill.{SpillSeen}
use Rattle.pbf_blobs.specs.declared.block.BlockAt.{BlockAt}
use Rattle.batch_queue.specs.Facts.{PassFacts}
use Rattle.batch_queue.specs.declared.entry.Entry.{Entry}
use Rattle.work_topology.specs.declared.post.Report.{Report}
use Rattle.work_topology.specs.declared.post.Post.{Post}
use Rattle.work_topology.specs.Lists.{Each}
use Rattle.work_topology.specs.Objects.{objects_of}
use Rattle.work_topology.specs.Job.{Meaning, SomeChanges, GoesOn}
use Rattle.work_topology.specs.Lane.{Scene, Leaving, LaneCause, AllPushed}
use Rattle.work_topology.specs.Ends.{IsChanged, IsUncounted, PassCause, LaneStays, LanesStay}
use Rattle.work_topology.specs.Parts.{PopsAlso, WorksLeft, GivesLeft}
use Rattle.work_topology.proofs.Pairs.{inside, there}
use Rattle.work_topology.proofs.Bags.{in_front, in_rear}
use Rattle.work_topology.proofs.Steps.{of_job}
use Rattle.work_topology.proofs.Causes.{Behind, pass_cause}
use Rattle.work_topology.proofs.Order.{not_itself}
use Rattle.work_topology.proofs.Runs.{HaveRun, some_loads}
use Rattle.work_topology.proofs.Working.{well_of}
use Rattle.work_topology.proofs.Whole.{is_one}

module _ {Seed Out R S : Type 0} (m : Meaning Seed Out S) (laws : GoesOn m) (source : R → SourceSeen) (spill : S → SpillSeen) (blocks : List BlockAt) (lanes : List (Lane R S)) where
  itself : (lane : Lane R S) → LaneStays m source spill blocks lane lane
  itself lane =
      record {
        bytes = refl;
        loads = ([], (λ k x e. absurd (some-ne-none x (sym e))), some_loads (source lane.reader).log);
        never_falls = (omega arith, omega arith);
        moves = laws.stays (objects_of lane);
      }

  -- nothing was done
  pub unmoved : LanesStay m source spill blocks lanes lanes
  unmoved = record { same = refl; each = λ k lane lane' e e'. subst (λ l. LaneStays m source spill blocks lane l) (some-injective lane lane' (sym e ∙ e')) (itself lane) }

  pub no_memory : PassCause m source spill blocks lanes lanes troubles.Memory
  no_memory k lane lane' e e' = subst (λ l. IsUncounted source spill lane l) (some-injective lane lane' (sym e ∙ e')) (refl, refl)

module _ {L Seed Out R S : Type 0} (c : Scene Seed Out R S) (laws : GoesOn c.job) (lanes : List (Lane R S)) (posts : List (Post L Out)) (l0 l0'' : Lane R S) (ls : List (Lane R S)) (p0 : Post L Out) (ps : List (Post L Out)) (r0'' : Report Out) (es : List Entry)
    (ran : HaveRun c lanes (l0 ∷ ls) posts (p0 ∷ ps)) (none : Each (λ post. post.report.trouble ≡ None) (p0 ∷ ps)) (t : Trouble) (left : WorksLeft c.job c.spill 0 es l0 p0.report l0'' r0'' (Err t)) where
  -- each lane ran well
  well : (k : ℕ) (lane lane' : Lane R S) → get_elem? lanes k ≡ some lane → get_elem? (l0 ∷ ls) k ≡ some lane' → (post : Post L Out) × (post' : Post L Out) × AllPushed c k lane post lane' post'
  well k lane lane' e e' =
      let b = ran.posts_len in let d = ran.posts_len' in
      let less = inside lanes k lane e in
      let post = there posts k (omega arith) in let post' = there (p0 ∷ ps) k (omega arith) in
      (post.0, post'.0, (well_of (Leaving c k lane post.0 lane' post'.0) post'.0.report.trouble (none k post'.0 post'.1) (ran.each k lane lane' post.0 post'.0 e e' post.1 post'.1)).0)

  stays_well : (k : ℕ) (lane lane' : Lane R S) (post post' : Post L Out) → AllPushed c k lane post lane' post' → LaneStays c.job c.source c.spill c.blocks lane lane'
  stays_well k lane lane' post post' i =
      let read = i.read_well in let well = i.spilled_well in
      record { bytes = i.bytes; loads = (post'.seat.drawn, i.within, i.log); never_falls = (omega arith, omega arith); moves = i.moves }

  stays_first : (lane : Lane R S) (post post' : Post L Out) → AllPushed c 0 lane post l0 post' → LaneStays c.job c.source c.spill c.blocks lane l0''
  stays_first lane post post' i =
      let read = i.read_well in let well = i.spilled_well in let fell = left.never_falls in let same = ap (λ r. (c.source r).faults) left.reader in
      record {
        bytes = ap (λ r. (c.source r).bytes) left.reader ∙ i.bytes;
        loads = (post'.seat.drawn, i.within, ap (λ r. (c.source r).log) left.reader ∙ i.log);
        never_falls = (omega arith, omega arith);
        moves = laws.follows _ _ _ i.moves left.moves;
      }

  pub left_stay : LanesStay c.job c.source c.spill c.blocks lanes (l0'' ∷ ls)
  left_stay = record { same = ran.lanes_len; each = each }
    where
      each : (k : ℕ) (lane lane' : Lane R S) → get_elem? lanes k ≡ some lane → get_elem? (l0'' ∷ ls) k ≡ some lane' → LaneStays c.job c.source c.spill c.blocks lane lane'
      each zero lane lane' e e' = let w = well zero lane l0 e refl in subst (λ l. LaneStays c.job c.source c.spill c.blocks lane l) (some-injective l0'' lane' e') (stays_first lane w.0 w.1 w.2)
      each (suc k) lane lane' e e' = let w = well (suc k) lane lane' e e' in stays_well (suc k) lane lane' w.0 w.1 w.2

  -- why the work on what was left ended early
  pub left_cause : (pass pass' pass'' : PassFacts) → pass.pushed ≡ flat_map (λ post. post.queue.pushed) (p0 ∷ ps) → PopsAlso pass es pass' → GivesLeft pass' pass'' → PassCause c.job c.source c.spill c.blocks lanes (l0'' ∷ ls) t
  left_cause pass pass' pass'' pushed pops gives =
      let a = ran.lanes_len in
      let lane = there lanes 0 (omega arith) in
      let w = well 0 lane.0 l0 lane.1 refl in
      let cause =
      of_job c.job c.source c.spill 0 (SomeChanges c.job es) (IsChanged c.job c.source c.blocks lanes) lane.0 l0 l0'' t changed w.2.read_well w.2.spilled_well left.reader left.cause in
      pass_cause c.job c.source c.spill c.blocks lanes (l0'' ∷ ls) 0 lane.0 l0'' lane.1 refl t cause (others lane.0 lane.1 cause)
    where
      all_pushed : IsSameBag pass''.popped (flat_map (λ post. post.queue.pushed) (p0 ∷ ps))
      all_pushed = λ weight. sym (gives.2 weight) ∙ ap (λ l. sum_by weight l) (ap (λ p. p.pushed) gives.1 ∙ ap (λ p. p.pushed) pops ∙ pushed)

      changed : (number block : ℕ) → SomeChanges c.job es number block → IsChanged c.job c.source c.blocks lanes number block
      changed number block s =
          let a = in_rear pass.popped es s.0 s.1 s.2 in
          let b = in_front (pass.popped ++ es) gives.0 a.0 s.1 a.1 in
          let popped : pass''.popped ≡ (pass.popped ++ es) ++ gives.0 = ap (λ p. p.popped) gives.1 ∙ ap (λ p. p.popped ++ gives.0) pops in
          let one = is_one c lanes (l0 ∷ ls) posts (p0 ∷ ps) ran pass''.popped all_pushed b.0 s.1 (ap (λ l. get_elem? l b.0) popped ∙ b.1) in
          (one.0, s.1, one.1, s.3)

      others : (first : Lane R S) → get_elem? lanes 0 ≡ some first → LaneCause c.job c.source c.spill 0 (IsChanged c.job c.source c.blocks lanes) first l0'' t
          → (j : ℕ) (l l' : Lane R S) → get_elem? lanes j ≡ some l → get_elem? (l0'' ∷ ls) j ≡ some l' → Behind c.job c.source c.spill (IsChanged c.job c.source c.blocks lanes) t j l l'
      others first at cause zero l l' e e' =
          inr (t, subst (λ (z : _ × _). LaneCause c.job c.source c.spill 0 (IsChanged c.job c.source c.blocks lanes) z.0 z.1 t) (λ i. (some-injective first l (sym at ∙ e) i, some-injective l0'' l' e' i)) cause, not_itself t)
      others first at cause (suc j) l l' e e' = let w = well (suc j) l l' e e' in inl (w.2.read_well, w.2.spilled_well)
