-- All lanes together, over whatever lists they are: the cases of a list with a first element.
use Rattle.std.proofs.Common.{◌≡◌, ◌∙◌, ℕ, ◌<◌, List, [], ◌∷◌, ◌++◌, drop, length, map, Ok, Err, None, ap, sym, subst, arith}
use Rattle.std.specs.List.{flat_map, sum_by}
use mathlib.Core.Option.{some, some-injective}
use lib.ListN.{get_elem?}
use Rattle.tb_types.specs.Bags.{IsSameBag}
use Rattle.tb_types.specs.declared.trouble.Trouble.{Trouble}
use Rattle.tb_outside.specs.declared.lane.Lane.{Lane}
use Rattle.claim_desk.specs.Facts.{SeatFacts}
use Rattle.batch_queue.specs.Facts.{PassFacts}
use Rattle.batch_queue.specs.declared.entry.Entry.{Entry}
use Rattle.work_topology.specs.declared.post.Report.{Report}
use Rattle.work_topology.specs.declared.post.Post.{Post}
use Rattle.work_topology.specs.Lists.{Each, Paired}
use Rattle.work_topology.specs.Objects.{objects_of}
use Rattle.work_topology.specs.Job.{GoesOn}
use Rattle.work_topology.specs.Lane.{Scene, Leaving}
use Rattle.work_topology.specs.Told.{IsFirstTold}
use Rattle.work_topology.specs.Ends.{PassCause, LanesStay}
use Rattle.work_topology.specs.Parts.{IsDealt, AreGathered, WorksLeft, WorksOnFirst, GivesLeft, HaveWorked, FirstFits}
use Rattle.work_topology.proofs.Pairs.{there}
use Rattle.work_topology.proofs.Bags.{in_front, of_all, map_at, at_map}
use Rattle.work_topology.proofs.Runs.{HaveRun}
use Rattle.work_topology.proofs.Whole.{runs_cause}
use Rattle.work_topology.proofs.Working.{all_worked, well_of}
use Rattle.work_topology.proofs.Leaves.{left_stay, left_cause}

module _ {L Seed Out R S : Type 0} (c : Scene Seed Out R S) (laws : GoesOn c.job) (lanes lanes' : List (Lane R S)) (posts posts' : List (Post L Out)) (ran : HaveRun c lanes lanes' posts posts') (filled : 0 < length lanes)
    (reports : List (Report Out)) (seat : SeatFacts) (pass : PassFacts) (g : AreGathered c.desk c.queue posts' seat pass reports) where
  -- why the lanes' runs end early, where all that was left was given back
  pub first_cause : (told : Trouble) (pass' : PassFacts) → IsFirstTold reports told → GivesLeft pass pass' → PassCause c.job c.source c.spill c.blocks lanes lanes' told
  first_cause told pass' first gives =
      runs_cause c lanes lanes' posts posts' ran pass'.popped all_pushed popped told (subst (λ l. IsFirstTold l told) g.each first)
    where
      all_pushed : IsSameBag pass'.popped (flat_map (λ post. post.queue.pushed) posts')
      all_pushed = λ weight. sym (gives.2 weight) ∙ ap (λ l. sum_by weight l) (ap (λ p. p.pushed) gives.1 ∙ g.pushed)

      popped : (k : ℕ) (post' : Post L Out) → get_elem? posts' k ≡ some post' → (i : ℕ) (entry : Entry) → get_elem? post'.queue.popped i ≡ some entry → (j : ℕ) × (get_elem? pass'.popped j ≡ some entry)
      popped k post' at i entry here =
          let a = of_all (λ (post : Post L Out). post.queue.popped) posts' k post' i entry at here in
          let b = in_front (flat_map (λ (post : Post L Out). post.queue.popped) posts') gives.0 a.0 entry a.1 in
          (b.0, ap (λ l. get_elem? l b.0) (ap (λ p. p.popped) gives.1 ∙ ap (λ l. l ++ gives.0) g.popped) ∙ b.1)

  -- nobody had trouble
  calm : Each (λ r. r.trouble ≡ None) reports → Each (λ post. post.report.trouble ≡ None) posts'
  calm none k post' at = none k post'.report (ap (λ l. get_elem? l k) g.each ∙ map_at (λ (post : Post L Out). post.report) posts' k post' at)

  -- the first lane can work on
  pub first_fits : Each (λ r. r.trouble ≡ None) reports → FirstFits c.job lanes' reports
  first_fits none lane report e r =
      let b = ran.posts_len in let d = ran.posts_len' in
      let p = at_map (λ (post : Post L Out). post.report) posts' 0 report (ap (λ l. get_elem? l 0) (sym g.each) ∙ r) in
      let old = there lanes 0 (omega arith) in let post = there posts 0 (omega arith) in
      let w = well_of (Leaving c 0 old.0 post.0 lane p.0) p.0.report.trouble (calm none 0 p.0 p.1) (ran.each 0 old.0 lane post.0 p.0 old.1 e post.1 p.1) in
      subst (λ x. c.job.fits 0 x.out (objects_of lane)) p.2 w.0.fits

  module _ (none : Each (λ r. r.trouble ≡ None) reports) (lanes'' : List (Lane R S)) (reports'' : List (Report Out)) (pass' : PassFacts) where
    -- what is left is worked, all of it
    pub worked_on : (starts : List (Report Out)) → length starts ≡ length lanes → Paired (IsDealt c.desk c.queue) starts posts → c.desk.limit ≡ length c.blocks
        → WorksOnFirst c.job c.spill pass lanes' reports pass' lanes'' reports'' (Ok tt) → HaveWorked c.job c.source c.spill c.blocks lanes lanes'' starts reports'' seat pass'
    worked_on starts same dealt limit w = by_first posts' ran g (calm none)
      where
        by_first : (ps : List (Post L Out)) → HaveRun c lanes lanes' posts ps → AreGathered c.desk c.queue ps seat pass reports → Each (λ post. post.report.trouble ≡ None) ps → HaveWorked c.job c.source c.spill c.blocks lanes lanes'' starts reports'' seat pass'
        by_first [] ran g none = absurd (let d = ran.posts_len' in omega arith)
        by_first (p ∷ ps) ran g none =
            let both : w.report ∷ w.others ≡ p.report ∷ map (λ (post : Post L Out). post.report) ps = sym w.were.1 ∙ g.each in
            let first : w.report ≡ p.report = some-injective w.report p.report (ap (λ l. get_elem? l 0) both) in
            let rest : w.others ≡ map (λ (post : Post L Out). post.report) ps = ap (λ l. drop 1 l) both in
            let left = w.does.2 in
            subst (λ (t : _ × _). HaveWorked c.job c.source c.spill c.blocks lanes t.0 starts t.1 seat pass') (λ i. (sym w.are.0 i, (ap (λ l. w.report' ∷ l) (sym rest) ∙ sym w.are.1) i))
            (
            all_worked c laws lanes posts starts w.lane w.lane' w.rest p ps w.report' w.does.0 (subst (λ l. HaveRun c lanes l posts (p ∷ ps)) w.were.0 ran) none same dealt
            (subst (λ r. WorksLeft c.job c.spill 0 w.does.0 w.lane r w.lane' w.report' (Ok tt)) first left)
            seat
            pass
            pass'
            limit
            (subst (λ l. AreGathered c.desk c.queue (p ∷ ps) seat pass l) g.each g)
            w.does.1
            w.does.3
            )

    module _ (t : Trouble) (w : WorksOnFirst c.job c.spill pass lanes' reports pass' lanes'' reports'' (Err t)) where
      pub worked_not : (pass'' : PassFacts) → GivesLeft pass' pass'' → PassCause c.job c.source c.spill c.blocks lanes lanes'' t × LanesStay c.job c.source c.spill c.blocks lanes lanes''
      worked_not pass'' gives = by_first posts' ran g (calm none)
        where
          by_first : (ps : List (Post L Out)) → HaveRun c lanes lanes' posts ps → AreGathered c.desk c.queue ps seat pass reports → Each (λ post. post.report.trouble ≡ None) ps
              → PassCause c.job c.source c.spill c.blocks lanes lanes'' t × LanesStay c.job c.source c.spill c.blocks lanes lanes''
          by_first [] ran g none = absurd (let d = ran.posts_len' in omega arith)
          by_first (p ∷ ps) ran g none =
              let both : w.report ∷ w.others ≡ p.report ∷ map (λ (post : Post L Out). post.report) ps = sym w.were.1 ∙ g.each in
              let first : w.report ≡ p.report = some-injective w.report p.report (ap (λ l. get_elem? l 0) both) in
              let run = subst (λ l. HaveRun c lanes l posts (p ∷ ps)) w.were.0 ran in
              let left = subst (λ r. WorksLeft c.job c.spill 0 w.does.0 w.lane r w.lane' w.report' (Err t)) first w.does.2 in (
                subst (λ l. PassCause c.job c.source c.spill c.blocks lanes l t) (sym w.are.0) (left_cause c laws lanes posts w.lane w.lane' w.rest p ps w.report' w.does.0 run none t left pass pass' pass'' g.pushed w.does.1 gives),
                subst (λ l. LanesStay c.job c.source c.spill c.blocks lanes l) (sym w.are.0) (left_stay c laws lanes posts w.lane w.lane' w.rest p ps w.report' w.does.0 run none t left),
              )
