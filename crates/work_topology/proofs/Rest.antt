-- From the lanes' runs to all blocks worked, or to a trouble that is told.
use Rattle.std.proofs.Common.{ℕ, ◌<◌, List, length, ⊎_elim, ap, ◌∙◌, sym, subst, arith, Ok, Err}
use Rattle.std.proofs.lemmas.List.{length-map}
use Rattle.tb_types.specs.declared.trouble.Trouble.{Trouble}
use Rattle.tb_outside.specs.declared.lane.Lane.{Lane}
use Rattle.batch_queue.specs.Facts.{PassFacts}
use Rattle.work_topology.specs.declared.post.Report.{Report}
use Rattle.work_topology.specs.declared.post.Post.{Post}
use Rattle.work_topology.specs.declared.post.Gathered.{Gathered}
use Rattle.work_topology.specs.Job.{GoesOn}
use Rattle.work_topology.specs.Lane.{Scene}
use Rattle.work_topology.specs.Ends.{PassCause, LanesStay}
use Rattle.work_topology.specs.Parts.{MayWork, HaveRunOut, HaveWorked, FirstFits, NoneTold, WorksRest, GivesLeft}
use Rattle.work_topology.proofs.Runs.{HaveRun, ran_all}
use Rattle.work_topology.proofs.Whole.{all_stay}
use Rattle.work_topology.proofs.Closing.{worked_stay}
use Rattle.work_topology.proofs.All.{first_cause, first_fits, worked_on, worked_not}

module _ {L Seed Out R S : Type 0} (c : Scene Seed Out R S) (laws : GoesOn c.job) (lanes : List (Lane R S)) (starts : List (Report Out)) (queue : ℕ) (may : MayWork c.job c.source c.blocks lanes c.desk starts queue)
    (lanes' : List (Lane R S)) (g : Gathered L Out) (h : HaveRunOut c lanes starts lanes' g) where
  ran : HaveRun c lanes lanes' h.posts h.posts'
  ran = ran_all c laws lanes starts h.posts queue may h.dealt lanes' h.posts' h.ran

  -- there is a first lane, and a report of it
  pub some_left : (0 < length lanes') × (0 < length g.reports.items)
  some_left =
      let r = ran in
      let a = r.lanes_len in let b = r.posts_len' in let filled = may.some_lane in
      let len = ap length h.gathered.each ∙ length-map h.posts' (λ (post : Post L Out). post.report) in (omega arith, omega arith)

  pub rest_fits : NoneTold g.reports.items → FirstFits c.job lanes' g.reports.items
  rest_fits none = first_fits c laws lanes lanes' h.posts h.posts' ran may.some_lane g.reports.items g.seat g.pass h.gathered none

  module _ (pass' : PassFacts) (lanes'' : List (Lane R S)) (reports'' : List (Report Out)) where
    -- a lane's trouble, or that of the rest's work, is told
    pub rest_refused : (t : Trouble) (pass'' : PassFacts) → WorksRest c.job c.spill g.pass lanes' g.reports.items pass' lanes'' reports'' (Err t) → GivesLeft pass' pass''
        → PassCause c.job c.source c.spill c.blocks lanes lanes'' t × LanesStay c.job c.source c.spill c.blocks lanes lanes''
    rest_refused t pass'' rest gives =
        ⊎_elim
        (λ w. worked_not c laws lanes lanes' h.posts h.posts' ran may.some_lane g.reports.items g.seat g.pass h.gathered w.0 lanes'' reports'' pass' t w.1 pass'' gives)
        (
        λ r.
        let cause = first_cause c laws lanes lanes' h.posts h.posts' ran may.some_lane g.reports.items g.seat g.pass h.gathered t pass'' r.first (subst (λ p. GivesLeft p pass'') r.same_pass gives) in
        (subst (λ l. PassCause c.job c.source c.spill c.blocks lanes l t) (sym r.same_lanes) cause, subst (λ l. LanesStay c.job c.source c.spill c.blocks lanes l) (sym r.same_lanes) (all_stay c lanes lanes' h.posts h.posts' ran))
        )
        rest

    -- all blocks are worked
    pub rest_worked : WorksRest c.job c.spill g.pass lanes' g.reports.items pass' lanes'' reports'' (Ok tt) → HaveWorked c.job c.source c.spill c.blocks lanes lanes'' starts reports'' g.seat pass'
    rest_worked rest =
        ⊎_elim
        (λ w. worked_on c laws lanes lanes' h.posts h.posts' ran may.some_lane g.reports.items g.seat g.pass h.gathered w.0 lanes'' reports'' pass' starts may.same h.dealt.each may.limit w.1)
        (λ r. absurd r.err)
        rest

    pub rest_stays : WorksRest c.job c.spill g.pass lanes' g.reports.items pass' lanes'' reports'' (Ok tt) → LanesStay c.job c.source c.spill c.blocks lanes lanes''
    rest_stays rest = worked_stay c.job laws c.source c.spill c.blocks lanes lanes'' starts reports'' may.same g.seat pass' (rest_worked rest)
