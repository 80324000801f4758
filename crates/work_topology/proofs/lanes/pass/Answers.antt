use Rattle.std.proofs.Common.{rules, arith, ◌≡◌, ◌∙◌, true, None, length, sym, subst}
use Rattle.std.specs.Prelude.{min}
use Rattle.tb_types.specs.Bags.{IsEachOnce, IsSameBag, below}
use Rattle.claim_desk.specs.Facts.{has_ended}
use Rattle.work_topology.specs.Lists.{Each}
use Rattle.work_topology.specs.Sums.{AreEnds}
use Rattle.work_topology.specs.Told.{IsFirstTold}
use Rattle.work_topology.proofs.Ready.{may_work, new_seat}
use Rattle.work_topology.proofs.Leaves.{unmoved, no_memory}
use Rattle.work_topology.proofs.Closing.{end_ready, end_stay, end_cause, ends_uncounted}
use Rattle.work_topology.proofs.Ended.{pass_ends}
use Rattle.work_topology.proofs.lanes.pass.Goals as goal

pub returns-in-Err-clause-cause : goal.returns-in-Err-clause-cause
returns-in-Err-clause-cause g c =
    no_memory (g.J.PassJob.meaning c.args.job.now) ((g.met.J.PassJob g.world.𝓛 g.world.𝓜 g.world.𝓡 ((λ s x. x), (λ x. x), (λ x. x), λ x. x)).goes_on c.args.job.now) g.R.Source.seen g.S.Spill.seen c.args.blocks.now c.args.lanes.now

pub returns-in-Err-clause-lanes : goal.returns-in-Err-clause-lanes
returns-in-Err-clause-lanes g c =
    unmoved (g.J.PassJob.meaning c.args.job.now) ((g.met.J.PassJob g.world.𝓛 g.world.𝓜 g.world.𝓡 ((λ s x. x), (λ x. x), (λ x. x), λ x. x)).goes_on c.args.job.now) g.R.Source.seen g.S.Spill.seen c.args.blocks.now c.args.lanes.now

pub returns-in-Err-with_room-clause-cause : goal.returns-in-Err-with_room-clause-cause
returns-in-Err-with_room-clause-cause g c =
    no_memory (g.J.PassJob.meaning c.args.job.now) ((g.met.J.PassJob g.world.𝓛 g.world.𝓜 g.world.𝓡 ((λ s x. x), (λ x. x), (λ x. x), λ x. x)).goes_on c.args.job.now) g.R.Source.seen g.S.Spill.seen c.args.blocks.now c.args.lanes.now

pub returns-in-Err-with_room-clause-lanes : goal.returns-in-Err-with_room-clause-lanes
returns-in-Err-with_room-clause-lanes g c =
    unmoved (g.J.PassJob.meaning c.args.job.now) ((g.met.J.PassJob g.world.𝓛 g.world.𝓜 g.world.𝓡 ((λ s x. x), (λ x. x), (λ x. x), λ x. x)).goes_on c.args.job.now) g.R.Source.seen g.S.Spill.seen c.args.blocks.now c.args.lanes.now

pub returns-in-Err-new-clause-cause : goal.returns-in-Err-new-clause-cause
returns-in-Err-new-clause-cause g c =
    no_memory (g.J.PassJob.meaning c.args.job.now) ((g.met.J.PassJob g.world.𝓛 g.world.𝓜 g.world.𝓡 ((λ s x. x), (λ x. x), (λ x. x), λ x. x)).goes_on c.args.job.now) g.R.Source.seen g.S.Spill.seen c.args.blocks.now c.args.lanes.now

pub returns-in-Err-new-clause-lanes : goal.returns-in-Err-new-clause-lanes
returns-in-Err-new-clause-lanes g c =
    unmoved (g.J.PassJob.meaning c.args.job.now) ((g.met.J.PassJob g.world.𝓛 g.world.𝓜 g.world.𝓡 ((λ s x. x), (λ x. x), (λ x. x), λ x. x)).goes_on c.args.job.now) g.R.Source.seen g.S.Spill.seen c.args.blocks.now c.args.lanes.now

pub started-requires : goal.started-requires
started-requires g c =
    record { few = (let a = c.requires.seeded in let b = c.requires.few_lanes in let seeds : length c.args.seeds.items ≡ c.args.seeds.len = search rules in omega arith) }

pub work_all-requires-clause-may : goal.work_all-requires-clause-may
work_all-requires-clause-may g c κs within =
    may_work (g.J.PassJob.meaning c.args.job.now) g.R.Source.seen c.args.blocks.now c.args.lanes.now c.args.seeds.items c.args.queue g.L.Purse.budget c.in-Ok-new.made.0 c.in-Ok.starts.items c.requires c.in-Ok.ensures c.in-Ok-new.ensures.desk

pub work_all-requires-clause-seat : goal.work_all-requires-clause-seat
work_all-requires-clause-seat g c κs within =
    new_seat c.in-Ok-new.made.0 _ c.in-Ok-new.made.1 c.in-Ok-new.ensures.desk c.in-Ok-new.ensures.seat

pub end_lanes-requires-after_bounds : goal.end_lanes-requires-after_bounds
end_lanes-requires-after_bounds g c κs within =
    end_ready (g.J.PassJob.meaning c.args.job.now) ((g.met.J.PassJob g.world.𝓛 g.world.𝓜 g.world.𝓡 ((λ s x. x), (λ x. x), (λ x. x), λ x. x)).goes_on c.args.job.now) g.R.Source.seen g.S.Spill.seen c.args.blocks.now c.args.lanes.now c.work_all.new.lanes c.in-Ok.starts.items c.in-Ok-work_all.gathered.reports.items (c.in-Ok.ensures.same ∙ c.requires.seeded) c.in-Ok-work_all.gathered.seat c.in-Ok-work_all.gathered.pass c.in-Ok-work_all.ensures.worked c.requires.some_lane c.requires.few_lanes

pub returns-in-Some-clause-cause : goal.returns-in-Some-clause-cause
returns-in-Some-clause-cause g c =
    end_cause (g.J.PassJob.meaning c.args.job.now) ((g.met.J.PassJob g.world.𝓛 g.world.𝓜 g.world.𝓡 ((λ s x. x), (λ x. x), (λ x. x), λ x. x)).goes_on c.args.job.now) g.R.Source.seen g.S.Spill.seen c.args.blocks.now c.args.lanes.now c.work_all.new.lanes c.in-Ok.starts.items c.in-Ok-work_all.gathered.reports.items (c.in-Ok.ensures.same ∙ c.requires.seeded) c.in-Ok-work_all.gathered.seat c.in-Ok-work_all.gathered.pass c.in-Ok-work_all.ensures.worked c.end_lanes.new.lanes c.end_lanes.new.reports.items c.end_lanes.ensures c.in-Some.trouble (subst (λ l. IsFirstTold l c.in-Some.trouble) c.as_slice.ensures.value c.in-Some.ensures)

pub returns-in-Some-clause-lanes : goal.returns-in-Some-clause-lanes
returns-in-Some-clause-lanes g c =
    end_stay (g.J.PassJob.meaning c.args.job.now) ((g.met.J.PassJob g.world.𝓛 g.world.𝓜 g.world.𝓡 ((λ s x. x), (λ x. x), (λ x. x), λ x. x)).goes_on c.args.job.now) g.R.Source.seen g.S.Spill.seen c.args.blocks.now c.args.lanes.now c.work_all.new.lanes c.in-Ok.starts.items c.in-Ok-work_all.gathered.reports.items (c.in-Ok.ensures.same ∙ c.requires.seeded) c.in-Ok-work_all.gathered.seat c.in-Ok-work_all.gathered.pass c.in-Ok-work_all.ensures.worked c.end_lanes.new.lanes c.end_lanes.new.reports.items c.end_lanes.ensures

pub ends_of-requires-clause-empty : goal.ends_of-requires-clause-empty
ends_of-requires-clause-empty g c =
    c.in-Ok-with_room.ensures c.args.blocks.now

pub returns-in-Err-ends_of-clause-cause : goal.returns-in-Err-ends_of-clause-cause
returns-in-Err-ends_of-clause-cause g c =
    ends_uncounted (g.J.PassJob.meaning c.args.job.now) ((g.met.J.PassJob g.world.𝓛 g.world.𝓜 g.world.𝓡 ((λ s x. x), (λ x. x), (λ x. x), λ x. x)).goes_on c.args.job.now) g.R.Source.seen g.S.Spill.seen c.args.blocks.now c.args.lanes.now c.work_all.new.lanes c.in-Ok.starts.items c.in-Ok-work_all.gathered.reports.items (c.in-Ok.ensures.same ∙ c.requires.seeded) c.in-Ok-work_all.gathered.seat c.in-Ok-work_all.gathered.pass c.in-Ok-work_all.ensures.worked c.end_lanes.new.lanes c.end_lanes.new.reports.items c.end_lanes.ensures (subst (λ l. Each (λ r. r.trouble ≡ None) l) c.as_slice.ensures.value c.in-None.ensures)

pub returns-in-Err-ends_of-clause-lanes : goal.returns-in-Err-ends_of-clause-lanes
returns-in-Err-ends_of-clause-lanes g c =
    end_stay (g.J.PassJob.meaning c.args.job.now) ((g.met.J.PassJob g.world.𝓛 g.world.𝓜 g.world.𝓡 ((λ s x. x), (λ x. x), (λ x. x), λ x. x)).goes_on c.args.job.now) g.R.Source.seen g.S.Spill.seen c.args.blocks.now c.args.lanes.now c.work_all.new.lanes c.in-Ok.starts.items c.in-Ok-work_all.gathered.reports.items (c.in-Ok.ensures.same ∙ c.requires.seeded) c.in-Ok-work_all.gathered.seat c.in-Ok-work_all.gathered.pass c.in-Ok-work_all.ensures.worked c.end_lanes.new.lanes c.end_lanes.new.reports.items c.end_lanes.ensures

pub returns-in-Ok-ends_of-clause-lanes : goal.returns-in-Ok-ends_of-clause-lanes
returns-in-Ok-ends_of-clause-lanes g c =
    end_stay (g.J.PassJob.meaning c.args.job.now) ((g.met.J.PassJob g.world.𝓛 g.world.𝓜 g.world.𝓡 ((λ s x. x), (λ x. x), (λ x. x), λ x. x)).goes_on c.args.job.now) g.R.Source.seen g.S.Spill.seen c.args.blocks.now c.args.lanes.now c.work_all.new.lanes c.in-Ok.starts.items c.in-Ok-work_all.gathered.reports.items (c.in-Ok.ensures.same ∙ c.requires.seeded) c.in-Ok-work_all.gathered.seat c.in-Ok-work_all.gathered.pass c.in-Ok-work_all.ensures.worked c.end_lanes.new.lanes c.end_lanes.new.reports.items c.end_lanes.ensures

pub returns-in-Ok-ends_of-clause-settled : goal.returns-in-Ok-ends_of-clause-settled
returns-in-Ok-ends_of-clause-settled g c =
    let h = c.in-Ok-work_all.ensures.worked in
    let limit : c.in-Ok-new.made.0.limit ≡ length c.args.blocks.now = c.in-Ok-new.ensures.desk in
    let seen = subst (λ n. has_ended n c.in-Ok-work_all.gathered.seat.seen ≡ true) (sym limit) h.ended in
    let far = c.close.ensures.ended seen in
    let once = subst (λ n. IsEachOnce n c.in-Ok-work_all.gathered.seat.drawn) limit (c.close.ensures.whole h.seats far) in
    let all : min c.close.result c.in-Ok-new.made.0.limit ≡ length c.args.blocks.now = omega arith in
    let drawn = subst (λ n. IsSameBag c.in-Ok-work_all.gathered.seat.drawn (below n)) all (c.close.ensures.drawn h.seats) in
    pass_ends (g.J.PassJob.meaning c.args.job.now) g.R.Source.seen g.S.Spill.seen c.args.blocks.now c.requires.ascend c.args.lanes.now c.work_all.new.lanes c.end_lanes.new.lanes c.args.seeds.items c.in-Ok.starts.items c.in-Ok-work_all.gathered.reports.items c.end_lanes.new.reports.items _ _ c.in-Ok-ends_of.ends h c.in-Ok.ensures c.requires.seeded c.end_lanes.ensures (subst (λ l. Each (λ r. r.trouble ≡ None) l) c.as_slice.ensures.value c.in-None.ensures) (subst (λ s. AreEnds c.args.blocks.now c.end_lanes.new.reports.items s c.in-Ok-work_all.gathered.pass c.in-Ok-ends_of.ends) c.close.ensures.seat c.in-Ok-ends_of.ensures) once drawn
