use Rattle.std.proofs.Common.{sym, subst}
use Rattle.work_topology.specs.Lane.{scene}
use Rattle.work_topology.specs.Parts.{MayWork, HaveWorked}
use Rattle.work_topology.proofs.Leaves.{unmoved, no_memory}
use Rattle.work_topology.proofs.Rest.{some_left, rest_fits, rest_refused, rest_worked, rest_stays}
use Rattle.work_topology.proofs.together.work_all.Goals as goal

pub returns-in-Err-clause-cause : goal.returns-in-Err-clause-cause
returns-in-Err-clause-cause g c =
    no_memory (g.J.PassJob.meaning c.args.job.now) ((g.met.J.PassJob g.world.𝓛 g.world.𝓜 g.world.𝓡 ((λ s x. x), (λ x. x), (λ x. x), λ x. x)).goes_on c.args.job.now) g.R.Source.seen g.S.Spill.seen c.args.blocks.now c.args.lanes.now

pub returns-in-Err-clause-lanes : goal.returns-in-Err-clause-lanes
returns-in-Err-clause-lanes g c =
    unmoved (g.J.PassJob.meaning c.args.job.now) ((g.met.J.PassJob g.world.𝓛 g.world.𝓜 g.world.𝓡 ((λ s x. x), (λ x. x), (λ x. x), λ x. x)).goes_on c.args.job.now) g.R.Source.seen g.S.Spill.seen c.args.blocks.now c.args.lanes.now

pub returns-in-Err-new-clause-cause : goal.returns-in-Err-new-clause-cause
returns-in-Err-new-clause-cause g c =
    no_memory (g.J.PassJob.meaning c.args.job.now) ((g.met.J.PassJob g.world.𝓛 g.world.𝓜 g.world.𝓡 ((λ s x. x), (λ x. x), (λ x. x), λ x. x)).goes_on c.args.job.now) g.R.Source.seen g.S.Spill.seen c.args.blocks.now c.args.lanes.now

pub returns-in-Err-new-clause-lanes : goal.returns-in-Err-new-clause-lanes
returns-in-Err-new-clause-lanes g c =
    unmoved (g.J.PassJob.meaning c.args.job.now) ((g.met.J.PassJob g.world.𝓛 g.world.𝓜 g.world.𝓡 ((λ s x. x), (λ x. x), (λ x. x), λ x. x)).goes_on c.args.job.now) g.R.Source.seen g.S.Spill.seen c.args.blocks.now c.args.lanes.now

pub run_all-seat-requires-clause-may : goal.run_all-seat-requires-clause-may
run_all-seat-requires-clause-may g c κs within =
    subst (λ n. MayWork (g.J.PassJob.meaning c.args.job.now) g.R.Source.seen c.args.blocks.now c.args.lanes.now c.args.desk.now c.args.starts.items n) (sym c.in-Ok-new.ensures.queue) c.requires.may

pub work_rest-requires-clause-some : goal.work_rest-requires-clause-some
work_rest-requires-clause-some g c = some_left (scene (g.J.PassJob.meaning c.args.job.now) g.R.Source.seen g.S.Spill.seen c.args.blocks.now c.args.desk.now c.in-Ok-new.made.0) ((g.met.J.PassJob g.world.𝓛 g.world.𝓜 g.world.𝓡 ((λ s x. x), (λ x. x), (λ x. x), λ x. x)).goes_on c.args.job.now) c.args.lanes.now c.args.starts.items c.args.queue c.requires.may c.run_all-seat.new.lanes c.run_all-seat.result c.run_all-seat.ensures

pub work_rest-requires-clause-here : goal.work_rest-requires-clause-here
work_rest-requires-clause-here g c = c.run_all-seat.ensures.gathered.at_queue

pub work_rest-requires-clause-whole : goal.work_rest-requires-clause-whole
work_rest-requires-clause-whole g c = c.run_all-seat.ensures.gathered.passes

pub work_rest-requires-clause-fits : goal.work_rest-requires-clause-fits
work_rest-requires-clause-fits g c = rest_fits (scene (g.J.PassJob.meaning c.args.job.now) g.R.Source.seen g.S.Spill.seen c.args.blocks.now c.args.desk.now c.in-Ok-new.made.0) ((g.met.J.PassJob g.world.𝓛 g.world.𝓜 g.world.𝓡 ((λ s x. x), (λ x. x), (λ x. x), λ x. x)).goes_on c.args.job.now) c.args.lanes.now c.args.starts.items c.args.queue c.requires.may c.run_all-seat.new.lanes c.run_all-seat.result c.run_all-seat.ensures

pub returns-in-Err-work_rest-clause-cause : goal.returns-in-Err-work_rest-clause-cause
returns-in-Err-work_rest-clause-cause g c =
    (rest_refused (scene (g.J.PassJob.meaning c.args.job.now) g.R.Source.seen g.S.Spill.seen c.args.blocks.now c.args.desk.now c.in-Ok-new.made.0) ((g.met.J.PassJob g.world.𝓛 g.world.𝓜 g.world.𝓡 ((λ s x. x), (λ x. x), (λ x. x), λ x. x)).goes_on c.args.job.now) c.args.lanes.now c.args.starts.items c.args.queue c.requires.may c.run_all-seat.new.lanes c.run_all-seat.result c.run_all-seat.ensures c.work_rest.new.pass c.work_rest.new.lanes c.work_rest.new.reports.items c.in-Err-work_rest.trouble c.give_left.new.pass c.in-Err-work_rest.ensures.rest c.give_left.ensures).0

pub returns-in-Err-work_rest-clause-lanes : goal.returns-in-Err-work_rest-clause-lanes
returns-in-Err-work_rest-clause-lanes g c =
    (rest_refused (scene (g.J.PassJob.meaning c.args.job.now) g.R.Source.seen g.S.Spill.seen c.args.blocks.now c.args.desk.now c.in-Ok-new.made.0) ((g.met.J.PassJob g.world.𝓛 g.world.𝓜 g.world.𝓡 ((λ s x. x), (λ x. x), (λ x. x), λ x. x)).goes_on c.args.job.now) c.args.lanes.now c.args.starts.items c.args.queue c.requires.may c.run_all-seat.new.lanes c.run_all-seat.result c.run_all-seat.ensures c.work_rest.new.pass c.work_rest.new.lanes c.work_rest.new.reports.items c.in-Err-work_rest.trouble c.give_left.new.pass c.in-Err-work_rest.ensures.rest c.give_left.ensures).1

pub returns-clause-worked : goal.returns-clause-worked
returns-clause-worked g c =
    let worked = rest_worked (scene (g.J.PassJob.meaning c.args.job.now) g.R.Source.seen g.S.Spill.seen c.args.blocks.now c.args.desk.now c.in-Ok-new.made.0) ((g.met.J.PassJob g.world.𝓛 g.world.𝓜 g.world.𝓡 ((λ s x. x), (λ x. x), (λ x. x), λ x. x)).goes_on c.args.job.now) c.args.lanes.now c.args.starts.items c.args.queue c.requires.may c.run_all-seat.new.lanes c.run_all-seat.result c.run_all-seat.ensures c.work_rest.new.pass c.work_rest.new.lanes c.work_rest.new.reports.items c.in-Ok-work_rest.ensures.rest in
    subst (λ p. HaveWorked (g.J.PassJob.meaning c.args.job.now) g.R.Source.seen g.S.Spill.seen c.args.blocks.now c.args.lanes.now c.work_rest.new.lanes c.args.starts.items c.work_rest.new.reports.items c.run_all-seat.result.seat p) (sym c.end.ensures) worked

pub returns-clause-lanes : goal.returns-clause-lanes
returns-clause-lanes g c =
    rest_stays (scene (g.J.PassJob.meaning c.args.job.now) g.R.Source.seen g.S.Spill.seen c.args.blocks.now c.args.desk.now c.in-Ok-new.made.0) ((g.met.J.PassJob g.world.𝓛 g.world.𝓜 g.world.𝓡 ((λ s x. x), (λ x. x), (λ x. x), λ x. x)).goes_on c.args.job.now) c.args.lanes.now c.args.starts.items c.args.queue c.requires.may c.run_all-seat.new.lanes c.run_all-seat.result c.run_all-seat.ensures c.work_rest.new.pass c.work_rest.new.lanes c.work_rest.new.reports.items c.in-Ok-work_rest.ensures.rest

pub returns-clause-desk : goal.returns-clause-desk
returns-clause-desk g c = c.run_all-seat.ensures.gathered.at_desk
