use Rattle.std.proofs.Common.{rules, arith, ◌≡◌, length, drop, subst, sym}
use Rattle.work_topology.specs.Spread.{AllReady, AllRun}
use Rattle.work_topology.specs.Lane.{scene, IsReady, RunsOut}
use Rattle.work_topology.proofs.Pairs.{take_exact}
use Rattle.work_topology.proofs.sides.run_lanes.Goals as goal

pub spread-requires-after_bounds : goal.spread-requires-after_bounds
spread-requires-after_bounds g c κs within = subst (λ l. AllReady (λ number lane post. IsReady (scene (g.J.PassJob.meaning c.args.crew.now.job.now) g.R.Source.seen g.S.Spill.seen c.args.crew.now.blocks.now c.args.crew.now.desk.now c.args.crew.now.queue.now) number lane post) 0 c.args.lanes.now l) (sym c.as_mut_slice.ensures.value) c.requires

pub returns : goal.returns
returns g c =
    let lent : length c.as_mut_slice.result.now ≡ c.args.posts.now.len = search rules in
    let kept = c.spread.ensures.places_len in
    let whole : length c.spread.new.places ≡ c.args.posts.now.len = omega arith in
    subst (λ l. AllRun (λ number lane post lane' post'. RunsOut (scene (g.J.PassJob.meaning c.args.crew.now.job.now) g.R.Source.seen g.S.Spill.seen c.args.crew.now.blocks.now c.args.crew.now.desk.now c.args.crew.now.queue.now) number lane post lane' post') 0 c.args.lanes.now c.args.posts.now.items c.spread.new.items l) (sym (take_exact c.spread.new.places (drop (length c.spread.new.places) c.args.posts.now.items) c.args.posts.now.len whole))
    (subst (λ l. AllRun (λ number lane post lane' post'. RunsOut (scene (g.J.PassJob.meaning c.args.crew.now.job.now) g.R.Source.seen g.S.Spill.seen c.args.crew.now.blocks.now c.args.crew.now.desk.now c.args.crew.now.queue.now) number lane post lane' post') 0 c.args.lanes.now l c.spread.new.items c.spread.new.places) c.as_mut_slice.ensures.value c.spread.ensures)
