use Rattle.std.proofs.Common.{rules, arith, ◌≡◌, length, drop, subst, sym}
use Rattle.work_topology.specs.Spread.{AllReady, AllRun}
use Rattle.work_topology.specs.Objects.{objects_of}
use Rattle.work_topology.specs.Lane.{EndsPart}
use Rattle.work_topology.proofs.Pairs.{take_exact}
use Rattle.work_topology.proofs.sides.end_lanes.Goals as goal

pub spread-requires-after_bounds : goal.spread-requires-after_bounds
spread-requires-after_bounds g c κs within = subst (λ l. AllReady (λ number lane report. (g.J.PassJob.meaning c.args.job.now).fits number report.out (objects_of lane)) 0 c.args.lanes.now l) (sym c.as_mut_slice.ensures.value) c.requires

pub returns : goal.returns
returns g c =
    let lent : length c.as_mut_slice.result.now ≡ c.args.reports.now.len = search rules in
    let kept = c.spread.ensures.places_len in
    let whole : length c.spread.new.places ≡ c.args.reports.now.len = omega arith in
    subst (λ l. AllRun (λ number lane report lane' report'. EndsPart (g.J.PassJob.meaning c.args.job.now) g.S.Spill.seen number lane report lane' report') 0 c.args.lanes.now c.args.reports.now.items c.spread.new.items l) (sym (take_exact c.spread.new.places (drop (length c.spread.new.places) c.args.reports.now.items) c.args.reports.now.len whole))
    (subst (λ l. AllRun (λ number lane report lane' report'. EndsPart (g.J.PassJob.meaning c.args.job.now) g.S.Spill.seen number lane report lane' report') 0 c.args.lanes.now l c.spread.new.items c.spread.new.places) c.as_mut_slice.ensures.value c.spread.ensures)
