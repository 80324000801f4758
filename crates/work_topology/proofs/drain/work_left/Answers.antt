use Rattle.std.proofs.Common.{rules, ◌≡◌, ◌<◌, length, drop, sym, subst}
use Rattle.std.specs.Prelude.{slice_set}
use Rattle.work_topology.specs.Parts.{FirstFits, WorksOnFirst}
use Rattle.work_topology.proofs.Pairs.{take_exact}
use Rattle.work_topology.proofs.First.{fits_first, works_first}
use Rattle.work_topology.proofs.drain.work_left.Goals as goal

pub work_on-requires-clause-fits : goal.work_on-requires-clause-fits
work_on-requires-clause-fits g c =
    let fits = subst (λ l. FirstFits (g.J.PassJob.meaning c.args.job.now) c.args.lanes.now l) (sym c.as_mut_slice-reports.ensures.value) c.requires.fits in
    let filled : 0 < length c.as_mut_slice-reports.result.now = subst (λ l. 0 < length l) (sym c.as_mut_slice-reports.ensures.value) c.requires.some.1 in
    fits_first (g.J.PassJob.meaning c.args.job.now) c.args.lanes.now c.as_mut_slice-reports.result.now _ _ fits c.requires.some.0 filled

pub returns-clause-left : goal.returns-clause-left
returns-clause-left g c =
    let filled : 0 < length c.as_mut_slice-reports.result.now = subst (λ l. 0 < length l) (sym c.as_mut_slice-reports.ensures.value) c.requires.some.1 in
    let whole : length (slice_set c.as_mut_slice-reports.result.now 0 c.work_on.new.report) ≡ c.args.reports.now.len = search rules in
    let first = works_first (g.J.PassJob.meaning c.args.job.now) g.S.Spill.seen c.args.pass.now c.work_on.new.pass c.args.lanes.now c.as_mut_slice-reports.result.now _ c.work_on.new.lane _ c.work_on.new.report c.work_on.result c.requires.some.0 filled c.work_on.ensures.left in
    subst (λ l. WorksOnFirst (g.J.PassJob.meaning c.args.job.now) g.S.Spill.seen c.args.pass.now c.args.lanes.now c.args.reports.now.items c.work_on.new.pass (slice_set c.args.lanes.now 0 c.work_on.new.lane) l c.work_on.result)
    (sym (take_exact (slice_set c.as_mut_slice-reports.result.now 0 c.work_on.new.report) (drop (length (slice_set c.as_mut_slice-reports.result.now 0 c.work_on.new.report)) c.args.reports.now.items) c.args.reports.now.len whole))
    (subst (λ l. WorksOnFirst (g.J.PassJob.meaning c.args.job.now) g.S.Spill.seen c.args.pass.now c.args.lanes.now l c.work_on.new.pass (slice_set c.args.lanes.now 0 c.work_on.new.lane) (slice_set c.as_mut_slice-reports.result.now 0 c.work_on.new.report) c.work_on.result) c.as_mut_slice-reports.ensures.value first)
