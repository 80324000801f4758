use Rattle.std.proofs.Common.{◌∙◌, ◌++◌, ◌∷◌, [], ap, refl}
use Rattle.work_topology.proofs.Left.{pops_none, pops_more, works_none, works_more, works_not}
use Rattle.work_topology.proofs.drain.work_on.Goals as goal

pub loop-init : goal.loop-init
loop-init g c = ([], refl, pops_none c.args.pass.now, works_none _ (g.met.J.PassJob.goes_on c.args.job.now) _ 0 c.args.lane.now c.args.report.now c.requires.fits)

pub work-requires : goal.work-requires
work-requires g c = record { fits = c.loop.invariant.3.worked.1 }

pub loop-preserved : goal.loop-preserved
loop-preserved g c =
    let i = c.loop.invariant in (
      i.0 ++ c.in-Some-drain.batch.entry ∷ [],
      c.drain.ensures.queue ∙ i.1,
      pops_more c.args.pass.now c.loop.pass c.drain.new.pass i.0 c.in-Some-drain.batch.entry i.2 c.in-Some-drain.ensures.some,
      works_more _ (g.met.J.PassJob.goes_on c.args.job.now) _ 0 c.args.lane.now c.args.report.now i.0 c.in-Some-drain.batch c.loop.lane c.loop.report c.work.new.lane c.work.new.report i.3 c.in-Ok.ensures,
    )

pub returns-in-Err-clause-left : goal.returns-in-Err-clause-left
returns-in-Err-clause-left g c =
    let i = c.loop.invariant in (
      i.0 ++ c.in-Some-drain.batch.entry ∷ [],
      pops_more c.args.pass.now c.loop.pass c.drain.new.pass i.0 c.in-Some-drain.batch.entry i.2 c.in-Some-drain.ensures.some,
      works_not _ (g.met.J.PassJob.goes_on c.args.job.now) _ 0 c.args.lane.now c.args.report.now i.0 c.in-Some-drain.batch c.loop.lane c.loop.report c.work.new.lane c.work.new.report c.in-Err.trouble i.3 c.in-Err.ensures,
      tt,
    )

pub returns-in-None-drain-clause-left : goal.returns-in-None-drain-clause-left
returns-in-None-drain-clause-left g c =
    let i = c.loop.invariant in
    let w = c.requires.whole in
    (i.0, c.in-None-drain.ensures.none ∙ i.2, i.3, c.in-None-drain.ensures.settled (ap (λ p. p.first) i.2 ∙ w.0, ap (λ p. p.out) i.2 ∙ w.1))
