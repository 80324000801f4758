use Rattle.std.proofs.Common.{◌∙◌, ◌++◌, ◌∷◌, [], ap, sym, subst, refl}
use Rattle.tb_types.specs.Bags.{IsSameBag}
use Rattle.work_topology.proofs.Left.{pops_none, pops_more}
use Rattle.work_topology.proofs.drain.give_left.Goals as goal

pub loop-init : goal.loop-init
loop-init g c = ([], refl, pops_none c.args.pass.now)

pub loop-preserved : goal.loop-preserved
loop-preserved g c =
    let i = c.loop.invariant in
    (i.0 ++ c.in-Some-drain.batch.entry ∷ [], c.drain.ensures.queue ∙ i.1, pops_more c.args.pass.now c.loop.pass c.drain.new.pass i.0 c.in-Some-drain.batch.entry i.2 c.in-Some-drain.ensures.some)

pub returns-in-None-drain : goal.returns-in-None-drain
returns-in-None-drain g c =
    let i = c.loop.invariant in
    let w = c.requires.whole in
    (i.0, c.end.ensures ∙ c.in-None-drain.ensures.none ∙ i.2, subst (λ p. IsSameBag p.pushed p.popped) (sym c.end.ensures) (c.in-None-drain.ensures.settled (ap (λ p. p.first) i.2 ∙ w.0, ap (λ p. p.out) i.2 ∙ w.1)))
