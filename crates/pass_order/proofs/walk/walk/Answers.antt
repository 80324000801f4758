-- Each step meets its unit's body where it needs one, and at the end all was done.
use Rattle.std.proofs.Common.{subst, ◌∙◌, refl}
use Rattle.std.proofs.lemmas.List.{take_all}
use Rattle.pass_order.proofs.Walking.{Walking, start, there, is-ready, are-loaded, failed, next, finish}
use Rattle.pass_order.proofs.walk.walk.Goals as goal

pub loop-step-init : goal.loop-step-init
loop-step-init g c = start g.S.Steps.meaning c.args.units c.as_mut_slice-places.result.now c.args.steps.now (c.as_mut_slice-places.ensures.value ∙ c.in-Ok.ensures) c.requires.ready

pub take_step-requires-clause-there : goal.take_step-requires-clause-there
take_step-requires-clause-there g c =
    there g.S.Steps.meaning c.args.units c.args.planned.now c.requires.whole c.loop-step.step-index c.loop-step-test.true c.loop-step.places c.args.steps.now c.loop-step.steps c.loop-step.invariant _ refl

pub take_step-requires-clause-loaded : goal.take_step-requires-clause-loaded
take_step-requires-clause-loaded g c =
    are-loaded g.S.Steps.meaning c.args.units c.args.planned.now c.requires.whole c.loop-step.step-index c.loop-step-test.true c.loop-step.places c.args.steps.now c.loop-step.steps c.loop-step.invariant

pub take_step-requires-clause-ready : goal.take_step-requires-clause-ready
take_step-requires-clause-ready g c =
    is-ready g.S.Steps.meaning c.args.units c.args.planned.now c.requires.whole c.loop-step.step-index c.loop-step-test.true c.loop-step.places c.args.steps.now c.loop-step.steps c.loop-step.invariant _ refl

pub returns-in-Err-take_step : goal.returns-in-Err-take_step
returns-in-Err-take_step g c =
    failed g.S.Steps.meaning c.args.units c.args.planned.now c.requires.whole c.loop-step.step-index c.loop-step-test.true c.loop-step.places c.args.steps.now c.loop-step.steps c.loop-step.invariant _ c.take_step.new.held c.in-Err-take_step.fault c.take_step.new.steps refl c.in-Err-take_step.ensures.takes

pub loop-step-preserved : goal.loop-step-preserved
loop-step-preserved g c =
    next g.S.Steps.meaning c.args.units c.args.planned.now c.requires.whole c.loop-step.step-index c.loop-step-test.true c.loop-step.places c.args.steps.now c.loop-step.steps c.loop-step.invariant _ c.take_step.new.held c.take_step.new.steps refl c.in-Ok-take_step.ensures.takes c.in-Ok-take_step.ensures.stays

pub returns : goal.returns
returns g c =
    let all = take_all c.loop-step.step-index c.args.planned.now c.loop-step-test.false in
    finish g.S.Steps.meaning c.args.units c.args.planned.now c.requires.whole c.loop-step.places c.args.steps.now c.loop-step.steps
    (subst (λ l. Walking g.S.Steps.meaning c.args.units l c.loop-step.places c.args.steps.now c.loop-step.steps) all c.loop-step.invariant)
