use Rattle.std.proofs.Common.{◌-◌, arith, map}
use Rattle.osm_elements.proofs.RunSteps.{runs_step, runs_stop}
use Rattle.osm_elements.proofs.Prefixes.{handed_on}
use Rattle.osm_elements.specs.Words.{seen_words}
use Rattle.osm_elements.proofs.runs.check_pairs.Goals as goal

pub returns-in_err-rest : goal.returns-in_err-rest
returns-in_err-rest c =
    handed_on _ c.from_residual.result c.in_err-rest.field-0.0 _ _ c.from_residual.ensures.1 (c.in_err-rest.ensures {u = tt})
    (λ why stop. runs_stop (seen_words c.args.strings.now) c.loop-left.left c.loop-left.rest.now _ why (omega (arith, c.loop-left-test.true)) stop c.loop-left.invariant)

pub loop-left-preserved : goal.loop-left-preserved
loop-left-preserved c =
    runs_step (seen_words c.args.strings.now) c.loop-left.left (c.loop-left.left - 1) c.loop-left.rest.now c.in_ok-rest.rest.now _ (omega (arith, c.loop-left-test.true)) (c.in_ok-rest.ensures {u = tt}) c.loop-left.invariant
