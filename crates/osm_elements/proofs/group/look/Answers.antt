use Rattle.std.proofs.Common.{arith}
use Rattle.osm_elements.proofs.Looking.{look_start, look_step, look_end, look_stops}
use Rattle.osm_elements.proofs.group.look.Goals as goal

pub loop-field-init : goal.loop-field-init
loop-field-init c = record { within = omega arith; passed = look_start c.args.group.now _ }

pub returns-in_err-field : goal.returns-in_err-field
returns-in_err-field c =
    look_stops c.args.group.now c.loop-field.seen c.loop-field.at c.loop-field.invariant.passed c.loop-field.invariant.within c.from_residual.result c.in_err-field.field-0.0 c.in_err-field.ensures.exact.1 c.from_residual.ensures.1
    c.in_err-field.ensures.exact.0 c.in_err-field.ensures.exact.2

pub loop-field-preserved : goal.loop-field-preserved
loop-field-preserved c = record {
  within = (rw c.in-Some.is at c.in_ok-field.ensures.within).1;
  passed = look_step c.args.group.now c.loop-field.seen c.loop-field.at c.loop-field.invariant.passed c.loop-field.invariant.within c.in-Some.field (rw c.in-Some.is at c.in_ok-field.ensures.exact) _
      c.counted.ensures c.counted-in-Some.ensures c.counted-in-Some-2.ensures c.counted-in-Some-3.ensures;
}

pub returns : goal.returns
returns c = look_end c.args.group.now c.loop-field.seen c.loop-field.at c.loop-field.invariant.passed c.loop-field.invariant.within (rw c.in_default.is at c.in_ok-field.ensures.exact)
