use Rattle.std.proofs.Common.{sym, subst, arith}
use Rattle.osm_elements.specs.Reasons.{IsStop}
use Rattle.osm_elements.specs.Walks.{bodies_at}
use Rattle.osm_elements.proofs.Prefixes.{stopped}
use Rattle.osm_elements.proofs.Walks.{body_skipped, body_found, no_body, no_field_there, no_field_left, next_err}
use Rattle.osm_elements.proofs.walk.next_body.Goals as goal

pub returns-in_err-field-clause-exact : goal.returns-in_err-field-clause-exact
returns-in_err-field-clause-exact c =
    let bytes = c.args.bytes.now in
    next_err c.args.number bytes c.args.from c.from_residual.result c.in_err-field.field-0.0 c.from_residual.ensures.1
    (subst (λ e. IsStop e (bodies_at c.args.number bytes c.args.from)) (sym c.in_err-field.ensures.exact.0)
    (no_field_there c.args.number bytes c.loop-field.at c.in_err-field.ensures.exact.1 _ c.loop-field.invariant.within c.in_err-field.ensures.exact.2 c.loop-field.invariant.told))

pub returns-in_err-body-clause-exact : goal.returns-in_err-body-clause-exact
returns-in_err-body-clause-exact c =
    let read = rw c.in-Some.is at c.in_ok-field.ensures.exact in
    next_err c.args.number c.args.bytes.now c.args.from c.from_residual-in_err-body.result c.in_err-body.field-0.0 c.from_residual-in_err-body.ensures.1
    (stopped c.in_err-body.field-0.0 _ _ (c.in_err-body.ensures {u = tt})
    (λ why stop. no_body c.args.number c.args.bytes.now c.loop-field.at c.in-Some.field _ why c.loop-field.invariant.within read c.if-field-number.true stop c.loop-field.invariant.told))

pub returns-then-field-number-clause-exact : goal.returns-then-field-number-clause-exact
returns-then-field-number-clause-exact c =
    let read = rw c.in-Some.is at c.in_ok-field.ensures.exact in
    body_found c.args.number c.args.bytes.now c.loop-field.at c.in-Some.field c.in_ok-body.body.now _ c.loop-field.invariant.within read c.if-field-number.true (c.in_ok-body.ensures {u = tt}) c.loop-field.invariant.told

pub loop-field-preserved : goal.loop-field-preserved
loop-field-preserved c =
    let read = rw c.in-Some.is at c.in_ok-field.ensures.exact in
    let place = rw c.in-Some.is at c.in_ok-field.ensures.within in
    record {
      begun = omega (arith, place.0, c.loop-field.invariant.begun);
      within = place.1;
      told = body_skipped c.args.number c.args.bytes.now c.loop-field.at c.in-Some.field _ c.loop-field.invariant.within read c.if-field-number.false c.loop-field.invariant.told;
    }

pub returns-clause-exact : goal.returns-clause-exact
returns-clause-exact c = no_field_left c.args.number c.args.bytes.now c.loop-field.at _ c.loop-field.invariant.within (rw c.in_default.is at c.in_ok-field.ensures.exact) c.loop-field.invariant.told
