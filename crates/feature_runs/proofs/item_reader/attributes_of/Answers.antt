use Rattle.std.proofs.Common.{◌≡◌, ◌++◌, ◌∷◌, []}
use Rattle.std.proofs.lemmas.Result.{err_from_is_err_and}
use Rattle.feature_runs.specs.ItemReading.{parts_at, attribute_at}
use Rattle.feature_runs.proofs.Loops.{goes_on, ends_at}
use Rattle.feature_runs.proofs.item_reader.attributes_of.Goals as goal

pub returns-in_err-attribute : goal.returns-in_err-attribute
returns-in_err-attribute c =
    let p = err_from_is_err_and c.from_residual.result c.from_residual.ensures.1 in
    rw (p.1, p.2) (ends_at c.in_err-attribute.field-0.0 attribute_at c.loop.attributes.items c.args.count c.loop.counter c.loop.rest.now (parts_at attribute_at c.args.count c.args.bytes.now) c.loop-test.true c.in_err-attribute.ensures c.loop.invariant)

pub loop-preserved : goal.loop-preserved
loop-preserved c =
    rw c.in_ok-push.ensures.items (goes_on attribute_at c.loop.attributes.items c.args.count c.loop.counter c.loop.rest.now c.in_ok-attribute.attribute c.in_ok-attribute.after.now (parts_at attribute_at c.args.count c.args.bytes.now) c.loop-test.true c.in_ok-attribute.ensures c.loop.invariant)
