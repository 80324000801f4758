use Rattle.std.proofs.Common.{◌≡◌, ◌++◌, ◌∷◌, []}
use Rattle.std.proofs.lemmas.Result.{err_from_is_err_and}
use Rattle.feature_runs.specs.ItemReading.{parts_at, int_at}
use Rattle.feature_runs.proofs.Loops.{goes_on, ends_at}
use Rattle.feature_runs.proofs.read_parts.ints_of.Goals as goal

pub returns-in_err-n : goal.returns-in_err-n
returns-in_err-n c =
    let p = err_from_is_err_and c.from_residual.result c.from_residual.ensures.1 in
    rw (p.1, p.2) (ends_at c.in_err-n.field-0.0 int_at c.loop.ints.items c.args.count c.loop.counter c.loop.rest.now (parts_at int_at c.args.count c.args.bytes.now) c.loop-test.true c.in_err-n.ensures c.loop.invariant)

pub loop-preserved : goal.loop-preserved
loop-preserved c =
    rw c.in_ok-push.ensures.items (goes_on int_at c.loop.ints.items c.args.count c.loop.counter c.loop.rest.now c.in_ok-n.n c.in_ok-n.after.now (parts_at int_at c.args.count c.args.bytes.now) c.loop-test.true c.in_ok-n.ensures c.loop.invariant)
