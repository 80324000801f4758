use Rattle.std.proofs.Common.{◌∷◌, [], ◌+◌, arith}
use Rattle.tile_model.specs.Points.{strips}
use Rattle.tile_model.specs.Items.{item_in}
use Rattle.pass_shapes.proofs.PointItems.{strip-low}
use Rattle.pass_shapes.proofs.Emitting.{refused, sends-as}
use Rattle.pass_shapes.proofs.Ranging.{sent-none, sent-more, sent-all, singles}
use Rattle.pass_shapes.proofs.points.put_column.Goals as goal

pub loop-y-init : goal.loop-y-init
loop-y-init g c = let low = c.requires.rows.some in sent-none c.args.profile.now _ c.args.rows.first (c.args.rows.last + 1) (g.S.Spill.seen c.args.spill.now, c.args.buffer.now) (omega (arith, low))

pub put_item-requires-clause-low : goal.put_item-requires-clause-low
put_item-requires-clause-low g c =
    let low = c.requires.rows.low in
    let next = c.loop-y-test.true in
    (strip-low c.args.zoom c.args.x c.requires.zoom c.requires.column, strip-low c.args.zoom c.loop-y.y c.requires.zoom (omega (arith, low, next)))

pub returns-in-Err : goal.returns-in-Err
returns-in-Err g c =
    let seen = g.S.Spill.seen in
    refused c.args.profile.now _ _ _ c.in-Err.e (seen c.args.spill.now, c.args.buffer.now) (seen c.loop-y.spill, c.loop-y.buffer) (seen c.put_item.new.spill, c.put_item.new.buffer) c.loop-y.invariant.items (c.in-Err.ensures {u = tt})

pub loop-y-preserved : goal.loop-y-preserved
loop-y-preserved g c =
    let seen = g.S.Spill.seen in
    sent-more c.args.profile.now (λ y. item_in c.args.block c.args.node.now c.args.spec.now c.args.p (record { z = c.args.zoom; x = c.args.x; y = y }) ∷ []) c.args.rows.first c.loop-y.y (c.args.rows.last + 1) (seen c.args.spill.now, c.args.buffer.now) (seen c.loop-y.spill, c.loop-y.buffer) (seen c.put_item.new.spill, c.put_item.new.buffer) c.loop-y-test.true c.loop-y.invariant (c.in-Ok.ensures {u = tt})

pub returns : goal.returns
returns g c =
    let seen = g.S.Spill.seen in
    let all = sent-all c.args.profile.now (λ y. item_in c.args.block c.args.node.now c.args.spec.now c.args.p (record { z = c.args.zoom; x = c.args.x; y = y }) ∷ []) c.args.rows.first c.loop-y.y (c.args.rows.last + 1) (seen c.args.spill.now, c.args.buffer.now) (seen c.loop-y.spill, c.loop-y.buffer) c.loop-y-test.false c.loop-y.invariant in
    sends-as c.args.profile.now _ _ (seen c.args.spill.now, c.args.buffer.now) (seen c.loop-y.spill, c.loop-y.buffer)
    (singles (item_in c.args.block c.args.node.now c.args.spec.now c.args.p) (λ y. record { z = c.args.zoom; x = c.args.x; y = y }) (strips c.args.rows)) all
