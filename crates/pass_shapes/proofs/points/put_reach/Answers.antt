use Rattle.std.proofs.Common.{◌+◌, map, arith}
use Rattle.tile_model.specs.Points.{strips}
use Rattle.tile_model.specs.Items.{item_in, column_tiles}
use Rattle.pass_shapes.proofs.Emitting.{refused, sends-as}
use Rattle.pass_shapes.proofs.Ranging.{sent-none, sent-more, sent-all, map-flat}
use Rattle.pass_shapes.proofs.points.put_reach.Goals as goal

pub loop-x-init : goal.loop-x-init
loop-x-init g c = let low = c.requires.columns.some in sent-none c.args.profile.now _ c.args.reach.columns.first (c.args.reach.columns.last + 1) (g.S.Spill.seen c.args.spill.now, c.args.buffer.now) (omega (arith, low))

pub returns-in-Err : goal.returns-in-Err
returns-in-Err g c =
    let seen = g.S.Spill.seen in
    refused c.args.profile.now _ _ _ c.in-Err.e (seen c.args.spill.now, c.args.buffer.now) (seen c.loop-x.spill, c.loop-x.buffer) (seen c.put_column.new.spill, c.put_column.new.buffer) c.loop-x.invariant.items (c.in-Err.ensures {u = tt})

pub loop-x-preserved : goal.loop-x-preserved
loop-x-preserved g c =
    let seen = g.S.Spill.seen in
    sent-more c.args.profile.now (λ x. map (item_in c.args.block c.args.node.now c.args.spec.now c.args.p) (column_tiles c.args.zoom x c.args.reach.rows)) c.args.reach.columns.first c.loop-x.x (c.args.reach.columns.last + 1) (seen c.args.spill.now, c.args.buffer.now) (seen c.loop-x.spill, c.loop-x.buffer) (seen c.put_column.new.spill, c.put_column.new.buffer) c.loop-x-test.true c.loop-x.invariant (c.in-Ok.ensures {u = tt})

pub returns : goal.returns
returns g c =
    let seen = g.S.Spill.seen in
    let all = sent-all c.args.profile.now (λ x. map (item_in c.args.block c.args.node.now c.args.spec.now c.args.p) (column_tiles c.args.zoom x c.args.reach.rows)) c.args.reach.columns.first c.loop-x.x (c.args.reach.columns.last + 1) (seen c.args.spill.now, c.args.buffer.now) (seen c.loop-x.spill, c.loop-x.buffer) c.loop-x-test.false c.loop-x.invariant in
    sends-as c.args.profile.now _ _ (seen c.args.spill.now, c.args.buffer.now) (seen c.loop-x.spill, c.loop-x.buffer)
    (map-flat (item_in c.args.block c.args.node.now c.args.spec.now c.args.p) (λ x. column_tiles c.args.zoom x c.args.reach.rows) (strips c.args.reach.columns)) all
