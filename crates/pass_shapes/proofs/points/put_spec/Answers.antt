use Rattle.std.proofs.Common.{◌+◌, arith}
use Rattle.tile_model.specs.Points.{point_feature}
use Rattle.tile_model.specs.Tiles.{zoom_items}
use Rattle.pass_shapes.proofs.Emitting.{refused}
use Rattle.pass_shapes.proofs.Ranging.{sent-none, sent-more, sent-all}
use Rattle.pass_shapes.proofs.points.put_spec.Goals as goal

pub loop-zoom-init : goal.loop-zoom-init
loop-zoom-init g c = let low = c.requires.spec.ordered in sent-none c.args.profile.now _ c.args.spec.now.min (c.args.spec.now.max + 1) (g.S.Spill.seen c.args.spill.now, c.args.buffer.now) (omega (arith, low))

pub returns-in-Err : goal.returns-in-Err
returns-in-Err g c =
    let seen = g.S.Spill.seen in
    refused c.args.profile.now _ _ _ c.in-Err.e (seen c.args.spill.now, c.args.buffer.now) (seen c.loop-zoom.spill, c.loop-zoom.buffer) (seen c.put_zoom.new.spill, c.put_zoom.new.buffer) c.loop-zoom.invariant.items (c.in-Err.ensures {u = tt})

pub loop-zoom-preserved : goal.loop-zoom-preserved
loop-zoom-preserved g c =
    let seen = g.S.Spill.seen in
    sent-more c.args.profile.now (zoom_items (point_feature c.args.profile.now c.args.block c.args.node.now c.args.point c.args.spec.now)) c.args.spec.now.min c.loop-zoom.zoom (c.args.spec.now.max + 1) (seen c.args.spill.now, c.args.buffer.now) (seen c.loop-zoom.spill, c.loop-zoom.buffer) (seen c.put_zoom.new.spill, c.put_zoom.new.buffer) c.loop-zoom-test.true c.loop-zoom.invariant (c.in-Ok.ensures {u = tt})

pub returns : goal.returns
returns g c =
    let seen = g.S.Spill.seen in
    let all = sent-all c.args.profile.now (zoom_items (point_feature c.args.profile.now c.args.block c.args.node.now c.args.point c.args.spec.now)) c.args.spec.now.min c.loop-zoom.zoom (c.args.spec.now.max + 1) (seen c.args.spill.now, c.args.buffer.now) (seen c.loop-zoom.spill, c.loop-zoom.buffer) c.loop-zoom-test.false c.loop-zoom.invariant in
    all
