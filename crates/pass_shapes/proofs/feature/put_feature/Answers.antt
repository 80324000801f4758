use Rattle.std.proofs.Common.{◌+◌, map, subst, arith}
use Rattle.pass_shapes.specs.declared.pieces.Label.{Label}
use Rattle.pass_shapes.specs.Pieces.{item_of, pieces_at}
use Rattle.pass_shapes.proofs.Features.{sent-zoom, sent-zooms}
use Rattle.pass_shapes.proofs.Emitting.{Sends, refused}
use Rattle.pass_shapes.proofs.Ranging.{sent-none}
use Rattle.pass_shapes.proofs.feature.put_feature.Goals as goal

pub loop-zoom-init : goal.loop-zoom-init
loop-zoom-init g c = let low = c.requires.spec.ordered in sent-none c.args.profile.now _ c.args.spec.min (c.args.spec.max + 1) (g.S.Spill.seen c.args.spill.now, c.args.buffer.now) (omega (arith, low))

pub returns-in-Err : goal.returns-in-Err
returns-in-Err g c =
    let seen = g.S.Spill.seen in
    refused c.args.profile.now _ _ _ c.in-Err.e (seen c.args.spill.now, c.args.buffer.now) (seen c.loop-zoom.spill, c.loop-zoom.buffer) (seen c.put_zoom.new.spill, c.put_zoom.new.buffer) c.loop-zoom.invariant.items (c.in-Err.ensures {u = tt})

pub loop-zoom-preserved : goal.loop-zoom-preserved
loop-zoom-preserved g c =
    let seen = g.S.Spill.seen in
    let by = λ (l : Label). Sends c.args.profile.now (map (item_of l) (pieces_at c.loop-zoom.zoom c.tolerance_at-tolerance.result c.buffer_of-width.result c.args.shape.now)) (seen c.loop-zoom.spill, c.loop-zoom.buffer) (seen c.put_zoom.new.spill, c.put_zoom.new.buffer) in
    sent-zoom c.args.profile.now c.args.origin c.args.shape.now c.args.spec c.loop-zoom.zoom c.tolerance_at-tolerance.result c.buffer_of-width.result (seen c.args.spill.now, c.args.buffer.now) (seen c.loop-zoom.spill, c.loop-zoom.buffer) (seen c.put_zoom.new.spill, c.put_zoom.new.buffer)
    c.loop-zoom-test.true c.loop-zoom.invariant c.tolerance_at-tolerance.ensures.exact c.buffer_of-width.ensures.exact (subst by c.label_of-label.ensures.exact (c.in-Ok.ensures {u = tt}))

pub returns : goal.returns
returns g c =
    let seen = g.S.Spill.seen in
    sent-zooms c.args.profile.now c.args.origin c.args.shape.now c.args.spec c.loop-zoom.zoom (seen c.args.spill.now, c.args.buffer.now) (seen c.loop-zoom.spill, c.loop-zoom.buffer) c.loop-zoom-test.false c.loop-zoom.invariant
