use Rattle.std.proofs.Common.{rules, ◌≡◌, None}
use Rattle.tile_model.specs.World.{simple_shape}
use Rattle.pass_shapes.proofs.Features.{no-pieces}
use Rattle.pass_shapes.proofs.feature.put_zoom.Goals as goal

pub returns-in-Ok-None : goal.returns-in-Ok-None
returns-in-Ok-None g c =
    let none : simple_shape c.args.zoom c.args.tolerance c.args.shape.now ≡ None = search rules in
    no-pieces c.args.profile.now c.args.label.now c.args.zoom c.args.tolerance c.args.width c.args.shape.now (g.S.Spill.seen c.args.spill.now, c.args.buffer.now) none
