use Rattle.std.proofs.Common.{ap}
use Rattle.tile_model.specs.Relations.{relation_shape}
use Rattle.pass_shapes.specs.Kept.{kept_origin}
use Rattle.pass_shapes.specs.Stores.{shape_in}
use Rattle.pass_shapes.proofs.SpecItems.{no-shape}
use Rattle.pass_shapes.proofs.relations.put_spec.Goals as goal

pub returns-in-Point : goal.returns-in-Point
returns-in-Point g c =
    let shaped = relation_shape (shape_in c.args.shapes.now) c.args.relation.now.members in
    no-shape c.args.profile.now (kept_origin c.args.relation.now) shaped c.args.spec.now (g.S.Spill.seen c.args.spill.now, c.args.buffer.now) (ap shaped c.in-Point.is)

pub returns-in-Line : goal.returns-in-Line
returns-in-Line g c =
    let shaped = relation_shape (shape_in c.args.shapes.now) c.args.relation.now.members in
    no-shape c.args.profile.now (kept_origin c.args.relation.now) shaped c.args.spec.now (g.S.Spill.seen c.args.spill.now, c.args.buffer.now) (ap shaped c.in-Line.is)
