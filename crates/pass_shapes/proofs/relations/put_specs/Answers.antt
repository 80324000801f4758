use Rattle.std.proofs.Common.{rules}
use Rattle.tile_model.specs.Relations.{relation_shape}
use Rattle.pass_shapes.specs.Kept.{kept_origin}
use Rattle.pass_shapes.specs.Stores.{shape_in}
use Rattle.pass_shapes.proofs.Emitting.{sends-none, refused}
use Rattle.pass_shapes.proofs.SpecItems.{spec-next}
use Rattle.pass_shapes.proofs.relations.put_specs.Goals as goal

pub loop-spec-init : goal.loop-spec-init
loop-spec-init g c = sends-none c.args.profile.now (g.S.Spill.seen c.args.spill.now, c.args.buffer.now)

pub loop-spec-preserved : goal.loop-spec-preserved
loop-spec-preserved g c =
    let seen = g.S.Spill.seen in
    spec-next c.args.profile.now (kept_origin c.args.relation.now) (relation_shape (shape_in c.args.shapes.now) c.args.relation.now.members) c.args.relation.now.specs c.loop-spec.spec-index c.spec-item.result (seen c.args.spill.now, c.args.buffer.now)
    (seen c.loop-spec.spill, c.loop-spec.buffer) (seen c.put_spec.new.spill, c.put_spec.new.buffer) (search rules) (search rules) c.loop-spec.invariant (c.in-Ok.ensures {u = tt})

pub returns-in-Err : goal.returns-in-Err
returns-in-Err g c =
    let seen = g.S.Spill.seen in
    refused c.args.profile.now _ _ _ c.in-Err.e (seen c.args.spill.now, c.args.buffer.now) (seen c.loop-spec.spill, c.loop-spec.buffer) (seen c.put_spec.new.spill, c.put_spec.new.buffer) c.loop-spec.invariant (c.in-Err.ensures {u = tt})
