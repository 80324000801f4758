use Rattle.std.proofs.Common.{subst}
use Rattle.profile_rules.specs.declared.spec.Spec.{Spec}
use Rattle.tile_model.specs.Rows.{shape_feature}
use Rattle.tile_model.specs.Tiles.{feature_items}
use Rattle.pass_shapes.specs.Emitting.{Emits}
use Rattle.pass_shapes.specs.Kept.{kept_origin}
use Rattle.pass_shapes.proofs.Emitting.{emits-memory}
use Rattle.pass_shapes.proofs.relations.put_area.Goals as goal

pub returns-in-Ok : goal.returns-in-Ok
returns-in-Ok g c =
    let seen = g.S.Spill.seen in
    subst (λ (s : Spec). Emits c.args.profile.now (feature_items (shape_feature c.args.profile.now (kept_origin c.args.relation.now) c.args.area.now s)) (seen c.args.spill.now) (seen c.put_feature.new.spill) c.args.buffer.now c.put_feature.new.buffer c.put_feature.result)
    (c.in-Ok.ensures {u = tt}) c.put_feature.ensures

pub returns-in-Err : goal.returns-in-Err
returns-in-Err g c = emits-memory c.args.profile.now _ (g.S.Spill.seen c.args.spill.now) c.args.buffer.now c.args.buffer.now
