use Rattle.std.proofs.Common.{refl, sym, ap, ◌∙◌, flat_map}
use Rattle.std.proofs.lemmas.List.{take_all}
use Rattle.profile_rules.specs.declared.spec.Spec.{Spec}
use Rattle.tile_model.specs.Points.{point_feature}
use Rattle.tile_model.specs.Tiles.{feature_items}
use Rattle.pass_shapes.proofs.Emitting.{sends-none, sends-item, sends-as, refused, flat-map}
use Rattle.pass_shapes.proofs.points.put_each.Goals as goal

pub loop-spec-init : goal.loop-spec-init
loop-spec-init g c = sends-none c.args.profile.now (g.S.Spill.seen c.args.spill.now, c.args.buffer.now)

pub returns-in-Err : goal.returns-in-Err
returns-in-Err g c =
    let seen = g.S.Spill.seen in
    refused c.args.profile.now _ _ _ c.in-Err.e (seen c.args.spill.now, c.args.buffer.now) (seen c.loop-spec.spill, c.loop-spec.buffer) (seen c.put_spec.new.spill, c.put_spec.new.buffer) c.loop-spec.invariant (c.in-Err.ensures {u = tt})

pub loop-spec-preserved : goal.loop-spec-preserved
loop-spec-preserved g c =
    let seen = g.S.Spill.seen in
    sends-item c.args.profile.now (λ (x : Spec). feature_items (point_feature c.args.profile.now c.args.block c.args.node.now c.args.point x)) c.args.specs.now c.args.specs.now c.loop-spec.spec-index c.spec-item.result (seen c.args.spill.now, c.args.buffer.now) (seen c.loop-spec.spill, c.loop-spec.buffer) (seen c.put_spec.new.spill, c.put_spec.new.buffer)
    refl c.loop-spec-test.true c.spec-item.is c.loop-spec.invariant (c.in-Ok.ensures {u = tt})

pub returns : goal.returns
returns g c =
    let seen = g.S.Spill.seen in
    let f = point_feature c.args.profile.now c.args.block c.args.node.now c.args.point in
    sends-as c.args.profile.now _ _ (seen c.args.spill.now, c.args.buffer.now) (seen c.loop-spec.spill, c.loop-spec.buffer)
    (ap (flat_map (λ (x : Spec). feature_items (f x))) (take_all c.loop-spec.spec-index c.args.specs.now c.loop-spec-test.false) ∙ sym (flat-map feature_items f c.args.specs.now)) c.loop-spec.invariant
