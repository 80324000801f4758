use Rattle.std.proofs.Common.{refl, sym, ap, ◌∙◌, flat_map}
use Rattle.std.proofs.lemmas.List.{take_all}
use Rattle.member_sets.specs.declared.kept.KeptRelation.{KeptRelation}
use Rattle.tile_model.specs.Tiles.{emitted_items, feature_items}
use Rattle.pass_shapes.specs.Kept.{kept_features}
use Rattle.pass_shapes.specs.Stores.{shape_in}
use Rattle.pass_shapes.proofs.Emitting.{sends-none, sends-item, sends-as, refused, flat-flat}
use Rattle.pass_shapes.proofs.relations.put_relations.Goals as goal

pub loop-relation-init : goal.loop-relation-init
loop-relation-init g c = sends-none c.args.profile.now (g.S.Spill.seen c.args.spill.now, c.args.buffer.now)

pub returns-in-Err : goal.returns-in-Err
returns-in-Err g c =
    let seen = g.S.Spill.seen in
    refused c.args.profile.now _ _ _ c.in-Err.e (seen c.args.spill.now, c.args.buffer.now) (seen c.loop-relation.spill, c.loop-relation.buffer) (seen c.put_relation.new.spill, c.put_relation.new.buffer) c.loop-relation.invariant (c.in-Err.ensures {u = tt})

pub loop-relation-preserved : goal.loop-relation-preserved
loop-relation-preserved g c =
    let seen = g.S.Spill.seen in
    sends-item c.args.profile.now (λ (x : KeptRelation). emitted_items (kept_features c.args.profile.now (shape_in c.args.shapes.now) x)) c.args.kept.now c.args.kept.now c.loop-relation.relation-index c.relation-item.result (seen c.args.spill.now, c.args.buffer.now) (seen c.loop-relation.spill, c.loop-relation.buffer) (seen c.put_relation.new.spill, c.put_relation.new.buffer)
    refl c.loop-relation-test.true c.relation-item.is c.loop-relation.invariant (c.in-Ok.ensures {u = tt})

pub returns : goal.returns
returns g c =
    let seen = g.S.Spill.seen in
    let f = kept_features c.args.profile.now (shape_in c.args.shapes.now) in
    sends-as c.args.profile.now _ _ (seen c.args.spill.now, c.args.buffer.now) (seen c.loop-relation.spill, c.loop-relation.buffer)
    (ap (flat_map (λ (x : KeptRelation). emitted_items (f x))) (take_all c.loop-relation.relation-index c.args.kept.now c.loop-relation-test.false) ∙ sym (flat-flat feature_items f c.args.kept.now)) c.loop-relation.invariant
