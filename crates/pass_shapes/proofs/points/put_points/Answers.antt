use Rattle.std.proofs.Common.{refl, sym, ap, ◌∙◌, flat_map}
use Rattle.std.proofs.lemmas.List.{take_all}
use Rattle.osm_elements.specs.declared.element.NodeEl.{NodeEl}
use Rattle.tile_model.specs.Points.{node_features}
use Rattle.tile_model.specs.Tiles.{emitted_items, feature_items}
use Rattle.pass_shapes.proofs.Emitting.{sends-none, sends-item, sends-as, refused, flat-flat}
use Rattle.pass_shapes.proofs.points.put_points.Goals as goal

pub loop-node-init : goal.loop-node-init
loop-node-init g c = sends-none c.args.profile.now (g.S.Spill.seen c.args.spill.now, c.args.buffer.now)

pub returns-in-Err : goal.returns-in-Err
returns-in-Err g c =
    let seen = g.S.Spill.seen in
    refused c.args.profile.now _ _ _ c.in-Err.e (seen c.args.spill.now, c.args.buffer.now) (seen c.loop-node.spill, c.loop-node.buffer) (seen c.put_items.new.spill, c.put_items.new.buffer) c.loop-node.invariant (c.in-Err.ensures {u = tt})

pub loop-node-preserved : goal.loop-node-preserved
loop-node-preserved g c =
    let seen = g.S.Spill.seen in
    sends-item c.args.profile.now (λ (x : NodeEl). emitted_items (node_features c.args.profile.now c.args.block x)) c.args.nodes.now c.args.nodes.now c.loop-node.node-index c.node-item.result (seen c.args.spill.now, c.args.buffer.now) (seen c.loop-node.spill, c.loop-node.buffer) (seen c.put_items.new.spill, c.put_items.new.buffer)
    refl c.loop-node-test.true c.node-item.is c.loop-node.invariant (c.in-Ok.ensures {u = tt})

pub returns : goal.returns
returns g c =
    let seen = g.S.Spill.seen in
    let f = node_features c.args.profile.now c.args.block in
    sends-as c.args.profile.now _ _ (seen c.args.spill.now, c.args.buffer.now) (seen c.loop-node.spill, c.loop-node.buffer)
    (ap (flat_map (λ (x : NodeEl). emitted_items (f x))) (take_all c.loop-node.node-index c.args.nodes.now c.loop-node-test.false) ∙ sym (flat-flat feature_items f c.args.nodes.now)) c.loop-node.invariant
