use Rattle.std.proofs.Common.{List, flat_map, refl, subst}
use Rattle.osm_elements.specs.declared.element.NodeEl.{NodeEl}
use Rattle.tile_model.specs.Points.{node_features}
use Rattle.tile_model.specs.Tiles.{emitted_items}
use Rattle.build_one.specs.Passes.{Adds}
use Rattle.build_one.proofs.Passes.{located-emit}
use Rattle.build_one.proofs.nodes.NodeWorkWork.emit.Goals as goal

pub returns-in-Ok : goal.returns-in-Ok
returns-in-Ok g c = λ start puts emits h.
    let old = c.args.self.now in
    let seen = g.S.Spill.seen in
    located-emit seen start old _ puts emits (c.args.block, c.args.body) h (record { buffer = refl; spill = refl; entries = refl; profile = refl; needed = refl }) refl
    (subst (λ (nodes : List NodeEl). Adds old.profile.now (emitted_items (flat_map (node_features old.profile.now c.args.block.no) nodes)) (seen old.spill.now) (seen c.put_points.new.spill) old.buffer.now c.put_points.new.buffer) c.as_slice-nodes.ensures (c.in-Ok.ensures {u = tt}))
