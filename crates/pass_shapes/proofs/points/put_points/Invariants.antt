use Rattle.std.proofs.Common.{take, flat_map}
use Rattle.osm_elements.specs.declared.element.NodeEl.{NodeEl}
use Rattle.tile_model.specs.Points.{node_features}
use Rattle.tile_model.specs.Tiles.{emitted_items}
use Rattle.pass_shapes.proofs.Emitting.{Sends}
use Rattle.pass_shapes.proofs.points.put_points.Given as goal

abbrev pub invariant-loop-node : goal.invariant-loop-node
invariant-loop-node g l = Sends l.profile (flat_map (λ (x : NodeEl). emitted_items (node_features l.profile l.block x)) (take l.node-index l.nodes)) (g.S.Spill.seen l.fn.spill, l.fn.buffer) (g.S.Spill.seen l.spill, l.buffer)
