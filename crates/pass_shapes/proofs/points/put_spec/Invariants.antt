use Rattle.std.proofs.Common.{◌+◌}
use Rattle.tile_model.specs.Points.{point_feature}
use Rattle.tile_model.specs.Tiles.{zoom_items}
use Rattle.pass_shapes.proofs.Ranging.{Sent}
use Rattle.pass_shapes.proofs.points.put_spec.Given as goal

abbrev pub invariant-loop-zoom : goal.invariant-loop-zoom
invariant-loop-zoom g l = Sent l.profile (zoom_items (point_feature l.profile l.block l.node l.point l.spec)) l.spec.min l.zoom (l.spec.max + 1) (g.S.Spill.seen l.fn.spill, l.fn.buffer) (g.S.Spill.seen l.spill, l.buffer)
