use Rattle.std.proofs.Common.{◌≡◌, take, filter_map}
use Rattle.tile_model.specs.World.{simple_polygon}
use Rattle.pass_shapes.proofs.simple.simple_polygons.Given as goal

abbrev pub invariant-loop-polygon : goal.invariant-loop-polygon
invariant-loop-polygon l = l.kept ≡ filter_map (simple_polygon l.zoom l.tolerance) (take l.polygon-index l.polygons)
