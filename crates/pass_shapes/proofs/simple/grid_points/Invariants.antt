use Rattle.std.proofs.Common.{◌≡◌, take, All}
use Rattle.line_simplify.specs.Key.{IsOnGrid}
use Rattle.tile_model.specs.World.{grid_points}
use Rattle.pass_shapes.proofs.simple.grid_points.Given as goal

abbrev pub invariant-loop-point : goal.invariant-loop-point
invariant-loop-point l = (l.placed.items ≡ grid_points l.zoom (take l.point-index l.points)) × All IsOnGrid l.placed.items
