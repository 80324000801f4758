use Rattle.std.proofs.Common.{◌≡◌, take, filter_map}
use Rattle.tile_model.specs.World.{some_ring}
use Rattle.pass_shapes.proofs.simple.simple_rings.Given as goal

abbrev pub invariant-loop-ring : goal.invariant-loop-ring
invariant-loop-ring l = l.kept ≡ filter_map (some_ring l.zoom l.tolerance) (take l.ring-index l.rings)
