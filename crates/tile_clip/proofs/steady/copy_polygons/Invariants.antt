use Rattle.std.proofs.Common.{◌≡◌, take}
use Rattle.tile_clip.proofs.steady.copy_polygons.Given as goal

abbrev pub invariant-loop-polygon : goal.invariant-loop-polygon
invariant-loop-polygon l = l.copy.items ≡ take l.polygon-index l.polygons
