use Rattle.std.proofs.Common.{◌≡◌, drop}
use Rattle.tile_clip.specs.Steady.{are_polygons_steady}
use Rattle.tile_clip.proofs.steady.are_polygons_steady.Given as goal

abbrev pub invariant-loop-rings : goal.invariant-loop-rings
invariant-loop-rings l = are_polygons_steady l.rows (drop l.rings-index l.polygons) ≡ are_polygons_steady l.rows l.polygons
