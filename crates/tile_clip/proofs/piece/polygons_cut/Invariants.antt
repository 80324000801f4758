use Rattle.std.proofs.Common.{◌≡◌, ◌++◌, drop, filter_map}
use Rattle.tile_clip.specs.Outlines.{polygon_cut}
use Rattle.tile_clip.proofs.piece.polygons_cut.Given as goal

abbrev pub invariant-loop-rings : goal.invariant-loop-rings
invariant-loop-rings l = l.kept ++ filter_map (polygon_cut l.window.corner l.window.buffer) (drop l.rings-index l.polygons) ≡ filter_map (polygon_cut l.window.corner l.window.buffer) l.polygons
