use Rattle.std.proofs.Common.{◌≡◌, ◌++◌, drop, map}
use Rattle.tile_clip.specs.Outlines.{rings_in}
use Rattle.tile_clip.proofs.outline.polygons_in.Given as goal

abbrev pub invariant-loop-rings : goal.invariant-loop-rings
invariant-loop-rings l = l.kept.items ++ map (rings_in l.strip) (drop l.rings-index l.polygons) ≡ map (rings_in l.strip) l.polygons
