use Rattle.std.proofs.Common.{◌≡◌, ◌++◌, drop}
use Rattle.tile_clip.specs.Outlines.{points_in}
use Rattle.tile_clip.proofs.rings.fill_points.Given as goal

abbrev pub invariant-loop-edge : goal.invariant-loop-edge
invariant-loop-edge l = l.points.items ++ points_in l.strip (drop l.edge-index l.edges) ≡ points_in l.strip l.edges
