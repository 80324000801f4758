use Rattle.std.proofs.Common.{◌≡◌, ◌++◌, drop}
use Rattle.std.specs.Prelude.{filter}
use Rattle.tile_clip.specs.Outlines.{touches}
use Rattle.tile_clip.proofs.edge.edges_touching.Given as goal

abbrev pub invariant-loop-edge : goal.invariant-loop-edge
invariant-loop-edge l = l.kept ++ filter (touches l.strip) (drop l.edge-index l.edges) ≡ filter (touches l.strip) l.edges
