use Rattle.std.proofs.Common.{◌≡◌, ◌++◌, drop, filter_map}
use Rattle.tile_clip.specs.Outlines.{edge_part}
use Rattle.tile_clip.proofs.paths.path_edges_in.Given as goal

abbrev pub invariant-loop-edge : goal.invariant-loop-edge
invariant-loop-edge l = l.kept ++ filter_map (edge_part l.strip) (drop l.edge-index l.edges) ≡ filter_map (edge_part l.strip) l.edges
