use Rattle.std.proofs.Common.{◌≡◌, ◌++◌, drop, map, filter_map}
use Rattle.strip_clip.specs.Cuts.{relative, row}
use Rattle.strip_clip.specs.Cleaning.{clean_paths}
use Rattle.strip_clip.proofs.Paths.{onto}
use Rattle.tile_clip.specs.Outlines.{edge_part, paths_cut, paths_of}
use Rattle.tile_clip.proofs.piece.paths_cut.Given as goal

-- the paths that are ended, and those that the begun one and the edges that are left give, are the whole
abbrev pub invariant-loop-edge : goal.invariant-loop-edge
invariant-loop-edge l = l.kept ++ clean_paths (onto l.path.items (map (map (relative l.window.corner)) (paths_of (filter_map (edge_part (row l.window.corner l.window.buffer)) (drop l.edge-index l.edges))))) ≡ paths_cut l.window.corner l.window.buffer l.edges
