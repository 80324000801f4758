use Rattle.std.proofs.Common.{◌≡◌, ◌++◌, drop, map}
use Rattle.strip_clip.specs.Cuts.{relative, row}
use Rattle.tile_clip.specs.Outlines.{points_in}
use Rattle.tile_clip.proofs.piece.ring_cut.Given as goal

-- the points so far and those of the edges that are left are the whole
abbrev pub invariant-loop-edge : goal.invariant-loop-edge
invariant-loop-edge l = l.points.items ++ map (relative l.window.corner) (points_in (row l.window.corner l.window.buffer) (drop l.edge-index l.edges)) ≡ map (relative l.window.corner) (points_in (row l.window.corner l.window.buffer) l.edges)
