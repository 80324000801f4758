use Rattle.std.proofs.Common.{◌≡◌, drop}
use Rattle.tile_clip.specs.Outlines.{all_touch}
use Rattle.tile_clip.proofs.edge.all_touch.Given as goal

abbrev pub invariant-loop-edge : goal.invariant-loop-edge
invariant-loop-edge l = all_touch l.strip (drop l.edge-index l.edges) ≡ all_touch l.strip l.edges
