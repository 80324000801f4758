use Rattle.std.proofs.Common.{◌≡◌, drop}
use Rattle.tile_clip.specs.Steady.{are_steady}
use Rattle.tile_clip.proofs.steady.are_steady.Given as goal

abbrev pub invariant-loop-edge : goal.invariant-loop-edge
invariant-loop-edge l = are_steady l.rows (drop l.edge-index l.edges) ≡ are_steady l.rows l.edges
