use Rattle.std.proofs.Common.{◌≡◌, drop}
use Rattle.tile_clip.specs.Steady.{all_steady}
use Rattle.tile_clip.proofs.steady.all_steady.Given as goal

abbrev pub invariant-loop-ring : goal.invariant-loop-ring
invariant-loop-ring l = all_steady l.rows (drop l.ring-index l.rings) ≡ all_steady l.rows l.rings
