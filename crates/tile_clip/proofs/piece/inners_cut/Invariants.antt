use Rattle.std.proofs.Common.{◌≡◌, ◌++◌, false, drop, filter_map}
use Rattle.tile_clip.specs.Outlines.{ring_cut}
use Rattle.tile_clip.proofs.piece.inners_cut.Given as goal

abbrev pub invariant-loop-inner : goal.invariant-loop-inner
invariant-loop-inner l = l.kept ++ filter_map (ring_cut l.window.corner l.window.buffer false) (drop l.inner-index l.inners) ≡ filter_map (ring_cut l.window.corner l.window.buffer false) l.inners
