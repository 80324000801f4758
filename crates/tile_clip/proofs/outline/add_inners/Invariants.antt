use Rattle.std.proofs.Common.{◌≡◌, ◌++◌}
use Rattle.tile_clip.specs.Outlines.{touching_inners}
use Rattle.tile_clip.proofs.outline.add_inners.Given as goal

-- those that are added and those that the rings still to come add are the whole
abbrev pub invariant-loop-inner : goal.invariant-loop-inner
invariant-loop-inner l = record {
  first : l.in_first ++ touching_inners l.fn.first l.inner-iterator.rest.items ≡ l.fn.in_first ++ touching_inners l.fn.first l.fn.inners;
  second : l.in_second ++ touching_inners l.fn.second l.inner-iterator.rest.items ≡ l.fn.in_second ++ touching_inners l.fn.second l.fn.inners;
}
