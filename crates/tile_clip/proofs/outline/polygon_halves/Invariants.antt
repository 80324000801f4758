use Rattle.std.proofs.Common.{◌≡◌, ◌++◌, filter_map}
use Rattle.tile_clip.specs.Outlines.{touching_rings}
use Rattle.tile_clip.proofs.outline.polygon_halves.Given as goal

-- those that are added and those that the polygons still to come add are the whole
abbrev pub invariant-loop-rings : goal.invariant-loop-rings
invariant-loop-rings l = record {
  first : l.in_first ++ filter_map (touching_rings l.fn.first) l.rings-iterator.rest.items ≡ filter_map (touching_rings l.fn.first) l.fn.polygons;
  second : l.in_second ++ filter_map (touching_rings l.fn.second) l.rings-iterator.rest.items ≡ filter_map (touching_rings l.fn.second) l.fn.polygons;
}
