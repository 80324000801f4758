use Rattle.std.proofs.Common.{◌≡◌, ◌*◌, max, map, take}
use Rattle.line_simplify.specs.Key.{distance_of, key_of}
use Rattle.line_simplify.specs.Rule.{greatest, place_above}
use Rattle.line_simplify.proofs.farthest.farthest.Given as goal

-- of the points so far: which one is kept, and the greatest key or the limit
abbrev pub invariant-loop-index : goal.invariant-loop-index
invariant-loop-index l = record {
  found : l.found ≡ place_above (l.tolerance * l.tolerance * max (distance_of l.a l.b) 1) (map (key_of l.a l.b) (take l.index l.between));
  most : l.most ≡ max (l.tolerance * l.tolerance * max (distance_of l.a l.b) 1) (greatest (map (key_of l.a l.b) (take l.index l.between)));
}
