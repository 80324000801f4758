use Rattle.std.proofs.Common.{◌≡◌, ◌++◌, length}
use Rattle.std.specs.List.{filter_map}
use Rattle.ring_assembly.specs.Nesting.{numbers, polygon_at}
use Rattle.ring_assembly.proofs.Numbers.{left_from}
use Rattle.ring_assembly.proofs.polygon.all_polygons.Given as goal

-- the polygons so far and those of the rings that are left are all
abbrev pub invariant-loop-number : goal.invariant-loop-number
invariant-loop-number l = l.polygons ++ filter_map (polygon_at l.rings) (left_from l.number (length l.rings)) ≡ filter_map (polygon_at l.rings) (numbers l.rings)
