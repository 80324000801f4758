use Rattle.std.proofs.Common.{◌≡◌, ◌++◌, map, length}
use Rattle.std.specs.List.{filter}
use Rattle.ring_assembly.specs.Nesting.{numbers, ring_at, outer_of, is_number}
use Rattle.ring_assembly.proofs.Numbers.{left_from}
use Rattle.ring_assembly.proofs.polygon.inners_of.Given as goal

-- the inner rings so far and those of the rings that are left are all
abbrev pub invariant-loop-inner : goal.invariant-loop-inner
invariant-loop-inner l =
    l.inners ++ map (ring_at l.rings) (filter (λ j. is_number (outer_of l.rings j) l.outer) (left_from l.inner (length l.rings)))
    ≡ map (ring_at l.rings) (filter (λ j. is_number (outer_of l.rings j) l.outer) (numbers l.rings))
