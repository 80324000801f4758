use Rattle.std.proofs.Common.{◌≡◌, length}
use Rattle.std.specs.List.{find}
use Rattle.ring_assembly.specs.Nesting.{numbers, is_outer_of}
use Rattle.ring_assembly.proofs.Numbers.{left_from}
use Rattle.ring_assembly.proofs.polygon.outer_of.Given as goal

-- the first of the rings that are left is the first of all
abbrev pub invariant-loop-outer : goal.invariant-loop-outer
invariant-loop-outer l = find (λ i. is_outer_of l.rings i l.inner) (left_from l.outer (length l.rings)) ≡ find (λ i. is_outer_of l.rings i l.inner) (numbers l.rings)
