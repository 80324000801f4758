use Rattle.std.proofs.Common.{◌≡◌, ◌+◌, ◌≤◌, count_by, length}
use Rattle.ring_assembly.specs.Nesting.{numbers, contains}
use Rattle.ring_assembly.proofs.Numbers.{left_from}
use Rattle.ring_assembly.proofs.polygon.depth.Given as goal

-- the rings so far that contain it and those of the ones that are left are all
abbrev pub invariant-loop-outer : goal.invariant-loop-outer
invariant-loop-outer l = record {
  told : l.depth + count_by (λ i. contains l.rings i l.inner) (left_from l.outer (length l.rings)) ≡ count_by (λ i. contains l.rings i l.inner) (numbers l.rings);
  small : l.depth ≤ l.outer;
}
