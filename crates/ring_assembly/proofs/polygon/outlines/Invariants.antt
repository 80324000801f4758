use Rattle.std.proofs.Common.{◌≡◌, ℕ, ◌<◌, length, get_or}
use Rattle.ring_assembly.specs.declared.outline.Outline.{Outline}
use Rattle.ring_assembly.specs.Nesting.{ring_at}
use Rattle.ring_assembly.specs.Envelopes.{IsOutline}
use Rattle.ring_assembly.proofs.polygon.outlines.Given as goal

-- the outlines so far are those of their rings
abbrev pub invariant-loop-ring : goal.invariant-loop-ring
invariant-loop-ring l = record {
  count : length l.outlines.items ≡ l.ring-index;
  each : (k : ℕ) (d : Outline) → k < l.ring-index → IsOutline (get_or l.outlines.items k d) (ring_at l.rings k);
}
