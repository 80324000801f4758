use Rattle.std.proofs.Common.{List, ◌++◌, length}
use Rattle.ring_assembly.specs.declared.envelope.Envelope.{Envelope}
use Rattle.ring_assembly.specs.Envelopes.{AreAlong, AreOnRing}
use Rattle.ring_assembly.proofs.outline.stretches_of.Given as goal

-- behind the boxes so far stand boxes of the path that is left
abbrev pub invariant-loop-left : goal.invariant-loop-left
invariant-loop-left l = (boxes : List Envelope) → AreAlong boxes l.from l.left → AreOnRing (l.boxes.items ++ boxes) l.ring

abbrev pub decreases-loop-left : goal.decreases-loop-left
decreases-loop-left l = length l.left
