use Rattle.std.proofs.Common.{◌≡◌, Some, [], ◌∷◌, ◌++◌, drop}
use Rattle.ring_assembly.specs.Sides.{shown_along, shown}
use Rattle.ring_assembly.specs.Envelopes.{AreAlong}
use Rattle.ring_assembly.proofs.Paths.{together}
use Rattle.ring_assembly.proofs.side.side.Given as goal

-- the boxes that are left are those of the path that is left, and what is shown so far and by that path is the whole
abbrev pub invariant-loop-envelope : goal.invariant-loop-envelope
invariant-loop-envelope l = record {
  boxed : AreAlong (drop l.envelope-index l.boxes) l.from l.left;
  told : together (Some l.inside) (shown_along l.p l.from (l.left ++ l.first ∷ [])) ≡ shown l.ring l.p;
}
