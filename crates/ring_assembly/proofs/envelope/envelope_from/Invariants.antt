use Rattle.std.proofs.Common.{◌≡◌, true, take}
use Rattle.ring_assembly.specs.Envelopes.{in_box, IsAround}
use Rattle.ring_assembly.proofs.envelope.envelope_from.Given as goal

-- the points so far lie within the box
abbrev pub invariant-loop-p : goal.invariant-loop-p
invariant-loop-p l = record {
  first : in_box (record { low = l.low; high = l.high }) l.fn.from ≡ true;
  others : IsAround (record { low = l.low; high = l.high }) (take l.p-index l.path);
}
