use Rattle.std.proofs.Common.{◌≡◌, drop}
use Rattle.ring_assembly.specs.Sides.{on_path, odd_path, differ}
use Rattle.ring_assembly.proofs.side.along.Given as goal

-- the edges so far don't have the point on them, and what they and those that are left cross is the whole
abbrev pub invariant-loop-b : goal.invariant-loop-b
invariant-loop-b l = record {
  on : on_path l.p l.a (drop l.b-index l.path) ≡ on_path l.p l.fn.from l.path;
  odd : differ l.odd (odd_path l.p l.a (drop l.b-index l.path)) ≡ odd_path l.p l.fn.from l.path;
}
