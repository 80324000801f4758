use Rattle.std.proofs.Common.{◌≡◌, ◌*◌, ◌^◌, ◌≤◌, ◌+ℤ◌, unsigned_abs, drop}
use Rattle.tb_types.specs.Points.{area_along, doubled_area}
use Rattle.tb_types.proofs.ring.doubled_area.Given as goal

-- what the edges so far and those that are left add is the whole
abbrev pub invariant-loop-q : goal.invariant-loop-q
invariant-loop-q g l = record {
  told : l.sum +ℤ area_along g.P.Point.x_of g.P.Point.y_of l.p (drop l.q-index l.rest) l.first ≡ doubled_area g.P.Point.x_of g.P.Point.y_of l.ring;
  small : unsigned_abs l.sum ≤ l.q-index * 2 ^ 65;
}
