use Rattle.std.proofs.Common.{◌≡◌, ◌*◌, ◌^◌, ◌≤◌, ◌+ℤ◌, unsigned_abs, drop}
use Rattle.tb_types.specs.Clean.{x_of, y_of, doubled_area}
use Rattle.tb_types.specs.Points.{area_along}
use Rattle.strip_clip.proofs.clean.doubled_area.Given as goal

-- what the edges so far and those that are left add is the whole
abbrev pub invariant-loop-q : goal.invariant-loop-q
invariant-loop-q l = record {
  told : l.sum +ℤ area_along x_of y_of l.p (drop l.q-index l.rest) l.first ≡ doubled_area l.ring;
  small : unsigned_abs l.sum ≤ l.q-index * 2 ^ 63;
}
