use Rattle.std.proofs.Common.{◌≡◌, ◌*◌, ◌^◌, ◌≤◌, pos, ◌+ℤ◌, ◌-ℤ◌, drop}
use Rattle.tb_types.specs.Points.{area_along, doubled_area}
use Rattle.ring_assembly.specs.Rings.{x_of, y_of}
use Rattle.ring_assembly.proofs.clean.absolute_doubled_area.Given as goal

-- what the edges so far and those that are left add is the whole, one way round less the other
abbrev pub invariant-loop-q : goal.invariant-loop-q
invariant-loop-q l = record {
  told : (pos l.forth -ℤ pos l.back) +ℤ area_along x_of y_of l.p (drop l.q-index l.rest) l.first ≡ doubled_area x_of y_of l.ring;
  small_forth : l.forth ≤ l.q-index * 2 ^ 64;
  small_back : l.back ≤ l.q-index * 2 ^ 64;
}
