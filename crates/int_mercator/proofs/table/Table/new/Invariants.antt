use Rattle.std.proofs.Common.{◌≡◌, ◌*◌, ◌/◌, ◌^◌, ◌≤◌, map}
use Rattle.std.specs.List.{range_with_len}
use Rattle.int_mercator.specs.Cosine.{least_cosine}
use Rattle.int_mercator.specs.Quarter.{secant_of, height_of, entry_of}
use Rattle.int_mercator.proofs.table.Table.new.Given as goal

-- the entries of the knots so far, and the height and the secant at the next one
abbrev pub invariant-loop-knot : goal.invariant-loop-knot
invariant-loop-knot l = record {
  entries : l.entries.items ≡ map entry_of (range_with_len 0 l.knot);
  height : l.height ≡ height_of l.knot;
  low : l.height ≤ l.knot * 2 ^ 52;
  here : l.here ≡ secant_of (2 * l.knot);
  small : l.here ≤ 2 ^ 120 / least_cosine;
}
