use Rattle.std.proofs.Common.{◌+◌, ◌/◌, arith}
use Rattle.int_mercator.proofs.Knots.{never_falls}
use Rattle.int_mercator.proofs.table.Table.north.Goals as goal

pub overflow_sub-step : goal.overflow_sub-step
overflow_sub-step c =
    let knot = c.args.lat / 15625000 in
    omega (arith, c.at-here.ensures.exact, c.at-2.ensures.exact, never_falls knot (knot + 1) (omega arith) (omega arith))
