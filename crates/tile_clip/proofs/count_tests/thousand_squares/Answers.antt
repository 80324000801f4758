use Rattle.std.proofs.Common.{ap, arith}
use Rattle.tb_types.specs.Bags.{total}
use Rattle.tb_types.proofs.Totals.{total_push}
use Rattle.strip_clip.specs.CleanCuts.{polygon_points}
use Rattle.tile_clip.proofs.count_tests.thousand_squares.Goals as goal

pub loop-i-preserved : goal.loop-i-preserved
loop-i-preserved c =
    let pushed = ap (total polygon_points) c.in_ok-push.ensures.ok in
    let sum = total_push polygon_points c.loop-i.polygons c.in_ok-polygon.field-0 in
    omega (arith, c.loop-i.invariant, pushed, sum, c.in_ok-polygon.ensures)
