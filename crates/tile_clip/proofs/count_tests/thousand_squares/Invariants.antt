use Rattle.std.proofs.Common.{◌≤◌, ◌*◌}
use Rattle.tb_types.specs.Bags.{total}
use Rattle.strip_clip.specs.CleanCuts.{polygon_points}
use Rattle.tile_clip.proofs.count_tests.thousand_squares.Given as goal

abbrev pub invariant-loop-i : goal.invariant-loop-i
invariant-loop-i l = total polygon_points l.polygons ≤ 110000 * l.i
