use Rattle.std.proofs.Common.{◌≡◌, ◌-◌, ◌^◌, min, take}
use Rattle.tb_types.specs.Bags.{total}
use Rattle.strip_clip.specs.CleanCuts.{polygon_points}
use Rattle.pass_shapes.proofs.feature.count_polygons.Given as goal

abbrev pub invariant-loop-polygon : goal.invariant-loop-polygon
invariant-loop-polygon l = l.count ≡ min (total polygon_points (take l.polygon-index l.polygons)) (2 ^ 64 - 1)
