use Rattle.std.proofs.Common.{◌≡◌, ◌-◌, ◌^◌, min, take}
use Rattle.pass_shapes.specs.Stores.{shape_in}
use Rattle.pass_shapes.proofs.MemberPoints.{points_of}
use Rattle.pass_shapes.proofs.member_ways.count_points.Given as goal

abbrev pub invariant-loop-id : goal.invariant-loop-id
invariant-loop-id l = l.count ≡ min (points_of (shape_in l.shapes) (take l.id-index l.id-items)) (2 ^ 64 - 1)
