use Rattle.pass_shapes.specs.Stores.{shape_in}
use Rattle.pass_shapes.proofs.MemberPoints.{points_next}
use Rattle.pass_shapes.proofs.member_ways.count_points.Goals as goal

pub loop-id-preserved : goal.loop-id-preserved
loop-id-preserved c =
    points_next (shape_in c.args.shapes.now) c.as_slice-id-items.result.now c.loop-id.id-index c.loop-id.count c.points_of.result c.saturating_add-count.result _ c.loop-id-test.true c.loop-id.invariant c.points_of.ensures c.saturating_add-count.ensures
