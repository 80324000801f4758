use Rattle.std.proofs.Common.{◌∙◌, ap}
use Rattle.tb_types.specs.Needs.{relation_need}
use Rattle.member_sets.specs.declared.kept.KeptRelation.{KeptRelation}
use Rattle.tile_model.specs.Needs.{member_points}
use Rattle.pass_shapes.specs.Stores.{shape_in}
use Rattle.pass_shapes.proofs.MemberPoints.{largest_next, need-least}
use Rattle.pass_shapes.proofs.needs.largest_relation.Goals as goal

pub loop-relation-preserved : goal.loop-relation-preserved
loop-relation-preserved c =
    let shape_at = shape_in c.args.shapes.now in
    let item = c.relation-item.result in
    largest_next shape_at c.args.kept.now c.loop-relation.relation-index c.loop-relation.most c.relation_need.result c.larger-most.result item c.loop-relation-test.true c.loop-relation.invariant
    (c.relation_need.ensures ∙ (need-least shape_at item.members c.as_slice.result.now c.in_ok-points.points c.as_slice.ensures (c.in_ok-points.ensures {u = tt})
    ∙ ap (λ (k : KeptRelation). relation_need (member_points shape_at k.members)) c.relation-item.is)) c.larger-most.ensures
