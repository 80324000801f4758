use Rattle.std.proofs.Common.{pos, slice_index_or, sym, ap, ◌∙◌}
use Rattle.tb_types.specs.declared.element.OsmId.{OsmId}
use Rattle.pass_shapes.proofs.WayWalks.{with_id, first_next}
use Rattle.pass_shapes.proofs.member_ways.first_each.Goals as goal

pub loop-id-preserved : goal.loop-id-preserved
loop-id-preserved c =
    let none : OsmId = record { 0 = pos 0 } in
    (c.in_ok-insert.ensures {u = tt}).keys ∙ (ap (λ ids. with_id ids (slice_index_or c.args.ids.now c.loop-id.id-index none)) c.loop-id.invariant ∙ sym (first_next c.args.ids.now c.loop-id.id-index none c.loop-id-test.true))
