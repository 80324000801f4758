use Rattle.osm_elements.specs.Fields.{one_number, last_read}
use Rattle.osm_elements.proofs.Prefixes.{last_read-part, part_read, part_stopped, handed_on}
use Rattle.osm_elements.proofs.message.last_number.Goals as goal

pub returns-in_err-last : goal.returns-in_err-last
returns-in_err-last c =
    handed_on _ c.from_residual.result c.in_err-last.field-0.0 _ _ c.from_residual.ensures.1 (c.in_err-last.ensures {u = tt})
    (λ why stop. part_stopped last_read last_read-part one_number c.args.number c.args.fields.now c.loop-field.field-index _ c.loop-field.last why _ c.loop-field-test.true stop c.loop-field.invariant)

pub loop-field-preserved : goal.loop-field-preserved
loop-field-preserved c =
    part_read last_read last_read-part one_number c.args.number c.args.fields.now c.loop-field.field-index _ c.loop-field.last _ _ c.loop-field-test.true (c.in_ok-last.ensures {u = tt}) c.loop-field.invariant
