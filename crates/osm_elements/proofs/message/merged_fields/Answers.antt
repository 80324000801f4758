use Rattle.std.proofs.Common.{map}
use Rattle.tb_wire.specs.Field.{entry_of}
use Rattle.osm_elements.specs.Fields.{some_fields, with_found}
use Rattle.osm_elements.proofs.Prefixes.{with_found-part, part_read, part_stopped, handed_on}
use Rattle.osm_elements.proofs.message.merged_fields.Goals as goal

pub returns-in_err-put_message : goal.returns-in_err-put_message
returns-in_err-put_message c =
    handed_on _ c.from_residual.result c.in_err-put_message.field-0.0 _ _ c.from_residual.ensures.1 (c.in_err-put_message.ensures {u = tt})
    (λ why stop. part_stopped with_found with_found-part some_fields c.args.number c.args.fields.now c.loop-field.field-index _ (map entry_of c.loop-field.merged_fields.items) why _ c.loop-field-test.true stop c.loop-field.invariant)

pub loop-field-preserved : goal.loop-field-preserved
loop-field-preserved c =
    part_read with_found with_found-part some_fields c.args.number c.args.fields.now c.loop-field.field-index _ (map entry_of c.loop-field.merged_fields.items) (map entry_of c.put_message.new.out.items) _ c.loop-field-test.true (c.in_ok-put_message.ensures {u = tt}) c.loop-field.invariant
