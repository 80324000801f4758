use Rattle.osm_elements.specs.Fields.{some_numbers, with_found}
use Rattle.osm_elements.proofs.Prefixes.{with_found-part, part_read, part_stopped, handed_on}
use Rattle.osm_elements.proofs.message.numbers.Goals as goal

pub returns-in_err-put_numbers : goal.returns-in_err-put_numbers
returns-in_err-put_numbers c =
    handed_on _ c.from_residual.result c.in_err-put_numbers.field-0.0 _ _ c.from_residual.ensures.1 (c.in_err-put_numbers.ensures {u = tt})
    (λ why stop. part_stopped with_found with_found-part some_numbers c.args.number c.args.fields.now c.loop-field.field-index _ c.loop-field.numbers.items why _ c.loop-field-test.true stop c.loop-field.invariant)

pub loop-field-preserved : goal.loop-field-preserved
loop-field-preserved c =
    part_read with_found with_found-part some_numbers c.args.number c.args.fields.now c.loop-field.field-index _ c.loop-field.numbers.items c.put_numbers.new.out.items _ c.loop-field-test.true (c.in_ok-put_numbers.ensures {u = tt}) c.loop-field.invariant
