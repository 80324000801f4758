use Rattle.std.proofs.Common.{map}
use Rattle.osm_elements.specs.Fields.{one_body, with_found}
use Rattle.osm_elements.proofs.Prefixes.{with_found-part, part_read, part_stopped, handed_on}
use Rattle.osm_elements.proofs.message.bodies.Goals as goal

pub returns-in_err-put_body : goal.returns-in_err-put_body
returns-in_err-put_body c =
    handed_on _ c.from_residual-in_err-put_body.result c.in_err-put_body.field-0.0 _ _ c.from_residual-in_err-put_body.ensures.1 (c.in_err-put_body.ensures {u = tt})
    (λ why stop. part_stopped with_found with_found-part one_body c.args.number c.args.fields.now c.loop-field.field-index _ (map (λ b. b.now) c.loop-field.bodies.items) why _ c.loop-field-test.true stop c.loop-field.invariant)

pub loop-field-preserved : goal.loop-field-preserved
loop-field-preserved c =
    part_read with_found with_found-part one_body c.args.number c.args.fields.now c.loop-field.field-index _ (map (λ b. b.now) c.loop-field.bodies.items) (map (λ b. b.now) c.put_body.new.out.items) _ c.loop-field-test.true (c.in_ok-put_body.ensures {u = tt}) c.loop-field.invariant
