use Rattle.std.proofs.Common.{Ok, ◌++◌, length, sym, ap, ◌∙◌}
use Rattle.tb_types.specs.Results.{◌>>=◌}
use Rattle.tb_wire.specs.Field.{entry_of}
use Rattle.osm_elements.specs.Fields.{some_numbers, if_numbered, with_found}
use Rattle.osm_elements.specs.Granularity.{sums}
use Rattle.osm_elements.specs.Numbered.{relation_sums}
use Rattle.osm_elements.proofs.Summing.{summed_whole}
use Rattle.osm_elements.proofs.Slots.{wire_on, hands, field_numbers-only, list_refused, last_step, last_stops, last_end, last_none, list_step, list_stops, list_end, some_numbers-only}
use Rattle.osm_elements.proofs.MessageWalks.{relation_read, relation_without_id, relation_without_keys, relation_without_values, relation_without_ids, relation_without_kinds}
use Rattle.osm_elements.proofs.relation.read_relation.Goals as goal

pub returns-in_err-field : goal.returns-in_err-field
returns-in_err-field c =
    wire_on _ c.from_residual.result c.in_err-field.field-0.0 _ c.from_residual.ensures.1 c.in_err-field.ensures.exact.0
    (ap (λ r. r >>= relation_sums) (relation_without_id c.args.body.now (last_none 1 c.args.body.now c.loop-field.at c.loop-field.invariant.within c.loop-field.id _ c.in_err-field.ensures.exact.1 c.in_err-field.ensures.exact.2 c.loop-field.invariant.id)))

pub returns-in_err-id : goal.returns-in_err-id
returns-in_err-id c =
    last_stops 1 c.args.body.now c.loop-field.at c.loop-field.invariant.within _ c.from_residual-in_err-id.result c.in_err-id.field-0.0 _ c.in-Some.field (rw c.in-Some.is at c.in_ok-field.ensures.exact) c.loop-field.id _ c.from_residual-in_err-id.ensures.1 (c.in_err-id.ensures {u = tt}) c.loop-field.invariant.id
    (λ h. ap (λ r. r >>= relation_sums) (relation_without_id c.args.body.now h))

pub returns-in_err-put_numbers : goal.returns-in_err-put_numbers
returns-in_err-put_numbers c =
    list_stops some_numbers some_numbers-only 2 c.args.body.now c.loop-field.at c.loop-field.invariant.within _ c.from_residual-in_err-put_numbers.result c.in_err-put_numbers.field-0.0 _ c.in-Some.field (rw c.in-Some.is at c.in_ok-field.ensures.exact) c.loop-field.numbers.keys.items _ c.from_residual-in_err-put_numbers.ensures.1 (c.in_err-put_numbers.ensures {u = tt}) c.loop-field.invariant.keys
    (λ h. ap (λ r. r >>= relation_sums) (relation_without_keys c.args.body.now h))

pub returns-in_err-put_numbers-2 : goal.returns-in_err-put_numbers-2
returns-in_err-put_numbers-2 c =
    list_stops some_numbers some_numbers-only 3 c.args.body.now c.loop-field.at c.loop-field.invariant.within _ c.from_residual-in_err-put_numbers-2.result c.in_err-put_numbers-2.field-0.0 _ c.in-Some.field (rw c.in-Some.is at c.in_ok-field.ensures.exact) c.loop-field.numbers.values.items _ c.from_residual-in_err-put_numbers-2.ensures.1 (c.in_err-put_numbers-2.ensures {u = tt}) c.loop-field.invariant.values
    (λ h. ap (λ r. r >>= relation_sums) (relation_without_values c.args.body.now h))

pub returns-in_err-put_field : goal.returns-in_err-put_field
returns-in_err-put_field c =
    hands _ c.from_residual-in_err-put_field.result c.in_err-put_field.field-0.0 (if_numbered some_numbers 9 (entry_of c.in-Some.field)) _ c.from_residual-in_err-put_field.ensures.1 (c.in_err-put_field.ensures {u = tt}) (field_numbers-only 9 (entry_of c.in-Some.field))
    (λ h. ap (λ r. r >>= relation_sums) (relation_without_ids c.args.body.now (list_refused some_numbers some_numbers-only 9 c.args.body.now c.loop-field.at c.loop-field.invariant.within c.in-Some.field (rw c.in-Some.is at c.in_ok-field.ensures.exact) c.loop-field.invariant.ids.0 _ h c.loop-field.invariant.ids.1)))

pub returns-in_err-put_numbers-3 : goal.returns-in_err-put_numbers-3
returns-in_err-put_numbers-3 c =
    list_stops some_numbers some_numbers-only 10 c.args.body.now c.loop-field.at c.loop-field.invariant.within _ c.from_residual-in_err-put_numbers-3.result c.in_err-put_numbers-3.field-0.0 _ c.in-Some.field (rw c.in-Some.is at c.in_ok-field.ensures.exact) c.loop-field.numbers.kinds.items _ c.from_residual-in_err-put_numbers-3.ensures.1 (c.in_err-put_numbers-3.ensures {u = tt}) c.loop-field.invariant.kinds
    (λ h. ap (λ r. r >>= relation_sums) (relation_without_kinds c.args.body.now h))

pub loop-field-preserved : goal.loop-field-preserved
loop-field-preserved c = record {
  within = (rw c.in-Some.is at c.in_ok-field.ensures.within).1;
  id = last_step 1 c.args.body.now c.loop-field.at c.loop-field.invariant.within c.in-Some.field (rw c.in-Some.is at c.in_ok-field.ensures.exact) c.loop-field.id c.in_ok-id.id _ (c.in_ok-id.ensures {u = tt}) c.loop-field.invariant.id;
  keys = list_step some_numbers some_numbers-only 2 c.args.body.now c.loop-field.at c.loop-field.invariant.within c.in-Some.field (rw c.in-Some.is at c.in_ok-field.ensures.exact) c.loop-field.numbers.keys.items c.put_numbers.new.out.items _ (c.in_ok-put_numbers.ensures {u = tt}) c.loop-field.invariant.keys;
  values = list_step some_numbers some_numbers-only 3 c.args.body.now c.loop-field.at c.loop-field.invariant.within c.in-Some.field (rw c.in-Some.is at c.in_ok-field.ensures.exact) c.loop-field.numbers.values.items c.put_numbers-in-Some.new.out.items _ (c.in_ok-put_numbers-2.ensures {u = tt}) c.loop-field.invariant.values;
  ids = let given = c.in_ok-put_field.ensures {u = tt} in (
    c.loop-field.invariant.ids.0 ++ given.0,
    list_step some_numbers some_numbers-only 9 c.args.body.now c.loop-field.at c.loop-field.invariant.within c.in-Some.field (rw c.in-Some.is at c.in_ok-field.ensures.exact) c.loop-field.invariant.ids.0 (c.loop-field.invariant.ids.0 ++ given.0) _
        (ap (with_found c.loop-field.invariant.ids.0) given.1) c.loop-field.invariant.ids.1,
    given.2 c.loop-field.invariant.ids.0 c.loop-field.invariant.ids.2,
  );
  kinds = list_step some_numbers some_numbers-only 10 c.args.body.now c.loop-field.at c.loop-field.invariant.within c.in-Some.field (rw c.in-Some.is at c.in_ok-field.ensures.exact) c.loop-field.numbers.kinds.items c.put_numbers-in-Some-2.new.out.items _ (c.in_ok-put_numbers-3.ensures {u = tt}) c.loop-field.invariant.kinds;
}

pub returns : goal.returns
returns c =
    ap (λ r. r >>= relation_sums) (relation_read c.args.body.now _ _ _ _ _
    (last_end 1 c.args.body.now c.loop-field.at c.loop-field.invariant.within c.loop-field.id _ (rw c.in_default.is at c.in_ok-field.ensures.exact) c.loop-field.invariant.id) (list_end some_numbers some_numbers-only 2 c.args.body.now c.loop-field.at c.loop-field.invariant.within c.loop-field.numbers.keys.items _ (rw c.in_default.is at c.in_ok-field.ensures.exact) c.loop-field.invariant.keys) (list_end some_numbers some_numbers-only 3 c.args.body.now c.loop-field.at c.loop-field.invariant.within c.loop-field.numbers.values.items _ (rw c.in_default.is at c.in_ok-field.ensures.exact) c.loop-field.invariant.values) (list_end some_numbers some_numbers-only 9 c.args.body.now c.loop-field.at c.loop-field.invariant.within c.loop-field.invariant.ids.0 _ (rw c.in_default.is at c.in_ok-field.ensures.exact) c.loop-field.invariant.ids.1) (list_end some_numbers some_numbers-only 10 c.args.body.now c.loop-field.at c.loop-field.invariant.within c.loop-field.numbers.kinds.items _ (rw c.in_default.is at c.in_ok-field.ensures.exact) c.loop-field.invariant.kinds))
    ∙ (ap (λ n. Ok (c.loop-field.id, c.loop-field.numbers.keys.items, c.loop-field.numbers.values.items, n, sums c.loop-field.invariant.ids.0, c.loop-field.numbers.kinds.items)) (sym c.loop-field.invariant.ids.2.1)
    ∙ ap (λ s. Ok (c.loop-field.id, c.loop-field.numbers.keys.items, c.loop-field.numbers.values.items, length c.loop-field.ids.items.items, s, c.loop-field.numbers.kinds.items)) (summed_whole c.loop-field.invariant.ids.0 c.loop-field.ids c.loop-field.invariant.ids.2))
