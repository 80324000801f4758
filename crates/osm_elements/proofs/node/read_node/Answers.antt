use Rattle.osm_elements.specs.Fields.{some_numbers}
use Rattle.osm_elements.proofs.Slots.{wire_on, last_step, last_stops, last_end, last_none, list_step, list_stops, list_end, some_numbers-only}
use Rattle.osm_elements.proofs.MessageWalks.{node_read, node_without_id, node_without_keys, node_without_values, node_without_lat, node_without_lon}
use Rattle.osm_elements.proofs.node.read_node.Goals as goal

pub returns-in_err-field : goal.returns-in_err-field
returns-in_err-field c =
    wire_on _ c.from_residual.result c.in_err-field.field-0.0 _ c.from_residual.ensures.1 c.in_err-field.ensures.exact.0
    (node_without_id c.args.body.now (last_none 1 c.args.body.now c.loop-field.at c.loop-field.invariant.within c.loop-field.id _ c.in_err-field.ensures.exact.1 c.in_err-field.ensures.exact.2 c.loop-field.invariant.id))

pub returns-in_err-id : goal.returns-in_err-id
returns-in_err-id c =
    last_stops 1 c.args.body.now c.loop-field.at c.loop-field.invariant.within _ c.from_residual-in_err-id.result c.in_err-id.field-0.0 _ c.in-Some.field (rw c.in-Some.is at c.in_ok-field.ensures.exact) c.loop-field.id _ c.from_residual-in_err-id.ensures.1 (c.in_err-id.ensures {u = tt}) c.loop-field.invariant.id
    (node_without_id c.args.body.now)

pub returns-in_err-put_numbers : goal.returns-in_err-put_numbers
returns-in_err-put_numbers c =
    list_stops some_numbers some_numbers-only 2 c.args.body.now c.loop-field.at c.loop-field.invariant.within _ c.from_residual-in_err-put_numbers.result c.in_err-put_numbers.field-0.0 _ c.in-Some.field (rw c.in-Some.is at c.in_ok-field.ensures.exact) c.loop-field.numbers.keys.items _ c.from_residual-in_err-put_numbers.ensures.1 (c.in_err-put_numbers.ensures {u = tt}) c.loop-field.invariant.keys
    (node_without_keys c.args.body.now)

pub returns-in_err-put_numbers-2 : goal.returns-in_err-put_numbers-2
returns-in_err-put_numbers-2 c =
    list_stops some_numbers some_numbers-only 3 c.args.body.now c.loop-field.at c.loop-field.invariant.within _ c.from_residual-in_err-put_numbers-2.result c.in_err-put_numbers-2.field-0.0 _ c.in-Some.field (rw c.in-Some.is at c.in_ok-field.ensures.exact) c.loop-field.numbers.values.items _ c.from_residual-in_err-put_numbers-2.ensures.1 (c.in_err-put_numbers-2.ensures {u = tt}) c.loop-field.invariant.values
    (node_without_values c.args.body.now)

pub returns-in_err-lat : goal.returns-in_err-lat
returns-in_err-lat c =
    last_stops 8 c.args.body.now c.loop-field.at c.loop-field.invariant.within _ c.from_residual-in_err-lat.result c.in_err-lat.field-0.0 _ c.in-Some.field (rw c.in-Some.is at c.in_ok-field.ensures.exact) c.loop-field.lat _ c.from_residual-in_err-lat.ensures.1 (c.in_err-lat.ensures {u = tt}) c.loop-field.invariant.lat
    (node_without_lat c.args.body.now)

pub returns-in_err-lon : goal.returns-in_err-lon
returns-in_err-lon c =
    last_stops 9 c.args.body.now c.loop-field.at c.loop-field.invariant.within _ c.from_residual-in_err-lon.result c.in_err-lon.field-0.0 _ c.in-Some.field (rw c.in-Some.is at c.in_ok-field.ensures.exact) c.loop-field.lon _ c.from_residual-in_err-lon.ensures.1 (c.in_err-lon.ensures {u = tt}) c.loop-field.invariant.lon
    (node_without_lon c.args.body.now)

pub loop-field-preserved : goal.loop-field-preserved
loop-field-preserved c = record {
  within = (rw c.in-Some.is at c.in_ok-field.ensures.within).1;
  id = last_step 1 c.args.body.now c.loop-field.at c.loop-field.invariant.within c.in-Some.field (rw c.in-Some.is at c.in_ok-field.ensures.exact) c.loop-field.id c.in_ok-id.id _ (c.in_ok-id.ensures {u = tt}) c.loop-field.invariant.id;
  keys = list_step some_numbers some_numbers-only 2 c.args.body.now c.loop-field.at c.loop-field.invariant.within c.in-Some.field (rw c.in-Some.is at c.in_ok-field.ensures.exact) c.loop-field.numbers.keys.items c.put_numbers.new.out.items _ (c.in_ok-put_numbers.ensures {u = tt}) c.loop-field.invariant.keys;
  values = list_step some_numbers some_numbers-only 3 c.args.body.now c.loop-field.at c.loop-field.invariant.within c.in-Some.field (rw c.in-Some.is at c.in_ok-field.ensures.exact) c.loop-field.numbers.values.items c.put_numbers-in-Some.new.out.items _ (c.in_ok-put_numbers-2.ensures {u = tt}) c.loop-field.invariant.values;
  lat = last_step 8 c.args.body.now c.loop-field.at c.loop-field.invariant.within c.in-Some.field (rw c.in-Some.is at c.in_ok-field.ensures.exact) c.loop-field.lat c.in_ok-lat.lat _ (c.in_ok-lat.ensures {u = tt}) c.loop-field.invariant.lat;
  lon = last_step 9 c.args.body.now c.loop-field.at c.loop-field.invariant.within c.in-Some.field (rw c.in-Some.is at c.in_ok-field.ensures.exact) c.loop-field.lon c.in_ok-lon.lon _ (c.in_ok-lon.ensures {u = tt}) c.loop-field.invariant.lon;
}

pub returns : goal.returns
returns c = node_read c.args.body.now _ _ _ _ _
    (last_end 1 c.args.body.now c.loop-field.at c.loop-field.invariant.within c.loop-field.id _ (rw c.in_default.is at c.in_ok-field.ensures.exact) c.loop-field.invariant.id) (list_end some_numbers some_numbers-only 2 c.args.body.now c.loop-field.at c.loop-field.invariant.within c.loop-field.numbers.keys.items _ (rw c.in_default.is at c.in_ok-field.ensures.exact) c.loop-field.invariant.keys) (list_end some_numbers some_numbers-only 3 c.args.body.now c.loop-field.at c.loop-field.invariant.within c.loop-field.numbers.values.items _ (rw c.in_default.is at c.in_ok-field.ensures.exact) c.loop-field.invariant.values) (last_end 8 c.args.body.now c.loop-field.at c.loop-field.invariant.within c.loop-field.lat _ (rw c.in_default.is at c.in_ok-field.ensures.exact) c.loop-field.invariant.lat) (last_end 9 c.args.body.now c.loop-field.at c.loop-field.invariant.within c.loop-field.lon _ (rw c.in_default.is at c.in_ok-field.ensures.exact) c.loop-field.invariant.lon)
