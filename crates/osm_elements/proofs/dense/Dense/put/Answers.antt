use Rattle.std.proofs.Common.{arith}
use Rattle.osm_elements.specs.Fields.{some_numbers, if_numbered}
use Rattle.tb_wire.specs.Field.{entry_of}
use Rattle.osm_elements.proofs.Slots.{field_numbers-only, found_numbers-only}
use Rattle.osm_elements.proofs.DenseGroups.{put_start, put_none, put_end, put_step, ids_refused, lats_refused, lons_refused, pairs_refused, four_stops, wire_stops}
use Rattle.osm_elements.proofs.dense.Dense.put.Goals as goal

pub loop-field-init : goal.loop-field-init
loop-field-init c = record { within = omega arith; told = put_start c.args.message.now c.args.self.now }

pub returns-in_err-field : goal.returns-in_err-field
returns-in_err-field c =
    wire_stops c.args.self.now c.loop-field.self c.from_residual.result c.in_err-field.field-0.0 c.args.message.now c.from_residual.ensures.1 c.in_err-field.ensures.exact.0 (put_none c.args.message.now c.args.self.now c.loop-field.self c.loop-field.at c.loop-field.invariant.told c.loop-field.invariant.within c.in_err-field.ensures.exact.1 c.in_err-field.ensures.exact.2)

pub returns-in_err-put_field : goal.returns-in_err-put_field
returns-in_err-put_field c =
    four_stops c.args.self.now (record { ids = c.put_field.new.self; lats = c.loop-field.self.lats; lons = c.loop-field.self.lons; pairs = c.loop-field.self.pairs }) c.from_residual-in_err-put_field.result c.in_err-put_field.field-0.0 (if_numbered some_numbers 1 (entry_of c.in-Some.field)) c.args.message.now c.from_residual-in_err-put_field.ensures.1 (c.in_err-put_field.ensures {u = tt})
    (field_numbers-only 1 (entry_of c.in-Some.field)) (ids_refused c.args.message.now c.args.self.now c.loop-field.self c.loop-field.at c.loop-field.invariant.told c.loop-field.invariant.within c.in-Some.field (rw c.in-Some.is at c.in_ok-field.ensures.exact))

pub returns-in_err-put_field-2 : goal.returns-in_err-put_field-2
returns-in_err-put_field-2 c =
    four_stops c.args.self.now (record { ids = c.put_field.new.self; lats = c.put_field-in-Some.new.self; lons = c.loop-field.self.lons; pairs = c.loop-field.self.pairs }) c.from_residual-in_err-put_field-2.result c.in_err-put_field-2.field-0.0 (if_numbered some_numbers 8 (entry_of c.in-Some.field)) c.args.message.now c.from_residual-in_err-put_field-2.ensures.1 (c.in_err-put_field-2.ensures {u = tt})
    (field_numbers-only 8 (entry_of c.in-Some.field)) (lats_refused c.args.message.now c.args.self.now c.loop-field.self c.loop-field.at c.loop-field.invariant.told c.loop-field.invariant.within c.in-Some.field (rw c.in-Some.is at c.in_ok-field.ensures.exact))

pub returns-in_err-put_field-3 : goal.returns-in_err-put_field-3
returns-in_err-put_field-3 c =
    four_stops c.args.self.now (record { ids = c.put_field.new.self; lats = c.put_field-in-Some.new.self; lons = c.put_field-in-Some-2.new.self; pairs = c.loop-field.self.pairs }) c.from_residual-in_err-put_field-3.result c.in_err-put_field-3.field-0.0 (if_numbered some_numbers 9 (entry_of c.in-Some.field)) c.args.message.now c.from_residual-in_err-put_field-3.ensures.1 (c.in_err-put_field-3.ensures {u = tt})
    (field_numbers-only 9 (entry_of c.in-Some.field)) (lons_refused c.args.message.now c.args.self.now c.loop-field.self c.loop-field.at c.loop-field.invariant.told c.loop-field.invariant.within c.in-Some.field (rw c.in-Some.is at c.in_ok-field.ensures.exact))

pub returns-in_err-put_numbers : goal.returns-in_err-put_numbers
returns-in_err-put_numbers c =
    four_stops c.args.self.now (record { ids = c.put_field.new.self; lats = c.put_field-in-Some.new.self; lons = c.put_field-in-Some-2.new.self; pairs = c.put_numbers.new.out }) c.from_residual-in_err-put_numbers.result c.in_err-put_numbers.field-0.0 _ c.args.message.now c.from_residual-in_err-put_numbers.ensures.1 (c.in_err-put_numbers.ensures {u = tt})
    (found_numbers-only c.loop-field.self.pairs.items 10 (entry_of c.in-Some.field)) (pairs_refused c.args.message.now c.args.self.now c.loop-field.self c.loop-field.at c.loop-field.invariant.told c.loop-field.invariant.within c.in-Some.field (rw c.in-Some.is at c.in_ok-field.ensures.exact))

pub loop-field-preserved : goal.loop-field-preserved
loop-field-preserved c = record {
  within = (rw c.in-Some.is at c.in_ok-field.ensures.within).1;
  told = put_step c.args.message.now c.args.self.now c.loop-field.self c.loop-field.at c.loop-field.invariant.told c.loop-field.invariant.within c.in-Some.field (rw c.in-Some.is at c.in_ok-field.ensures.exact) (record { ids = c.put_field.new.self; lats = c.put_field-in-Some.new.self; lons = c.put_field-in-Some-2.new.self; pairs = c.put_numbers.new.out }) tt (c.in_ok-put_field.ensures {u = tt}) (c.in_ok-put_field-2.ensures {u = tt}) (c.in_ok-put_field-3.ensures {u = tt}) (c.in_ok-put_numbers.ensures {u = tt});
}

pub returns : goal.returns
returns c = put_end c.args.message.now c.args.self.now c.loop-field.self c.loop-field.at c.loop-field.invariant.told c.loop-field.invariant.within (rw c.in_default.is at c.in_ok-field.ensures.exact) tt
