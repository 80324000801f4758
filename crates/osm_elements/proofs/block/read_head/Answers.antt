use Rattle.std.proofs.Common.{Ok, map, ap, sym, ◌∙◌}
use Rattle.tb_types.specs.Results.{◌>>=◌}
use Rattle.osm_elements.specs.Heads.{some_strings, head_from}
use Rattle.osm_elements.proofs.Slots.{wire_on, last_step, last_stops, last_end, list_step, list_stops, list_end, list_none, some_strings-only}
use Rattle.osm_elements.proofs.MessageWalks.{head_read, head_without_strings, head_without_unit, head_without_lat, head_without_lon}
use Rattle.osm_elements.specs.Words.{seen_words}
use Rattle.osm_elements.proofs.block.read_head.Goals as goal

pub returns-in_err-field : goal.returns-in_err-field
returns-in_err-field c =
    wire_on _ c.from_residual.result c.in_err-field.field-0.0 _ c.from_residual.ensures.1 c.in_err-field.ensures.exact.0
    (ap (λ r. r >>= head_from) (head_without_strings c.args.raw.now
    (list_none some_strings some_strings-only 1 c.args.raw.now c.loop-strings.at c.loop-strings.invariant.within (seen_words c.loop-strings.strings.items) _ c.in_err-field.ensures.exact.1 c.in_err-field.ensures.exact.2 c.loop-strings.invariant.strings)))

pub returns-in_err-put_strings : goal.returns-in_err-put_strings
returns-in_err-put_strings c =
    list_stops some_strings some_strings-only 1 c.args.raw.now c.loop-strings.at c.loop-strings.invariant.within _ c.from_residual-in_err-put_strings.result c.in_err-put_strings.field-0.0 _ c.in-Some.field (rw c.in-Some.is at c.in_ok-field.ensures.exact)
    (seen_words c.loop-strings.strings.items) _ c.from_residual-in_err-put_strings.ensures.1 (c.in_err-put_strings.ensures {u = tt}) c.loop-strings.invariant.strings
    (λ h. ap (λ r. r >>= head_from) (head_without_strings c.args.raw.now h))

pub returns-in_err-unit : goal.returns-in_err-unit
returns-in_err-unit c =
    last_stops 17 c.args.raw.now c.loop-strings.at c.loop-strings.invariant.within _ c.from_residual-in_err-unit.result c.in_err-unit.field-0.0 _ c.in-Some.field (rw c.in-Some.is at c.in_ok-field.ensures.exact) c.loop-strings.unit _
    c.from_residual-in_err-unit.ensures.1 (c.in_err-unit.ensures {u = tt}) c.loop-strings.invariant.unit (λ h. ap (λ r. r >>= head_from) (head_without_unit c.args.raw.now h))

pub returns-in_err-lat : goal.returns-in_err-lat
returns-in_err-lat c =
    last_stops 19 c.args.raw.now c.loop-strings.at c.loop-strings.invariant.within _ c.from_residual-in_err-lat.result c.in_err-lat.field-0.0 _ c.in-Some.field (rw c.in-Some.is at c.in_ok-field.ensures.exact) c.loop-strings.lat _
    c.from_residual-in_err-lat.ensures.1 (c.in_err-lat.ensures {u = tt}) c.loop-strings.invariant.lat (λ h. ap (λ r. r >>= head_from) (head_without_lat c.args.raw.now h))

pub returns-in_err-lon : goal.returns-in_err-lon
returns-in_err-lon c =
    last_stops 20 c.args.raw.now c.loop-strings.at c.loop-strings.invariant.within _ c.from_residual-in_err-lon.result c.in_err-lon.field-0.0 _ c.in-Some.field (rw c.in-Some.is at c.in_ok-field.ensures.exact) c.loop-strings.lon _
    c.from_residual-in_err-lon.ensures.1 (c.in_err-lon.ensures {u = tt}) c.loop-strings.invariant.lon (λ h. ap (λ r. r >>= head_from) (head_without_lon c.args.raw.now h))

pub loop-strings-preserved : goal.loop-strings-preserved
loop-strings-preserved c = record {
  within = (rw c.in-Some.is at c.in_ok-field.ensures.within).1;
  strings = list_step some_strings some_strings-only 1 c.args.raw.now c.loop-strings.at c.loop-strings.invariant.within c.in-Some.field (rw c.in-Some.is at c.in_ok-field.ensures.exact) (seen_words c.loop-strings.strings.items) (seen_words c.put_strings.new.out.items) _
      (c.in_ok-put_strings.ensures {u = tt}) c.loop-strings.invariant.strings;
  unit = last_step 17 c.args.raw.now c.loop-strings.at c.loop-strings.invariant.within c.in-Some.field (rw c.in-Some.is at c.in_ok-field.ensures.exact) c.loop-strings.unit c.in_ok-unit.unit _ (c.in_ok-unit.ensures {u = tt}) c.loop-strings.invariant.unit;
  lat = last_step 19 c.args.raw.now c.loop-strings.at c.loop-strings.invariant.within c.in-Some.field (rw c.in-Some.is at c.in_ok-field.ensures.exact) c.loop-strings.lat c.in_ok-lat.lat _ (c.in_ok-lat.ensures {u = tt}) c.loop-strings.invariant.lat;
  lon = last_step 20 c.args.raw.now c.loop-strings.at c.loop-strings.invariant.within c.in-Some.field (rw c.in-Some.is at c.in_ok-field.ensures.exact) c.loop-strings.lon c.in_ok-lon.lon _ (c.in_ok-lon.ensures {u = tt}) c.loop-strings.invariant.lon;
}

pub returns : goal.returns
returns c =
    ap (λ r. r >>= head_from) (head_read c.args.raw.now _ _ _ _
    (list_end some_strings some_strings-only 1 c.args.raw.now c.loop-strings.at c.loop-strings.invariant.within (seen_words c.loop-strings.strings.items) _ (rw c.in_default.is at c.in_ok-field.ensures.exact) c.loop-strings.invariant.strings)
    (last_end 17 c.args.raw.now c.loop-strings.at c.loop-strings.invariant.within c.loop-strings.unit _ (rw c.in_default.is at c.in_ok-field.ensures.exact) c.loop-strings.invariant.unit)
    (last_end 19 c.args.raw.now c.loop-strings.at c.loop-strings.invariant.within c.loop-strings.lat _ (rw c.in_default.is at c.in_ok-field.ensures.exact) c.loop-strings.invariant.lat)
    (last_end 20 c.args.raw.now c.loop-strings.at c.loop-strings.invariant.within c.loop-strings.lon _ (rw c.in_default.is at c.in_ok-field.ensures.exact) c.loop-strings.invariant.lon))
    ∙ ap (λ g. Ok (seen_words c.loop-strings.strings.items, g)) (sym c.granularity_from-granularity.ensures)
