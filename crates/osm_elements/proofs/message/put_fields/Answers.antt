use Rattle.std.proofs.Common.{sym, arith}
use Rattle.osm_elements.proofs.Prefixes.{field_read, no_field, all_fields}
use Rattle.tb_wire.proofs.Messages.{field_at-end}
use Rattle.osm_elements.proofs.message.put_fields.Goals as goal

pub loop-at-preserved : goal.loop-at-preserved
loop-at-preserved c =
    let bytes = c.args.bytes.now in
    let read = rw c.in-Ok-Some.field-0-is at c.in-Ok-Some.ensures.exact in
    let place = rw c.in-Ok-Some.field-0-is at c.in-Ok-Some.ensures.within in
    record {
      within = place.1;
      told = rw c.in_ok-push-in-Ok-Some.ensures.items (field_read bytes c.loop-at.at c.loop-at.out.items c.in-Ok-Some.field _ c.loop-at.invariant.within read c.loop-at.invariant.told);
    }

pub returns-in-Err : goal.returns-in-Err
returns-in-Err c = no_field c.args.bytes.now c.loop-at.at _ _ c.in-Err.field-0 c.loop-at.invariant.within c.in-Err.ensures.exact c.loop-at.invariant.told

pub returns-after-loop-at : goal.returns-after-loop-at
returns-after-loop-at c =
    let bytes = c.args.bytes.now in
    all_fields bytes c.loop-at.at _ _ c.loop-at.invariant.within (sym (field_at-end bytes c.loop-at.at (omega arith))) c.loop-at.invariant.told

pub returns-in-Ok-None : goal.returns-in-Ok-None
returns-in-Ok-None c =
    all_fields c.args.bytes.now c.loop-at.at _ _ c.loop-at.invariant.within (rw c.in-Ok-None.field-0-is at c.in-Ok-None.ensures.exact) c.loop-at.invariant.told
