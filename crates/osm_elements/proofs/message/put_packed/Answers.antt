use Rattle.std.proofs.Common.{arith}
use Rattle.osm_elements.proofs.Prefixes.{number_read, no_number, all_numbers}
use Rattle.osm_elements.proofs.message.put_packed.Goals as goal

pub loop-at-preserved : goal.loop-at-preserved
loop-at-preserved c = record {
  within = c.in-Ok.ensures.within.1;
  told = rw c.in_ok-push-in-Ok.ensures.items (number_read c.args.bytes.now c.loop-at.at c.loop-at.out.items c.in-Ok.number c.in-Ok.next _ (omega arith) c.in-Ok.ensures.exact c.loop-at.invariant.told);
}

pub returns-in-Err : goal.returns-in-Err
returns-in-Err c = no_number c.args.bytes.now c.loop-at.at _ _ c.in-Err.field-0 (omega arith) c.in-Err.ensures.exact c.loop-at.invariant.told

pub returns : goal.returns
returns c = all_numbers c.args.bytes.now c.loop-at.at _ _ (omega (arith, c.loop-at.invariant.within)) c.loop-at.invariant.told
