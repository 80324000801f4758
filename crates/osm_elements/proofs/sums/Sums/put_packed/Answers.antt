use Rattle.std.proofs.Common.{arith}
use Rattle.osm_elements.proofs.Summing.{packed_next, packed_stops, packed_end}
use Rattle.osm_elements.proofs.sums.Sums.put_packed.Goals as goal

pub loop-at-preserved : goal.loop-at-preserved
loop-at-preserved g c = record {
  within = c.in-Ok.ensures.within.1;
  told = packed_next g.T.Summed.made c.args.bytes.now c.args.self.now c.loop-at.self c.loop-at.at c.loop-at.invariant.told c.put.new.self c.in-Ok.difference c.in-Ok.next tt (omega (arith, c.loop-at-test.true)) c.in-Ok.ensures.exact (c.in_ok-put-in-Ok.ensures {u = tt});
}

pub returns-in-Err : goal.returns-in-Err
returns-in-Err g c =
    packed_stops g.T.Summed.made c.args.bytes.now c.args.self.now c.loop-at.self c.loop-at.at c.loop-at.invariant.told c.in-Err.field-0 (omega (arith, c.loop-at-test.true)) c.in-Err.ensures.exact

pub returns : goal.returns
returns g c =
    packed_end g.T.Summed.made c.args.bytes.now c.args.self.now c.loop-at.self c.loop-at.at c.loop-at.invariant.told tt (omega (arith, c.loop-at-test.false, c.loop-at.invariant.within))
