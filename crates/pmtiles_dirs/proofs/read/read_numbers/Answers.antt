use Rattle.std.proofs.Common.{arith, subst}
use Rattle.pmtiles_dirs.specs.Directory.{IsFull}
use Rattle.pmtiles_dirs.proofs.Varints.{number_read, no_number, full_before_end, all_numbers}
use Rattle.pmtiles_dirs.proofs.read.read_numbers.Goals as goal

pub loop-at-preserved : goal.loop-at-preserved
loop-at-preserved c = record {
  within = c.in-Ok.ensures.within.1;
  told = rw c.in_ok-push-in-Ok.ensures.items (number_read c.args.bytes.now c.loop-at.at c.loop-at.numbers.items c.in-Ok.number c.in-Ok.next _ (omega arith) c.in-Ok.ensures.exact c.loop-at.invariant.told);
}

pub returns-in-Err-clause-none : goal.returns-in-Err-clause-none
returns-in-Err-clause-none c = no_number c.args.bytes.now c.loop-at.at _ c.in-Err.field-0 (omega arith) c.in-Err.ensures.exact c.loop-at.invariant.told

pub returns-then-is_full-clause-none : goal.returns-then-is_full-clause-none
returns-then-is_full-clause-none c = full_before_end c.args.bytes.now c.loop-at.at c.loop-at.numbers.items (omega arith) (subst IsFull c.deref.ensures.value (c.is_full.ensures c.if-is_full.true)) c.loop-at.invariant.told

pub returns-clause-some : goal.returns-clause-some
returns-clause-some c = rw c.from_vec.ensures (all_numbers c.args.bytes.now c.loop-at.at _ (omega (arith, c.loop-at.invariant.within)) c.loop-at.invariant.told)
