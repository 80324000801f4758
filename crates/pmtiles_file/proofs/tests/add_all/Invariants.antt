use Rattle.std.proofs.Common.{◌≤◌}
use Rattle.tb_outside.specs.Memory.{as_spill}
use Rattle.pmtiles_file.specs.Writing.{next_id, RunsStand}
use Rattle.pmtiles_file.proofs.tests.add_all.Given as goal

abbrev pub invariant-loop-id : goal.invariant-loop-id
invariant-loop-id l = record {
  next : next_id l.writer ≤ l.next;
  stand : RunsStand l.writer (as_spill l.spool).runs;
}
