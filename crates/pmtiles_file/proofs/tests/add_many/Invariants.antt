use Rattle.std.proofs.Common.{◌*◌, ◌≤◌}
use Rattle.tb_outside.specs.Memory.{as_spill}
use Rattle.pmtiles_file.specs.Writing.{next_id, RunsStand}
use Rattle.pmtiles_file.proofs.tests.add_many.Given as goal

abbrev pub invariant-loop-i : goal.invariant-loop-i
invariant-loop-i l = record {
  next : next_id l.writer ≤ l.i * 2;
  stand : RunsStand l.writer (as_spill l.spool).runs;
}
