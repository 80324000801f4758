use Rattle.std.proofs.Common.{◌≡◌, None, ◌++◌, drop}
use Rattle.std.specs.Prelude.{flat_map}
use Rattle.tb_wire.specs.Varint.{encoding}
use Rattle.pmtiles_dirs.specs.Directory.{AreEntries, column, step_behind}
use Rattle.pmtiles_dirs.proofs.put.put_ids.Given as goal

abbrev pub invariant-loop-e : goal.invariant-loop-e
invariant-loop-e l = record {
  told : l.fn.out.items ++ flat_map encoding (column step_behind None l.entries) ≡ l.out.items ++ flat_map encoding (column step_behind l.before (drop l.e-index l.entries));
  are : AreEntries l.before (drop l.e-index l.entries);
}
