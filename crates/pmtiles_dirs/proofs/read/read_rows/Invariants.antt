use Rattle.std.proofs.Common.{◌≡◌, None, drop}
use Rattle.pmtiles_dirs.specs.Directory.{entries_behind, rows}
use Rattle.pmtiles_dirs.proofs.Rows.{with_prefix}
use Rattle.pmtiles_dirs.proofs.read.read_rows.Given as goal

abbrev pub invariant-loop-i : goal.invariant-loop-i
invariant-loop-i l = with_prefix l.entries.items (entries_behind l.before (drop l.i (rows l.n l.columns))) ≡ entries_behind None (rows l.n l.columns)
