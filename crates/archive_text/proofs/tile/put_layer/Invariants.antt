use Rattle.std.proofs.Common.{◌≡◌, ◌++◌, flat_map, take}
use Rattle.archive_text.specs.Show.{row_text}
use Rattle.archive_text.proofs.tile.put_layer.Given as goal

abbrev pub invariant-loop-row : goal.invariant-loop-row
invariant-loop-row l = l.out ≡ l.initial.out ++ flat_map row_text (take l.row-index l.rows)
