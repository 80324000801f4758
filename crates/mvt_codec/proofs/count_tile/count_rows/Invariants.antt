use Rattle.std.proofs.Common.{◌≡◌, ◌-◌, ◌*◌, ◌^◌, ◌≤◌, List, [], length}
use Rattle.mvt_codec.specs.declared.row.LayerRows.{LayerRows}
use Rattle.mvt_codec.specs.Grammar.{tile_from}
use Rattle.mvt_codec.specs.Counting.{AreCounted}
use Rattle.mvt_codec.proofs.count_tile.count_rows.Given as goal

-- the layers so far, and those of the fields that are left, are all
abbrev pub invariant-loop-turn : goal.invariant-loop-turn
invariant-loop-turn l =
    (layers : List LayerRows) × record {
      within : l.at ≤ length l.bytes;
      told : tile_from l.bytes (length l.bytes - l._turn) layers l.at ≡ tile_from l.bytes (length l.bytes) [] 0;
      counted : AreCounted layers l.names l.rows;
      small : l.rows ≤ l._turn * 2 ^ 64;
    }
