use Rattle.std.proofs.Common.{◌≡◌, ◌-◌, ◌≤◌, [], length}
use Rattle.mvt_codec.specs.Grammar.{names_of, tile_from}
use Rattle.mvt_codec.proofs.read_tile.decode_tile.Given as goal

-- the layers so far, and those of the fields that are left, are all
abbrev pub invariant-loop-turn : goal.invariant-loop-turn
invariant-loop-turn l = record {
  within : l.at ≤ length l.bytes;
  told : tile_from l.bytes (length l.bytes - l._turn) l.layers l.at ≡ tile_from l.bytes (length l.bytes) [] 0;
  names : l.names ≡ names_of l.layers;
}
