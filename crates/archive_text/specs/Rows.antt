-- How many features the tiles of an archive have.
use Rattle.std.specs.Prelude.{ℕ, Bool, is_ok, Option, None, Some, unwrap_or, Result, Ok, Err, List}
use Rattle.mvt_codec.specs.declared.row.LayerRows.{LayerRows}
use Rattle.mvt_codec.specs.Grammar.{tile_of}
use Rattle.mvt_codec.specs.Counting.{rows_in_all}
use Rattle.pmtiles_dirs.specs.Contents.{Tile}

-- the bytes are a tile
abbrev pub is_tile : List ℕ → Bool
is_tile bytes = is_ok (tile_of bytes)

abbrev pub rows_read : Result (List LayerRows) ℕ → Option ℕ
rows_read (Ok layers) = Some (rows_in_all layers)
rows_read (Err at) = None

-- how many features bytes have, unless they are no tile
abbrev pub rows_of : List ℕ → Option ℕ
rows_of bytes = rows_read (tile_of bytes)

-- how many features a tile of an archive has
abbrev pub features_in : Tile → ℕ
features_in t = unwrap_or (rows_of t.bytes) 0
