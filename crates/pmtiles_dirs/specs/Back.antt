-- The tiles that are read back from an archive.
use Rattle.std.specs.Prelude.{ℕ, zero, suc, ◌+◌, ◌==◌, if◌then◌else◌, Option, None, Some, Result, Ok, Err, List, [], ◌∷◌, flat_map}
use Rattle.pmtiles_dirs.specs.declared.fault.ArcFault.{ArcFault}
use Rattle.pmtiles_dirs.specs.declared.entry.DirEntry.{DirEntry}
use Rattle.pmtiles_dirs.specs.Contents.{Tile}
use Rattle.pmtiles_dirs.specs.Fault.{Opened, opened, content_at}

-- so many tiles of one content, from an id on
abbrev pub tiles_from : ℕ → ℕ → List ℕ → List Tile
tiles_from id zero bytes = []
tiles_from id (suc run) bytes = record { id = id; bytes = bytes } ∷ tiles_from (id + 1) run bytes

-- the tiles that an entry names
abbrev pub tiles_in : List ℕ → Opened → DirEntry → List Tile
tiles_in archive o e = tiles_from e.id e.run (content_at archive o e)

abbrev pub tiles_of : List ℕ → Opened → List Tile
tiles_of archive o = flat_map (tiles_in archive o) o.entries

abbrev pub back_of : List ℕ → Result Opened ArcFault → Option (List Tile)
back_of archive (Ok o) = Some (tiles_of archive o)
back_of archive (Err e) = None

-- all tiles of an archive in the order of their ids, or none where it has an open fault
unfoldable pub read_back : List ℕ → Option (List Tile)
read_back archive = back_of archive (opened archive)

-- the bytes of the first tile of an id
abbrev pub tile_at : List Tile → ℕ → Option (List ℕ)
tile_at [] id = None
tile_at (t ∷ tiles) id = if t.id == id then Some t.bytes else tile_at tiles id
