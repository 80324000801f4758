-- The entries of an open archive, and the tile of an id.
use Rattle.std.specs.Prelude.{◌≡◌, ℕ, ◌+◌, ◌^◌, ◌<◌, ◌≤◌, ◌&&◌, Bool, nat_lt, nat_le, Option, Ok, List, [], ◌∷◌, find}
use Rattle.pmtiles_dirs.specs.declared.entry.DirEntry.{DirEntry}
use Rattle.pmtiles_dirs.specs.Directory.{IsEntry}
use Rattle.pmtiles_dirs.specs.Fault.{Opened, opened}

-- Entries that name tiles, the first of them from an id on: each covers an id, their ids are apart and ascend, and their
-- bytes end within 64 bits.
abbrev pub AreTiles : ℕ → ℕ → List DirEntry → Type 0
AreTiles tiles_at next [] = Unit {0}
AreTiles tiles_at next (e ∷ entries) = IsEntry e × (1 ≤ e.run) × (next ≤ e.id) × (tiles_at + e.offset + e.len < 2 ^ 64) × AreTiles tiles_at (e.id + e.run) entries

abbrev pub IsSound : Opened → Type 0
IsSound o = AreTiles o.tiles_at 0 o.entries

-- entries that cover ids which are apart and ascend, the first of them from an id on
abbrev pub AreApart : ℕ → List DirEntry → Type 0
AreApart next [] = Unit {0}
AreApart next (e ∷ entries) = (next ≤ e.id) × AreApart (e.id + e.run) entries

-- the entry covers the id
abbrev pub covers : ℕ → DirEntry → Bool
covers id e = nat_le e.id id && nat_lt id (e.id + e.run)

-- the entry that covers an id
abbrev pub covering_entry : List DirEntry → ℕ → Option DirEntry
covering_entry entries id = find (covers id) entries

-- the source tells the bytes of the archive that was opened
abbrev pub IsOpenedFrom : List ℕ → Opened → Type 0
IsOpenedFrom archive o = opened archive ≡ Ok o
