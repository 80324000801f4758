-- Why bytes are no archive, and where: the first fault in a fixed order (PMTiles 3, sections 3 and 4).
use Rattle.std.specs.Prelude.{ℕ, zero, suc, ◌+◌, ◌==◌, Bool, nat_lt, nat_le, if◌then◌else◌, Option, None, Some, Result, Ok, Err, List, [], ◌∷◌, ◌++◌, length, take, slice_range}
use Rattle.std.specs.Str.{bytes_eq}
pub use Rattle.tb_types.specs.Results.{◌>>=◌}
use Rattle.pmtiles_dirs.specs.declared.fault.ArcWhy.{ArcWhy}
use Rattle.pmtiles_dirs.specs.declared.fault.ArcWhy.TheVariants as reasons
use Rattle.pmtiles_dirs.specs.declared.fault.ArcFault.{ArcFault}
use Rattle.pmtiles_dirs.specs.declared.entry.DirEntry.{DirEntry}
use Rattle.pmtiles_dirs.specs.declared.header.Header.{Header}
use Rattle.pmtiles_dirs.specs.Header.{header_len, header_of, byte_at, magic}
use Rattle.pmtiles_dirs.specs.Directory.{dir_of}

abbrev pub fault : ℕ → ArcWhy → ArcFault
fault place why = record { place = place; why = why }

-- nothing, or a fault where the test doesn't hold
abbrev pub ensured : Bool → ℕ → ArcWhy → Result ℕ ArcFault
ensured b place why = if b then Ok 0 else Err (fault place why)

-- a section ends within the archive; else the fault is at the place of its offset in the header
abbrev pub section_within : ℕ → ℕ → ℕ → ℕ → Result ℕ ArcFault
section_within size place at len = ensured (nat_le (at + len) size) place reasons.Section

-- the four sections: root, metadata, leaves and tiles
unfoldable pub sections_within : ℕ → Header → Result ℕ ArcFault
sections_within size h =
    section_within size 8 h.root_at h.root_len
    >>= λ _. section_within size 24 h.meta_at h.meta_len
    >>= λ _. section_within size 40 h.leaves_at h.leaves_len
    >>= λ _. section_within size 56 h.tiles_at h.tiles_len

-- the header, by the first 127 bytes and the size of an archive
unfoldable pub checked_header : List ℕ → ℕ → Result Header ArcFault
checked_header bytes size =
    ensured (bytes_eq (take 7 bytes) magic) 0 reasons.Magic
    >>= λ _. ensured (byte_at bytes 7 == 3) 7 reasons.Version
    >>= λ _. ensured (byte_at bytes 97 == 1) 97 reasons.Compressed
    >>= λ _. ensured (byte_at bytes 98 == 1) 98 reasons.Compressed
    >>= λ _. ensured (byte_at bytes 99 == 1) 99 reasons.TileType
    >>= λ _. sections_within size (header_of bytes)
    >>= λ _. Ok (header_of bytes)

abbrev pub read_header : List ℕ → Result Header ArcFault
read_header archive =
    if nat_lt (length archive) header_len then Err (fault (length archive) reasons.Short) else checked_header (take header_len archive) (length archive)

-- the entries that name tiles so far, and the least id that the next of them may have
pub record Walk : Type 0 where
  pub found : List DirEntry
  pub next : ℕ

-- an entry that names tiles: its ids are above those before it, and its bytes within their section
abbrev pub with_tiles : Header → DirEntry → Walk → Result Walk ArcFault
with_tiles h e walk =
    if nat_lt e.id walk.next then Err (fault e.id reasons.Order)
    else if nat_lt h.tiles_len (e.offset + e.len) then Err (fault e.id reasons.Section)
    else Ok (record { found = walk.found ++ e ∷ []; next = e.id + e.run })

-- an entry that names a leaf: its bytes are within their section, and the leaf is walked before the next entry
abbrev pub with_leaf : (ℕ → ℕ → Walk → Result Walk ArcFault) → Header → DirEntry → Walk → Result Walk ArcFault
with_leaf leaf h e walk =
    if nat_lt h.leaves_len (e.offset + e.len) then Err (fault e.id reasons.Section) else leaf (h.leaves_at + e.offset) e.len walk

abbrev pub with_entry : (ℕ → ℕ → Walk → Result Walk ArcFault) → Header → DirEntry → Walk → Result Walk ArcFault
with_entry leaf h e walk = if e.run == 0 then with_leaf leaf h e walk else with_tiles h e walk

-- the entries of a directory, one after another
abbrev pub walk_entries : (ℕ → ℕ → Walk → Result Walk ArcFault) → Header → List DirEntry → Walk → Result Walk ArcFault
walk_entries leaf h [] walk = Ok walk
walk_entries leaf h (e ∷ entries) walk = with_entry leaf h e walk >>= walk_entries leaf h entries

abbrev pub walk_found : (ℕ → ℕ → Walk → Result Walk ArcFault) → Header → ℕ → Option (List DirEntry) → Walk → Result Walk ArcFault
walk_found leaf h at None walk = Err (fault at reasons.Directory)
walk_found leaf h at (Some entries) walk = walk_entries leaf h entries walk

-- A directory at a place of the archive, with the leaves under it. It is one of so many levels; below the last of them
-- there may be none.
abbrev pub walk_dir : List ℕ → Header → ℕ → ℕ → ℕ → Walk → Result Walk ArcFault
walk_dir archive h zero at len walk = Err (fault at reasons.Depth)
walk_dir archive h (suc levels) at len walk = walk_found (walk_dir archive h levels) h at (dir_of (slice_range archive at (at + len))) walk

-- a root and three levels of leaves
abbrev pub most_levels : ℕ
most_levels = 4

abbrev pub no_walk : Walk
no_walk = record { found = []; next = 0 }

abbrev pub walk_root : List ℕ → Header → Result Walk ArcFault
walk_root archive h = walk_dir archive h most_levels h.root_at h.root_len no_walk

-- an archive that is open: where its tiles begin, and its entries that name tiles
pub record Opened : Type 0 where
  pub tiles_at : ℕ
  pub entries : List DirEntry

abbrev pub opened_from : Header → Walk → Opened
opened_from h walk = record { tiles_at = h.tiles_at; entries = walk.found }

-- the archive of bytes, or the first fault of its header and its directories
unfoldable pub opened : List ℕ → Result Opened ArcFault
opened archive = read_header archive >>= λ h. walk_root archive h >>= λ walk. Ok (opened_from h walk)

abbrev pub fault_of : {A : Type 0} → Result A ArcFault → Option ArcFault
fault_of (Ok x) = None
fault_of (Err e) = Some e

-- the first fault of an archive, apart from what its tiles are
abbrev pub open_fault : List ℕ → Option ArcFault
open_fault archive = fault_of (opened archive)

-- the bytes that an entry names
abbrev pub content_at : List ℕ → Opened → DirEntry → List ℕ
content_at archive o e = slice_range archive (o.tiles_at + e.offset) (o.tiles_at + e.offset + e.len)

-- the first entry whose content is no tile
abbrev pub tile_fault : (List ℕ → Bool) → List ℕ → Opened → List DirEntry → Option ArcFault
tile_fault is_tile archive o [] = None
tile_fault is_tile archive o (e ∷ entries) = if is_tile (content_at archive o e) then tile_fault is_tile archive o entries else Some (fault e.id reasons.Tile)

abbrev pub fault_in : (List ℕ → Bool) → List ℕ → Result Opened ArcFault → Option ArcFault
fault_in is_tile archive (Err e) = Some e
fault_in is_tile archive (Ok o) = tile_fault is_tile archive o o.entries

-- the first fault of an archive, where the test says of bytes whether they are a tile
abbrev pub archive_fault : (List ℕ → Bool) → List ℕ → Option ArcFault
archive_fault is_tile archive = fault_in is_tile archive (opened archive)
