-- The contents that were read as tiles so far, each with the number of its features.
use Rattle.std.specs.Prelude.{◌≡◌, ℕ, ◌+◌, Option, None, Some, Result, Ok, Err, List, [], ◌∷◌, map, slice_range}
use Rattle.std.specs.Map.{lookup}
use Rattle.pmtiles_dirs.specs.declared.entry.DirEntry.{DirEntry}
use Rattle.pmtiles_dirs.specs.declared.fault.ArcFault.{ArcFault}
use Rattle.pmtiles_dirs.specs.declared.fault.ArcWhy.TheVariants as reasons
use Rattle.pmtiles_dirs.specs.Fault.{Opened, fault, content_at}
use Rattle.archive_text.specs.declared.span.Span.{Span}
use Rattle.archive_text.specs.Rows.{rows_of}
use Rattle.archive_text.specs.Spans.{is_same}

-- how many features a content has, if it was read
abbrev pub features_at : Span → List (Span × ℕ) → Option ℕ
features_at span counted = lookup (is_same span) counted

-- the contents that were read
abbrev pub spans_in : List (Span × ℕ) → List Span
spans_in counted = map (λ c. c.0) counted

-- the bytes of a content
abbrev pub bytes_at : List ℕ → Opened → Span → List ℕ
bytes_at archive o span = slice_range archive (o.tiles_at + span.offset) (o.tiles_at + span.offset + span.len)

-- each content has as many features as was noted
abbrev pub AreCounted : List ℕ → Opened → List (Span × ℕ) → Type 0
AreCounted archive o [] = Unit {0}
AreCounted archive o (c ∷ counted) = (rows_of (bytes_at archive o c.0) ≡ Some c.1) × AreCounted archive o counted

-- a number, or the fault of the entry with this id, whose content is no tile
abbrev pub tile_at_id : ℕ → Option ℕ → Result ℕ ArcFault
tile_at_id id (Some rows) = Ok rows
tile_at_id id None = Err (fault id reasons.Tile)

-- how many features each tile of an entry has
abbrev pub rows_due : List ℕ → Opened → DirEntry → Result ℕ ArcFault
rows_due archive o e = tile_at_id e.id (rows_of (content_at archive o e))
