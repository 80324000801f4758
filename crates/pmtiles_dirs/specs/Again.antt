-- What is written is read again.
use Rattle.std.specs.Prelude.{◌≡◌, ◌^◌, ◌<◌, Some, List, length}
use Rattle.pmtiles_dirs.specs.declared.entry.DirEntry.{DirEntry}
use Rattle.pmtiles_dirs.specs.declared.header.Header.{Header}
use Rattle.pmtiles_dirs.specs.Directory.{IsDirectory, dir_text, dir_of}
use Rattle.pmtiles_dirs.specs.Header.{IsHeader, header_text, header_of}
use Rattle.pmtiles_dirs.specs.declared.meta.Meta.{Meta}
use Rattle.pmtiles_dirs.specs.Contents.{Tile, AreTiles, entries_of}
use Rattle.pmtiles_dirs.specs.Archive.{archive_text}
use Rattle.pmtiles_dirs.specs.Back.{read_back}

abbrev pub DirectoriesAreReadAgain : Type 0
DirectoriesAreReadAgain = (entries : List DirEntry) → IsDirectory entries → length entries < 2 ^ 64 → dir_of (dir_text entries) ≡ Some entries

abbrev pub HeadersAreReadAgain : Type 0
HeadersAreReadAgain = (h : Header) → IsHeader h → header_of (header_text h) ≡ h

-- Tiles by ascending ids, of 1 to 2^32 - 1 bytes each, are read back from their archive, where it has fewer than 2^35
-- entries and 2^64 bytes.
abbrev pub ArchivesAreReadBack : Type 0
ArchivesAreReadBack = (meta : Meta) (tiles : List Tile) → AreTiles 0 tiles → length (entries_of tiles) < 2 ^ 35 → length (archive_text meta tiles) < 2 ^ 64
    → read_back (archive_text meta tiles) ≡ Some tiles
