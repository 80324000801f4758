-- Worked cases that the definitions were checked on.
use Rattle.std.specs.Prelude.{◌≡◌, ℕ, ◌==◌, None, Some, Option, List, [], ◌∷◌, ◌++◌, take, set, length, replicate, codes}
use Rattle.tb_types.specs.declared.attribute.FieldKind.{FieldKind}
use Rattle.tb_types.specs.declared.attribute.FieldKind.TheVariants as field_kinds
use Rattle.pmtiles_dirs.specs.declared.meta.Meta.{Meta}
use Rattle.pmtiles_dirs.specs.declared.entry.DirEntry.{DirEntry}
use Rattle.pmtiles_dirs.specs.declared.fault.ArcFault.{ArcFault}
use Rattle.pmtiles_dirs.specs.declared.fault.ArcWhy.{ArcWhy}
use Rattle.pmtiles_dirs.specs.declared.fault.ArcWhy.TheVariants as reasons
use Rattle.pmtiles_dirs.specs.Directory.{dir_text, dir_of}
use Rattle.pmtiles_dirs.specs.Contents.{Tile, contents_of, entries_of}
use Rattle.pmtiles_dirs.specs.declared.sizes.Sizes.{Sizes}
use Rattle.pmtiles_dirs.specs.Meta.{metadata_text}
use Rattle.pmtiles_dirs.specs.Leaves.{plan_by}
use Rattle.pmtiles_dirs.specs.Archive.{archive_text, text_of_parts, map_header}
use Rattle.pmtiles_dirs.specs.Fault.{fault, open_fault, archive_fault}
use Rattle.pmtiles_dirs.specs.Back.{read_back}

abbrev pub tile : ℕ → List ℕ → Tile
tile id bytes = record { id = id; bytes = bytes }

-- tiles 5, 6, 7 and 9 are equal, tile 8 is another
abbrev pub equal_tiles : List Tile
equal_tiles = tile 5 (replicate 10 1) ∷ tile 6 (replicate 10 1) ∷ tile 7 (replicate 10 1) ∷ tile 8 (replicate 20 2) ∷ tile 9 (replicate 10 1) ∷ []

abbrev pub nodes_meta : Meta
nodes_meta = record { name = codes "map"; layers = record { id = codes "nodes"; fields = (codes "amenity", field_kinds.Text) ∷ [] } ∷ []; min = 0; max = 0; bounds = None }

abbrev pub archive_of : List Tile → List ℕ
archive_of tiles = archive_text nodes_meta tiles

-- the archive of equal tiles with one byte changed
abbrev pub changed : ℕ → ℕ → List ℕ
changed at byte = set (archive_of equal_tiles) at byte

abbrev pub faulty : ℕ → ArcWhy → Option ArcFault
faulty place why = Some (fault place why)

abbrev pub no_entries : Option (List DirEntry)
no_entries = None

-- an archive of a root, leaves and tile contents, without metadata
abbrev pub sizes_in : List ℕ → List ℕ → List ℕ → Sizes
sizes_in root leaves tiles = record { root_len = length root; meta_len = 0; leaves_len = length leaves; tiles_len = length tiles; tile_count = 0; entry_count = 0; content_count = 0 }

abbrev pub built : List ℕ → List ℕ → List ℕ → List ℕ
built root leaves tiles = text_of_parts (map_header nodes_meta (sizes_in root leaves tiles)) (record { root = root; leaves = leaves }) [] tiles

-- a directory with one leaf of five bytes at the front of the leaves
abbrev pub to_leaf : List ℕ
to_leaf = 1 ∷ 0 ∷ 0 ∷ 5 ∷ 1 ∷ []

-- a directory with two leaves of five bytes, of which the second has the id 3
abbrev pub to_two_leaves : List ℕ
to_two_leaves = 2 ∷ 0 ∷ 3 ∷ 0 ∷ 0 ∷ 5 ∷ 5 ∷ 1 ∷ 0 ∷ []

-- the greatest number of 64 bits, as a varint
abbrev pub greatest : List ℕ
greatest = replicate 9 255 ++ 1 ∷ []

-- fields of which one name has two kinds
abbrev pub both : List (List ℕ × FieldKind)
both = (codes "b", field_kinds.Number) ∷ (codes "a", field_kinds.Boolean) ∷ (codes "b", field_kinds.Boolean) ∷ []

pub record WorkedArchives : Type 0 where
  pub root : dir_text (entries_of equal_tiles) ≡ 3 ∷ 5 ∷ 3 ∷ 1 ∷ 3 ∷ 1 ∷ 1 ∷ 10 ∷ 20 ∷ 10 ∷ 1 ∷ 0 ∷ 1 ∷ []
  pub contents : length (contents_of equal_tiles) ≡ 2
  pub no_bytes : dir_of [] ≡ no_entries
  pub empty : dir_of (0 ∷ []) ≡ Some []
  pub one_entry : dir_of (1 ∷ 0 ∷ 1 ∷ 48 ∷ 1 ∷ []) ≡ Some (record { id = 0; run = 1; len = 48; offset = 0 } ∷ [])
  -- the first offset is written as 0, which is no offset
  pub first_follows : dir_of (1 ∷ 0 ∷ 1 ∷ 10 ∷ 0 ∷ []) ≡ no_entries
  pub no_len : dir_of (1 ∷ 0 ∷ 1 ∷ 0 ∷ 1 ∷ []) ≡ no_entries
  pub left_over : dir_of (1 ∷ 0 ∷ 1 ∷ 48 ∷ 1 ∷ 0 ∷ []) ≡ no_entries
  pub without_tile : length (archive_of []) ≡ 205
  pub with_one : length (archive_of (tile 0 (replicate 48 7) ∷ [])) ≡ 257
  pub back : read_back (archive_of equal_tiles) ≡ Some equal_tiles
  pub whole : open_fault (archive_of equal_tiles) ≡ None
  pub short : open_fault (take 126 (archive_of equal_tiles)) ≡ faulty 126 reasons.Short
  pub magic : open_fault (changed 6 0) ≡ faulty 0 reasons.Magic
  pub version : open_fault (changed 7 2) ≡ faulty 7 reasons.Version
  pub tile_compressed : open_fault (changed 98 2) ≡ faulty 98 reasons.Compressed
  pub tile_type : open_fault (changed 99 0) ≡ faulty 99 reasons.TileType
  pub one_byte_less : open_fault (take 246 (archive_of equal_tiles)) ≡ faulty 56 reasons.Section
  pub directory : open_fault (changed 127 4) ≡ faulty 127 reasons.Directory
  pub order : open_fault (changed 129 2) ≡ faulty 7 reasons.Order
  pub section : open_fault (changed 136 31) ≡ faulty 9 reasons.Section
  -- 97 comes before 98
  pub both_compressed : open_fault (set (changed 98 2) 97 2) ≡ faulty 97 reasons.Compressed
  pub no_tile : archive_fault (λ bytes. length bytes == 10) (archive_of equal_tiles) ≡ faulty 8 reasons.Tile
  pub without_tile_back : read_back (archive_of []) ≡ Some []
  -- directories that are none
  pub cut : dir_of (1 ∷ 0 ∷ 1 ∷ 48 ∷ []) ≡ no_entries
  pub cut_between : dir_of (2 ∷ 0 ∷ 1 ∷ 1 ∷ 1 ∷ 48 ∷ 48 ∷ 1 ∷ []) ≡ no_entries
  pub many : dir_of (128 ∷ 128 ∷ 128 ∷ 128 ∷ 128 ∷ 128 ∷ 128 ∷ 128 ∷ 16 ∷ []) ≡ no_entries
  pub same_id : dir_of (2 ∷ 3 ∷ 0 ∷ 1 ∷ 1 ∷ 1 ∷ 1 ∷ 1 ∷ 0 ∷ []) ≡ no_entries
  pub long_run : dir_of (1 ∷ 0 ∷ 128 ∷ 128 ∷ 128 ∷ 128 ∷ 16 ∷ 1 ∷ 1 ∷ []) ≡ no_entries
  pub last_id : dir_of (1 ∷ greatest ++ 1 ∷ 1 ∷ 1 ∷ []) ≡ Some (record { id = 18446744073709551615; run = 1; len = 1; offset = 0 } ∷ [])
  pub past_last_id : dir_of (1 ∷ greatest ++ 2 ∷ 1 ∷ 1 ∷ []) ≡ no_entries
  pub past_last_place : dir_of (1 ∷ 0 ∷ 1 ∷ 2 ∷ greatest) ≡ no_entries
  -- a leaf that names itself lies too deep
  pub itself : open_fault (built to_leaf to_leaf []) ≡ faulty 132 reasons.Depth
  pub three_levels : read_back (built to_leaf (1 ∷ 0 ∷ 0 ∷ 5 ∷ 6 ∷ 1 ∷ 0 ∷ 0 ∷ 5 ∷ 11 ∷ 1 ∷ 4 ∷ 2 ∷ 1 ∷ 1 ∷ []) (7 ∷ [])) ≡ Some (tile 4 (7 ∷ []) ∷ tile 5 (7 ∷ []) ∷ [])
  pub empty_leaf : read_back (built (1 ∷ 0 ∷ 0 ∷ 1 ∷ 1 ∷ []) (0 ∷ []) []) ≡ Some []
  pub leaf_past_end : open_fault (built to_leaf (1 ∷ 0 ∷ 1 ∷ 1 ∷ []) (7 ∷ [])) ≡ faulty 0 reasons.Section
  pub no_leaf : open_fault (built to_leaf (1 ∷ 0 ∷ 1 ∷ 0 ∷ 1 ∷ []) (7 ∷ [])) ≡ faulty 132 reasons.Directory
  -- ids of one leaf and the next
  pub two_leaves : read_back (built to_two_leaves (1 ∷ 0 ∷ 2 ∷ 1 ∷ 1 ∷ 1 ∷ 3 ∷ 1 ∷ 1 ∷ 1 ∷ []) (7 ∷ [])) ≡ Some (tile 0 (7 ∷ []) ∷ tile 1 (7 ∷ []) ∷ tile 3 (7 ∷ []) ∷ [])
  pub overlap : open_fault (built to_two_leaves (1 ∷ 0 ∷ 4 ∷ 1 ∷ 1 ∷ 1 ∷ 3 ∷ 1 ∷ 1 ∷ 1 ∷ []) (7 ∷ [])) ≡ faulty 3 reasons.Order
  -- a leaf is read before the entry that follows its own, whose bytes pass their section
  pub leaf_first : open_fault (built (2 ∷ 0 ∷ 3 ∷ 0 ∷ 1 ∷ 5 ∷ 9 ∷ 1 ∷ 1 ∷ []) (replicate 5 9) (7 ∷ [])) ≡ faulty 136 reasons.Directory
  pub split : plan_by 2 (record { id = 1; run = 1; len = 1; offset = 0 } ∷ record { id = 3; run = 1; len = 1; offset = 1 } ∷ record { id = 7; run = 2; len = 1; offset = 0 } ∷ [])
      ≡ record { root = 2 ∷ 1 ∷ 6 ∷ 0 ∷ 0 ∷ 9 ∷ 5 ∷ 1 ∷ 0 ∷ []; leaves = 2 ∷ 1 ∷ 2 ∷ 1 ∷ 1 ∷ 1 ∷ 1 ∷ 1 ∷ 0 ∷ 1 ∷ 7 ∷ 2 ∷ 1 ∷ 1 ∷ [] }
  pub kinds : metadata_text (codes "m") (record { id = codes "l"; fields = both } ∷ []) ≡ codes "{\"name\":\"m\",\"vector_layers\":[{\"fields\":{\"a\":\"Boolean\",\"b\":\"String\"},\"id\":\"l\"}]}"
