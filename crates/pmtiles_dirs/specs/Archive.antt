-- The whole text of an archive: header, root, metadata, leaves and contents, without gaps (PMTiles 3).
use Rattle.std.specs.Prelude.{ℕ, ◌+◌, List, ◌++◌, length}
use Rattle.std.specs.List.{concat}
use Rattle.pmtiles_dirs.specs.declared.meta.Meta.{Meta}
use Rattle.pmtiles_dirs.specs.declared.bounds.MapBounds.{MapBounds}
use Rattle.pmtiles_dirs.specs.declared.header.Header.{Header}
use Rattle.pmtiles_dirs.specs.declared.sizes.Sizes.{Sizes}
use Rattle.pmtiles_dirs.specs.Header.{header_len, header_text}
use Rattle.pmtiles_dirs.specs.Bounds.{bounds_of, middle}
use Rattle.pmtiles_dirs.specs.Meta.{metadata_text}
use Rattle.pmtiles_dirs.specs.Leaves.{Plan, plan_of}
use Rattle.pmtiles_dirs.specs.Contents.{Tile, contents_of, entries_of}

-- the header of a map: one section stands behind another, nothing is compressed, and the tiles are vector tiles
abbrev pub header_in : MapBounds → ℕ → ℕ → Sizes → Header
header_in b min max s = record {
  root_at = header_len;
  root_len = s.root_len;
  meta_at = header_len + s.root_len;
  meta_len = s.meta_len;
  leaves_at = header_len + s.root_len + s.meta_len;
  leaves_len = s.leaves_len;
  tiles_at = header_len + s.root_len + s.meta_len + s.leaves_len;
  tiles_len = s.tiles_len;
  addressed = s.tile_count;
  entries = s.entry_count;
  contents = s.content_count;
  clustered = 1;
  internal_compression = 1;
  tile_compression = 1;
  tile_type = 1;
  min_zoom = min;
  max_zoom = max;
  min_lon = b.west;
  min_lat = b.south;
  max_lon = b.east;
  max_lat = b.north;
  centre_zoom = min;
  centre_lon = middle b.west b.east;
  centre_lat = middle b.south b.north;
}

abbrev pub map_header : Meta → Sizes → Header
map_header meta s = header_in (bounds_of meta.bounds) meta.min meta.max s

-- an archive from its parts
unfoldable pub text_of_parts : Header → Plan → List ℕ → List ℕ → List ℕ
text_of_parts header plan metadata contents = header_text header ++ (plan.root ++ (metadata ++ (plan.leaves ++ contents)))

abbrev pub sizes_of : Meta → List Tile → Sizes
sizes_of meta tiles = record {
  root_len = length (plan_of (entries_of tiles)).root;
  meta_len = length (metadata_text meta.name meta.layers);
  leaves_len = length (plan_of (entries_of tiles)).leaves;
  tiles_len = length (concat (contents_of tiles));
  tile_count = length tiles;
  entry_count = length (entries_of tiles);
  content_count = length (contents_of tiles);
}

-- how long the archive of such sizes is
abbrev pub length_of : Sizes → ℕ
length_of s = header_len + s.root_len + s.meta_len + s.leaves_len + s.tiles_len

-- the archive of a map's tiles, which are listed by ascending ids
unfoldable pub archive_text : Meta → List Tile → List ℕ
archive_text meta tiles = text_of_parts (map_header meta (sizes_of meta tiles)) (plan_of (entries_of tiles)) (metadata_text meta.name meta.layers) (concat (contents_of tiles))
