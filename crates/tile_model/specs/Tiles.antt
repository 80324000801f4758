-- The tiles of a build: of all tiles of its zooms those that have rows.
use Rattle.std.specs.Prelude.{◌≡◌, ◌≢◌, ◌↔◌, ℕ, ◌+◌, ◌-◌, ◌^◌, ◌<◌, true, is_some, List, map, filter_map, flat_map, AllPairs, Contains}
use Rattle.std.specs.List.{range_with_len}
use Rattle.tb_types.specs.Bags.{below}
use Rattle.tb_types.specs.declared.tile.TileXyz.{TileXyz}
use Rattle.sorted_lists.specs.Sorting.{sorted_by, by_rank}
use Rattle.hilbert_ids.specs.Ids.{number_of}
use Rattle.mvt_codec.specs.declared.item.RunItem.{RunItem}
use Rattle.tile_model.specs.Walks.{by_tile, rows_in, tiles_of}
use Rattle.tile_model.specs.Keys.{item_less}
use Rattle.tile_model.specs.Features.{Feature, item_at}

-- a tile of a zoom
pub record IsTileAt (z : ℕ) (tile : TileXyz) : Type 0 where
  pub zoom : tile.z ≡ z
  pub column : tile.x < 2 ^ z
  pub row : tile.y < 2 ^ z

-- the zooms from one to another
abbrev pub zooms : ℕ → ℕ → List ℕ
zooms min max = range_with_len min (max + 1 - min)

-- the tiles of a zoom in these columns and rows, column after column
abbrev pub tiles_in : ℕ → List ℕ → List ℕ → List TileXyz
tiles_in z columns rows = flat_map (λ x. map (λ y. record { z = z; x = x; y = y }) rows) columns

-- the tiles of a zoom
abbrev pub tiles_at : ℕ → List TileXyz
tiles_at z = tiles_in z (below (2 ^ z)) (below (2 ^ z))

-- the tiles from a zoom to another, by ascending id
unfoldable pub tiles_between : ℕ → ℕ → List TileXyz
tiles_between min max = sorted_by (by_rank number_of) (flat_map tiles_at (zooms min max))

-- the rows of a tile, each with its key: of all features those with a row there, in order
abbrev pub rows_of : List Feature → TileXyz → List RunItem
rows_of features tile = rows_in item_less item_at features tile

-- Of all tiles from a zoom to another, by ascending id, each that has a row: its id and its rows.
abbrev pub built_tiles : List Feature → ℕ → ℕ → List (ℕ × List RunItem)
built_tiles features min max = tiles_of item_less number_of item_at features (tiles_between min max)

-- all items of these tiles, tile after tile, in the order of the features
abbrev pub built_items : List Feature → ℕ → ℕ → List RunItem
built_items features min max = by_tile item_at features (tiles_between min max)

-- Of the tiles of a zoom, a list has just those in which a feature has a row, each once, in any order.
pub record IsTold (f : Feature) (z : ℕ) (tiles : List TileXyz) : Type 0 where
  pub once : AllPairs (λ s t. s ≢ t) tiles
  pub just : (t : TileXyz) → Contains tiles t ↔ (IsTileAt z t × (is_some (f.row t) ≡ true))

-- The items of a feature, zoom after zoom; and those of features, one behind another, as a pass emits them.
abbrev pub zoom_items : Feature → ℕ → List RunItem
zoom_items f z = filter_map (item_at f) (tiles_at z)

abbrev pub feature_items : Feature → List RunItem
feature_items f = flat_map (zoom_items f) (zooms f.min f.max)

abbrev pub emitted_items : List Feature → List RunItem
emitted_items features = flat_map feature_items features
