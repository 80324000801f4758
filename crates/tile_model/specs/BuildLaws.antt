-- The laws by which the items of a build, emitted feature after feature, are its tiles once they are in order.
use Rattle.std.specs.Prelude.{◌≡◌, ℕ, ◌+◌, ◌-◌, ◌≤◌, List, map, filter_map, All}
use Rattle.std.specs.List.{range_with_len}
use Rattle.std.specs.List.Sorted.{IsSortedBy, IsPermutation}
use Rattle.sorted_lists.specs.Sorting.{sorted_by, KeysDiffer}
use Rattle.sorted_lists.specs.Grouping.{grouped_by, elements_of, AreGroups}
use Rattle.tb_types.specs.declared.tile.TileXyz.{TileXyz}
use Rattle.hilbert_ids.specs.Ids.{number_of, first_id_of, last_zoom}
use Rattle.mvt_codec.specs.declared.item.RunItem.{RunItem}
use Rattle.tile_model.specs.Keys.{item_less, tile_of}
use Rattle.tile_model.specs.Features.{Feature, name_of, item_at}
use Rattle.tile_model.specs.Tiles.{tiles_between, built_tiles, built_items, IsTold, zoom_items, emitted_items}

-- a feature's zooms are among those of the build
pub record IsWithin (min max : ℕ) (f : Feature) : Type 0 where
  pub first : min ≤ f.min
  pub last : f.max ≤ max

pub record BuildLaws : Type 0 where
  -- the tiles of zooms are all ids from the first of the lowest zoom up to the first of the zoom behind the last
  pub ids : (min max : ℕ) → min ≤ max → max ≤ last_zoom → map number_of (tiles_between min max) ≡ range_with_len (first_id_of min) (first_id_of (max + 1) - first_id_of min)
  -- what is emitted feature after feature, in whatever order the features are met, are the items of all tiles;
  pub emitted : (features met : List Feature) (min max : ℕ) → max ≤ last_zoom → All (IsWithin min max) features → IsPermutation features met
      → IsPermutation (built_items features min max) (emitted_items met)
  -- and of a feature at one of its zooms, the items in the tiles that are told, in whatever order, are its items there
  pub told_zoom : (f : Feature) (z : ℕ) (tiles : List TileXyz) → f.min ≤ z → z ≤ f.max → IsTold f z tiles → IsPermutation (zoom_items f z) (filter_map (item_at f) tiles)
  -- no two items have one key, where no two features have one name
  pub differ : (features : List Feature) (min max : ℕ) → max ≤ last_zoom → KeysDiffer name_of features → KeysDiffer (λ (item : RunItem). item.key) (built_items features min max)
  -- The items of all tiles, tile after tile, are all items, each once.
  pub kept : (features : List Feature) (min max : ℕ) → max ≤ last_zoom → IsPermutation (built_items features min max) (elements_of (built_tiles features min max))
  -- Items that are sorted by key and grouped by tile are the tiles: any list in order that has all items,
  pub grouped : (features : List Feature) (min max : ℕ) (items : List RunItem) → max ≤ last_zoom → KeysDiffer name_of features
      → IsPermutation (built_items features min max) items → IsSortedBy item_less items → grouped_by tile_of items ≡ built_tiles features min max
  -- any list that has all items, once it is put in order,
  pub sorted : (features : List Feature) (min max : ℕ) (items : List RunItem) → max ≤ last_zoom → KeysDiffer name_of features
      → IsPermutation (built_items features min max) items → grouped_by tile_of (sorted_by item_less items) ≡ built_tiles features min max
  -- and groups that are told one by one
  pub told : (features : List Feature) (min max : ℕ) (items : List RunItem) (groups : List (ℕ × List RunItem)) → max ≤ last_zoom → KeysDiffer name_of features
      → IsPermutation (built_items features min max) items → AreGroups item_less tile_of items groups → groups ≡ built_tiles features min max
