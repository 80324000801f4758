-- Worked cases: points in tiles, the order of keys, tiles that have rows.
use Rattle.std.specs.Prelude.{◌≡◌, ℕ, ◌==◌, ◌&&◌, if◌then◌else◌, ℤ, pos, negsuc, Bool, true, false, Option, None, Some, List, [], ◌∷◌, map}
use Rattle.tb_types.specs.declared.element.Kind.{Kind}
use Rattle.tb_types.specs.declared.element.Kind.TheVariants as kinds
use Rattle.tb_types.specs.declared.location.Grid.{Grid}
use Rattle.tb_types.specs.declared.shape.Shape.{Shape}
use Rattle.tb_types.specs.declared.shape.Shape.TheVariants.{Point}
use Rattle.tb_types.specs.declared.tile.TileXyz.{TileXyz}
use Rattle.hilbert_ids.specs.Ids.{number_of}
use Rattle.strip_clip.specs.Cuts.{cut_of}
use Rattle.mvt_codec.specs.declared.row.TileRow.{TileRow}
use Rattle.mvt_codec.specs.declared.item.RunItem.{RunItem}
use Rattle.sorted_lists.specs.Grouping.{grouped_by}
use Rattle.sorted_lists.specs.Sorting.{sorted_by}
use Rattle.tile_model.specs.Keys.{item_less, tile_of}
use Rattle.tile_model.specs.Features.{Feature}
use Rattle.tile_model.specs.Tiles.{tiles_between, built_tiles, emitted_items}
use Rattle.tile_model.specs.Points.{point_ints}
use Rattle.tile_model.specs.Rows.{feature_id}
use Rattle.tile_model.specs.World.{grid_point}

abbrev pub tile : ℕ → ℕ → ℕ → TileXyz
tile z x y = record { z = z; x = x; y = y }

abbrev pub grid_at : ℕ → ℕ → Grid
grid_at x y = record { x = pos x; y = pos y }

-- what is left of a point in a tile
abbrev pub left : ℕ → Grid → TileXyz → Option Shape
left buffer p t = cut_of t buffer (Point p)

abbrev pub shown : ℤ → ℤ → Option Shape
shown x y = Some (Point (record { x = x; y = y }))

-- Points of zoom 1, whose grid is 8192 wide, and of zoom 14. The corner that four tiles share stands in all four, also without a
-- buffer; a point one unit past a bound needs one; the far edge belongs to the last tile, and no tile lies beyond it.
pub record WorkedPoints : Type 0 where
  pub corner : map (left 0 (grid_at 4096 4096)) (tile 1 0 0 ∷ tile 1 0 1 ∷ tile 1 1 1 ∷ tile 1 1 0 ∷ [])
      ≡ shown (pos 4096) (pos 4096) ∷ shown (pos 4096) (pos 0) ∷ shown (pos 0) (pos 0) ∷ shown (pos 0) (pos 4096) ∷ []
  pub buffered : map (left 64 (grid_at 4160 4032)) (tile 1 0 0 ∷ tile 1 0 1 ∷ tile 1 1 1 ∷ tile 1 1 0 ∷ [])
      ≡ shown (pos 4160) (pos 4032) ∷ shown (pos 4160) (negsuc 63) ∷ shown (pos 64) (negsuc 63) ∷ shown (pos 64) (pos 4032) ∷ []
  pub past : map (left 64 (grid_at 4161 4031)) (tile 1 0 0 ∷ tile 1 0 1 ∷ tile 1 1 1 ∷ tile 1 1 0 ∷ []) ≡ None ∷ None ∷ None ∷ shown (pos 65) (pos 4031) ∷ []
  pub alone : map (left 0 (grid_at 4097 0)) (tile 1 0 0 ∷ tile 1 0 1 ∷ tile 1 1 1 ∷ tile 1 1 0 ∷ []) ≡ None ∷ None ∷ None ∷ shown (pos 1) (pos 0) ∷ []
  pub far_edge : left 0 (grid_at 67108864 67108864) (tile 14 16383 16383) ≡ shown (pos 4096) (pos 4096)
  pub far_grid : grid_point (record { x = 4294967295; y = 4294967295 }) 14 ≡ grid_at 67108864 67108864
  pub ids : feature_id kinds.Node (pos 7) ∷ feature_id kinds.Way (pos 7) ∷ feature_id kinds.Relation (pos 7) ∷ feature_id kinds.Node (pos 0) ∷ feature_id kinds.Node (negsuc 6) ∷ []
      ≡ 71 ∷ 72 ∷ 73 ∷ 0 ∷ 0 ∷ []
  pub last_id : feature_id kinds.Node (pos 1844674407370955161) ∷ feature_id kinds.Node (pos 1844674407370955162) ∷ [] ≡ 18446744073709551611 ∷ 0 ∷ []
  pub ints : point_ints (record { x = negsuc 63; y = pos 4160 }) ≡ 9 ∷ 127 ∷ 8320 ∷ []

-- a row of this id, without attributes
abbrev pub row_of : ℕ → TileRow
row_of id = record { id = id; form = 1; ints = []; attributes = [] }

abbrev pub is_tile : TileXyz → TileXyz → Bool
is_tile s t = (s.z == t.z) && ((s.x == t.x) && (s.y == t.y))

abbrev pub is_one_of : List TileXyz → TileXyz → Bool
is_one_of [] t = false
is_one_of (s ∷ tiles) t = if is_tile s t then true else is_one_of tiles t

-- a feature that has a row in some tiles: by its layer, order, kind, place and rule, and its zooms
abbrev pub feature : ℕ → ℤ → Kind → ℕ → ℕ → ℕ → ℕ → ℕ → List TileXyz → Feature
feature layer order kind block rule id min max tiles = record {
  layer = layer;
  order = order;
  kind = kind;
  place = record { block = block; index = 0 };
  rule = rule;
  min = min;
  max = max;
  row = λ t. if is_one_of tiles t then Some (row_of id) else None;
}

-- Six features at zooms 0 to 1. The last has a row in tile 0 of zoom 0, which is none of its zooms.
abbrev pub features : List Feature
features =
    feature 1 (pos 0) kinds.Node 1 0 11 0 1 (tile 0 0 0 ∷ tile 1 1 0 ∷ []) ∷ feature 0 (pos 5) kinds.Node 1 1 12 0 0 (tile 0 0 0 ∷ []) ∷ feature 0 (negsuc 4) kinds.Relation 3 0 13 0 0 (tile 0 0 0 ∷ [])
    ∷ feature 0 (negsuc 4) kinds.Way 9 0 14 0 0 (tile 0 0 0 ∷ []) ∷ feature 0 (negsuc 4) kinds.Way 9 1 15 0 0 (tile 0 0 0 ∷ []) ∷ feature 0 (negsuc 4) kinds.Way 8 7 16 0 0 (tile 0 0 0 ∷ [])
    ∷ feature 0 (pos 0) kinds.Node 7 0 17 1 1 (tile 0 0 0 ∷ tile 1 0 1 ∷ tile 1 1 0 ∷ []) ∷ []

abbrev pub ids_of : List (ℕ × List RunItem) → List (ℕ × List ℕ)
ids_of groups = map (λ g. (g.0, map (λ (item : RunItem). item.row.id) g.1)) groups

-- Rows stand by layer, order, kind, place and rule; tiles stand by their ids, those without rows are left out.
pub record WorkedTiles : Type 0 where
  pub ids : map number_of (tiles_between 0 2) ≡ 0 ∷ 1 ∷ 2 ∷ 3 ∷ 4 ∷ 5 ∷ 6 ∷ 7 ∷ 8 ∷ 9 ∷ 10 ∷ 11 ∷ 12 ∷ 13 ∷ 14 ∷ 15 ∷ 16 ∷ 17 ∷ 18 ∷ 19 ∷ 20 ∷ []
  pub none : tiles_between 2 1 ≡ []
  pub rows : ids_of (built_tiles features 0 1) ≡ (0, 16 ∷ 14 ∷ 15 ∷ 13 ∷ 12 ∷ 11 ∷ []) ∷ (2, 17 ∷ []) ∷ (4, 17 ∷ 11 ∷ []) ∷ []
  pub emitted : map (λ (item : RunItem). item.row.id) (emitted_items features) ≡ 11 ∷ 11 ∷ 12 ∷ 13 ∷ 14 ∷ 15 ∷ 16 ∷ 17 ∷ 17 ∷ []
  pub walk : ids_of (grouped_by tile_of (sorted_by item_less (emitted_items features))) ≡ ids_of (built_tiles features 0 1)
  -- of zoom 1 alone
  pub upper : ids_of (built_tiles features 1 1) ≡ (2, 17 ∷ []) ∷ (4, 17 ∷ 11 ∷ []) ∷ []
