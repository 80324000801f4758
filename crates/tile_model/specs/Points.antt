-- Points in tiles: what a rule makes of a node (Mapbox Vector Tile 2.1, section 4).
use Rattle.std.specs.Prelude.{◌≡◌, ◌≢◌, ◌↔◌, ℕ, ◌+◌, ◌-◌, ◌*◌, ◌^◌, ◌<◌, ◌≤◌, ◌&&◌, nat_le, unsigned_abs, option_and_then, if◌then◌else◌, true, is_some, ℤ, pos, Option, None, Some, List, [], ◌∷◌, map, flat_map, AllPairs, Contains}
use Rattle.std.specs.List.{range_with_len}
use Rattle.tb_types.specs.Zigzag.{zigzag_of}
use Rattle.tb_types.specs.declared.element.Kind.TheVariants as kinds
use Rattle.tb_types.specs.declared.location.Grid.{Grid}
use Rattle.tb_types.specs.declared.location.LatLon.{LatLon}
use Rattle.tb_types.specs.declared.location.World.{World}
use Rattle.tb_types.specs.declared.shape.Shape.TheVariants.{Point}
use Rattle.tb_types.specs.declared.tile.TileXyz.{TileXyz}
use Rattle.osm_elements.specs.declared.element.NodeEl.{NodeEl}
use Rattle.osm_elements.specs.declared.element.Block.{Block}
use Rattle.int_mercator.specs.Places.{world_of, lat_limit, lon_limit}
use Rattle.profile_rules.specs.declared.parts.Parts.{Parts}
use Rattle.profile_rules.specs.declared.spec.Spec.{Spec}
use Rattle.profile_rules.specs.Features.{specs_of}
use Rattle.strip_clip.specs.Cuts.{cut_of, corner_of, relative, IsBetween}
use Rattle.mvt_codec.specs.declared.item.RunItem.{RunItem}
use Rattle.tile_model.specs.Features.{Feature, as_item}
use Rattle.tile_model.specs.Rows.{feature_id, shape_feature}
use Rattle.tile_model.specs.declared.world.Origin.{Origin}
use Rattle.tile_model.specs.World.{grid_point}
use Rattle.tile_model.specs.declared.world.WorldShape.TheVariants as worlds
use Rattle.tile_model.specs.Tiles.{IsTileAt, tiles_in}
use Rattle.tile_model.specs.declared.reach.Strips.{Strips}
use Rattle.tile_model.specs.declared.reach.Reach.{Reach}

-- a point counted from its tile's corner: MoveTo, once, and the way to it
abbrev pub point_ints : Grid → List ℕ
point_ints p = 9 ∷ zigzag_of p.x ∷ zigzag_of p.y ∷ []

-- the point of the world at a location, or none where that isn't on earth
abbrev pub projected : LatLon → Option World
projected at = if nat_le (unsigned_abs at.lat) lat_limit && nat_le (unsigned_abs at.lon) lon_limit then Some (world_of at.lat at.lon) else None

-- the point of a node, if it has a location
abbrev pub point_of : NodeEl → Option World
point_of n = option_and_then projected n.at

abbrev pub node_origin : ℕ → NodeEl → Origin
node_origin block n = record { kind = kinds.Node; place = record { block = block; index = n.index }; id = n.id }

-- what a spec makes of a node of a block at a point of the world
abbrev pub point_feature : Parts → ℕ → NodeEl → World → Spec → Feature
point_feature parts block n w spec = shape_feature parts (node_origin block n) (worlds.Point w) spec

-- its item in a tile of a zoom where it has one: the point counted from the tile's corner
abbrev pub point_item : Parts → ℕ → NodeEl → World → Spec → ℕ → TileXyz → RunItem
point_item parts block n w spec zoom tile = as_item (point_feature parts block n w spec) tile
    (record { id = feature_id kinds.Node n.id.0; form = 1; ints = point_ints (relative (corner_of tile) (grid_point w zoom)); attributes = spec.attributes })

abbrev pub if_placed : Parts → ℕ → NodeEl → Option World → List Feature
if_placed parts block n None = []
if_placed parts block n (Some w) = map (point_feature parts block n w) (specs_of parts n.tags kinds.Node)

-- the features of a node that has a location, in the order of its rules
abbrev pub node_features : Parts → ℕ → NodeEl → List Feature
node_features parts block n = if_placed parts block n (point_of n)

-- the features of the nodes of a block with its number
abbrev pub block_points : Parts → ℕ × Block → List Feature
block_points parts b = flat_map (node_features parts b.0) b.1.nodes

-- the features of all nodes, in file order
abbrev pub points_of : Parts → List (ℕ × Block) → List Feature
points_of parts blocks = flat_map (block_points parts) blocks

-- a point of a zoom's grid
pub record IsOnGrid (zoom : ℕ) (p : Grid) : Type 0 where
  pub x : IsBetween (pos 0) (pos (4096 * 2 ^ zoom)) p.x
  pub y : IsBetween (pos 0) (pos (4096 * 2 ^ zoom)) p.y

-- neighbouring columns or rows
abbrev pub strips : Strips → List ℕ
strips s = range_with_len s.first (s.last + 1 - s.first)

-- the tiles of a zoom where such columns and rows cross
abbrev pub reach_tiles : ℕ → Reach → List TileXyz
reach_tiles zoom reach = tiles_in zoom (strips reach.columns) (strips reach.rows)

-- Of the tiles of a zoom, a list has just those in which a point is left by the cut, each once.
pub record IsPointTold (zoom buffer : ℕ) (p : Grid) (tiles : List TileXyz) : Type 0 where
  pub once : AllPairs (λ s t. s ≢ t) tiles
  pub just : (t : TileXyz) → Contains tiles t ↔ (IsTileAt zoom t × (is_some (cut_of t buffer (Point p)) ≡ true))

-- one or two columns or rows of a zoom
pub record AreFew (zoom : ℕ) (s : Strips) : Type 0 where
  pub some : s.first ≤ s.last
  pub few : s.last ≤ s.first + 1
  pub low : s.last < 2 ^ zoom

-- Columns or rows are just those whose strips with the buffer hold a coordinate, which is counted from the grid's upper left corner.
pub record AreStrips (zoom buffer c : ℕ) (s : Strips) : Type 0 where
  pub just : (n : ℕ) → ((s.first ≤ n) × (n ≤ s.last)) ↔ ((n < 2 ^ zoom) × (4096 * n ≤ c + buffer) × (c ≤ 4096 * n + 4096 + buffer))
  pub few : AreFew zoom s

-- the same of a coordinate with its sign
abbrev pub HoldsAt : ℕ → ℕ → ℤ → Strips → Type 0
HoldsAt zoom buffer c s = (c ≡ pos (unsigned_abs c)) × AreStrips zoom buffer (unsigned_abs c) s
