-- The items of features, as a pass adds them.
use Rattle.std.specs.Prelude.{◌≡◌, ℕ, ◌<◌, ◌≤◌, true, List, ◌++◌, All, length, map}
use Rattle.std.specs.List.{AllByRecursion}
use Rattle.std.specs.List.Sorted.{IsPermutation}
use Rattle.tb_types.specs.declared.element.Kind.TheVariants as kinds
use Rattle.tb_types.specs.declared.location.Grid.{Grid}
use Rattle.tb_types.specs.declared.tile.TileXyz.{TileXyz}
use Rattle.osm_elements.specs.declared.element.NodeEl.{NodeEl}
use Rattle.profile_rules.specs.declared.parts.Parts.{Parts}
use Rattle.profile_rules.specs.declared.spec.Spec.{Spec}
use Rattle.profile_rules.specs.Fields.{layers_of}
use Rattle.strip_clip.specs.Cuts.{corner_of, relative}
use Rattle.hilbert_ids.specs.Ids.{number_of}
use Rattle.mvt_geom.specs.Commands.{has_form}
use Rattle.mvt_codec.specs.declared.item.RunItem.{RunItem}
use Rattle.mvt_codec.specs.Items.{tiles_end, Fits, IsNamed}
use Rattle.tile_model.specs.Points.{point_ints, strips}
use Rattle.tile_model.specs.Rows.{feature_id}
use Rattle.tile_model.specs.declared.reach.Strips.{Strips}

-- the item of a node of a block in a tile, by a spec, where its point is at a place of the tile's grid
abbrev pub item_in : ℕ → NodeEl → Spec → Grid → TileXyz → RunItem
item_in block n spec p tile = record {
  key = record { tile = number_of tile; layer = spec.layer; order = spec.order; kind = kinds.Node; place = record { block = block; index = n.index }; rule = spec.rule };
  row = record { id = feature_id kinds.Node n.id.0; form = 1; ints = point_ints (relative (corner_of tile) p); attributes = spec.attributes };
}

-- the tiles of a zoom in a column and some rows
abbrev pub column_tiles : ℕ → ℕ → Strips → List TileXyz
column_tiles zoom x rows = map (λ y. record { z = zoom; x = x; y = y }) (strips rows)

-- What passes make: an item of so many layers, which keeps to what stored items keep to but for its length.
pub record IsSoundItem (layers : ℕ) (item : RunItem) : Type 0 where
  pub layer : item.key.layer < layers
  pub tile : item.key.tile < tiles_end
  pub known : (1 ≤ item.row.form) × (item.row.form ≤ 3)
  pub form : has_form item.row.form item.row.ints ≡ true
  pub attributes : AllByRecursion IsNamed item.row.attributes
  pub types : Fits item

abbrev pub AreSound : Parts → List RunItem → Type 0
AreSound parts items = All (IsSoundItem (length (layers_of parts))) items

-- These items come behind the old ones, in any order, and they are sound.
pub record Gains (parts : Parts) (wanted old new : List RunItem) : Type 0 where
  pub more : List RunItem
  pub adds : new ≡ old ++ more
  pub same : IsPermutation wanted more
  pub sound : AreSound parts more
