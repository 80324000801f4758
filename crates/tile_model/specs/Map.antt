-- The map of an extract by a profile: its features, its tiles, and what its archive says of it.
use Rattle.std.specs.Prelude.{ℕ, Option, List, [], ◌∷◌, map, flat_map}
use Rattle.std.specs.List.{enumerate_from}
use Rattle.tb_types.specs.declared.location.Bounds.{Bounds}
use Rattle.osm_elements.specs.declared.element.Block.{Block}
use Rattle.profile_rules.specs.declared.parts.LayerInfo.{LayerInfo}
use Rattle.profile_rules.specs.declared.parts.Parts.{Parts}
use Rattle.profile_rules.specs.Fields.{name_of, layers_of, fields_of}
use Rattle.mvt_codec.specs.declared.item.RunItem.{RunItem}
use Rattle.mvt_codec.specs.Groups.{text_of_items}
use Rattle.pmtiles_dirs.specs.declared.meta.Meta.{Meta}
use Rattle.pmtiles_dirs.specs.declared.meta.MetaLayer.{MetaLayer}
use Rattle.pmtiles_dirs.specs.Contents.{Tile}
use Rattle.tile_model.specs.Extract.{features_of}
use Rattle.tile_model.specs.Tiles.{built_tiles}
use Rattle.tile_model.specs.Contents.{Content, header, elements, unread}

-- the blocks of elements, each with its number
abbrev pub block_in : Content → List (ℕ × Block)
block_in (header box) = []
block_in (elements number block) = (number, block) ∷ []
block_in unread = []

abbrev pub blocks_in : List Content → List (ℕ × Block)
blocks_in contents = flat_map block_in contents

-- the names of all layers
abbrev pub layer_names : Parts → List (List ℕ)
layer_names parts = map (λ (layer : LayerInfo). layer.id) (layers_of parts)

-- a tile from its id and its rows, by the names of all layers
abbrev pub tile_from : List (List ℕ) → ℕ × List RunItem → Tile
tile_from names group = record { id = group.0; bytes = text_of_items names group.1 }

abbrev pub tiles_from : List (List ℕ) → List (ℕ × List RunItem) → List Tile
tiles_from names groups = map (tile_from names) groups

-- the rows of each tile of the profile's zooms that has any, by ascending id
abbrev pub groups_of : Parts → List Content → List (ℕ × List RunItem)
groups_of parts contents = built_tiles (features_of parts (blocks_in contents)) parts.min parts.max

-- these tiles
abbrev pub tiles_of : Parts → List Content → List Tile
tiles_of parts contents = tiles_from (layer_names parts) (groups_of parts contents)

-- what the metadata says of a layer: its id, and its fields with the kinds of their values
abbrev pub meta_layer : Parts → ℕ × LayerInfo → MetaLayer
meta_layer parts numbered = record { id = numbered.1.id; fields = fields_of parts numbered.0 }

abbrev pub meta_layers : Parts → List MetaLayer
meta_layers parts = map (meta_layer parts) (enumerate_from 0 (layers_of parts))

-- what the archive says of the map: name, layers and zooms of the profile, and the box of the extract
abbrev pub meta_of : Parts → Option Bounds → Meta
meta_of parts box = record { name = name_of parts; layers = meta_layers parts; min = parts.min; max = parts.max; bounds = box }
