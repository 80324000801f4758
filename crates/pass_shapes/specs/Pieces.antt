-- The items of the pieces of a feature.
use Rattle.std.specs.Prelude.{ℕ, Option, None, Some, List, []}
use Rattle.tb_types.specs.declared.shape.Shape.{Shape}
use Rattle.tb_types.specs.declared.tile.TileXyz.{TileXyz}
use Rattle.profile_rules.specs.declared.spec.Spec.{Spec}
use Rattle.hilbert_ids.specs.Ids.{number_of}
use Rattle.mvt_codec.specs.declared.item.RunItem.{RunItem}
use Rattle.tile_clip.specs.Pieces.{pieces_of}
use Rattle.tile_model.specs.Rows.{feature_id, row_of}
use Rattle.tile_model.specs.World.{simple_shape}
use Rattle.tile_model.specs.declared.world.Origin.{Origin}
use Rattle.tile_model.specs.declared.world.WorldShape.{WorldShape}
use Rattle.pass_shapes.specs.declared.pieces.Label.{Label}

-- the item of a piece in its tile
abbrev pub item_of : Label → TileXyz × Shape → RunItem
item_of label given = record { key = record label.key { tile = number_of given.0 }; row = row_of label.id label.attributes given.1 }

-- the pieces of a shape on the grid of a zoom, if something of it is left there
abbrev pub pieces_if : ℕ → ℕ → Option Shape → List (TileXyz × Shape)
pieces_if zoom buffer None = []
pieces_if zoom buffer (Some simple) = pieces_of zoom buffer simple

abbrev pub pieces_at : ℕ → ℕ → ℕ → WorldShape → List (TileXyz × Shape)
pieces_at zoom tolerance buffer shape = pieces_if zoom buffer (simple_shape zoom tolerance shape)

-- what the items of a feature have in common
abbrev pub label_of : Origin → Spec → Label
label_of origin spec = record {
  key = record { tile = 0; layer = spec.layer; order = spec.order; kind = origin.kind; place = origin.place; rule = spec.rule };
  id = feature_id origin.kind origin.id.0;
  attributes = spec.attributes;
}
