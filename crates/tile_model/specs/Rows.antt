-- What a rule makes of an element: a row in each tile in which the cut leaves something of its shape (Mapbox Vector Tile 2.1, section 4).
use Rattle.std.specs.Prelude.{ℕ, ◌+◌, ◌-◌, ◌*◌, ◌^◌, ◌==◌, ◌||◌, nat_lt, if◌then◌else◌, ℤ, pos, negsuc, Option, option_map, option_and_then, List}
use Rattle.tb_types.specs.declared.attribute.Attr.{Attr}
use Rattle.tb_types.specs.declared.element.Kind.{Kind}
use Rattle.tb_types.specs.declared.element.Kind.TheVariants as kinds
use Rattle.tb_types.specs.declared.shape.Shape.{Shape}
use Rattle.tb_types.specs.declared.tile.TileXyz.{TileXyz}
use Rattle.profile_rules.specs.declared.parts.Form.{Form}
use Rattle.profile_rules.specs.declared.parts.Parts.{Parts}
use Rattle.profile_rules.specs.declared.spec.Spec.{Spec}
use Rattle.strip_clip.specs.Cuts.{cut_of}
use Rattle.mvt_geom.specs.Text.{ints_of, form_of}
use Rattle.mvt_codec.specs.declared.row.TileRow.{TileRow}
use Rattle.tile_model.specs.Features.{Feature}
use Rattle.tile_model.specs.World.{buffer_of, simple_shape, tolerance_at}
use Rattle.tile_model.specs.declared.world.Origin.{Origin}
use Rattle.tile_model.specs.declared.world.WorldShape.{WorldShape}

-- what the kind of an element adds to ten times its id
abbrev pub kind_digit : Kind → ℕ
kind_digit kinds.Node = 1
kind_digit kinds.Way = 2
kind_digit kinds.Relation = 3

-- the id of an element's features: ten times its own and its kind's digit, where its own is positive and that has 64 bits, else none
abbrev pub feature_id : Kind → ℤ → ℕ
feature_id kind (pos n) = if (n == 0) || nat_lt (2 ^ 64 - 1) (10 * n + kind_digit kind) then 0 else 10 * n + kind_digit kind
feature_id kind (negsuc n) = 0

-- the row of what is left of a shape in a tile, counted from the tile's corner
abbrev pub row_of : ℕ → List Attr → Shape → TileRow
row_of id attributes shape = record { id = id; form = form_of shape; ints = ints_of shape; attributes = attributes }

-- what is left of a shape of the world in a tile, with the tolerance and the buffer of a layer
abbrev pub left_in : Parts → ℕ → WorldShape → TileXyz → Option Shape
left_in parts layer shape tile = option_and_then (cut_of tile (buffer_of parts layer)) (simple_shape tile.z (tolerance_at parts layer tile.z) shape)

-- what a spec makes of an element with a shape
abbrev pub shape_feature : Parts → Origin → WorldShape → Spec → Feature
shape_feature parts origin shape spec = record {
  layer = spec.layer;
  order = spec.order;
  kind = origin.kind;
  place = origin.place;
  rule = spec.rule;
  min = spec.min;
  max = spec.max;
  row = λ tile. option_map (row_of (feature_id origin.kind origin.id.0) spec.attributes) (left_in parts spec.layer shape tile);
}

-- what a spec makes of an element, if that has a shape in the form that the spec asks for
abbrev pub form_feature : Parts → Origin → (Form → Option WorldShape) → Spec → Option Feature
form_feature parts origin shape_in spec = option_map (λ shape. shape_feature parts origin shape spec) (shape_in spec.form)
