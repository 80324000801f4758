-- What is written of a tile is read again.
use Rattle.std.specs.Prelude.{◌≡◌, ◌^◌, ◌<◌, ◌==◌, true, false, not, ⊤, Ok, List, [], ◌∷◌, ◌++◌, length, filter, All}
use Rattle.std.specs.Str.{is_utf8}
use Rattle.tb_types.specs.declared.attribute.Attr.{Attr}
use Rattle.tb_types.specs.declared.attribute.AttrValue.{AttrValue}
use Rattle.tb_types.specs.declared.attribute.AttrValue.TheVariants.{Text, Whole, Truth, Bits32, Bits64}
use Rattle.mvt_geom.specs.Commands.{has_form}
use Rattle.mvt_codec.specs.declared.row.TileRow.{TileRow}
use Rattle.mvt_codec.specs.declared.row.LayerRows.{LayerRows}
use Rattle.mvt_codec.specs.Value.{IsWithin}
use Rattle.mvt_codec.specs.Tile.{tile_text, HasRoom}
use Rattle.mvt_codec.specs.Grammar.{has_name, tile_of}

-- a value is within its type: texts are UTF-8, whole numbers lie within - 2 ^ 63 and 2 ^ 64 - 1, and bits are as many as they should
abbrev pub FitsValue : AttrValue → Type 0
FitsValue (Text text) = is_utf8 text ≡ true
FitsValue (Bits32 bits) = bits < 2 ^ 32
FitsValue (Bits64 bits) = bits < 2 ^ 64
FitsValue (Whole z) = IsWithin z
FitsValue (Truth b) = ⊤

pub record FitsAttribute (a : Attr) : Type 0 where
  pub name : is_utf8 a.name ≡ true
  pub value : FitsValue a.value

-- a row is within its types, and its integers have the form of its type
pub record FitsRow (row : TileRow) : Type 0 where
  pub id : row.id < 2 ^ 64
  pub small : row.form < 2 ^ 8
  pub ints : All (λ n. n < 2 ^ 32) row.ints
  pub form : has_form row.form row.ints ≡ true
  pub attributes : All FitsAttribute row.attributes

-- a layer is within its types
pub record FitsLayer (layer : LayerRows) : Type 0 where
  pub name : is_utf8 layer.name ≡ true
  pub extent : layer.extent < 2 ^ 32
  pub rows : All FitsRow layer.rows

-- the layers that have rows
abbrev pub with_rows : List LayerRows → List LayerRows
with_rows layers = filter (λ layer. not (length layer.rows == 0)) layers

-- the name of each layer differs from those of the layers before it, and of some others
abbrev pub NamesDiffer : List LayerRows → List LayerRows → Type 0
NamesDiffer before [] = ⊤
NamesDiffer before (layer ∷ layers) = (has_name layer.name before ≡ false) × NamesDiffer (before ++ layer ∷ []) layers

-- layers within their types, of which those with rows have names that differ
pub record AreReadable (layers : List LayerRows) : Type 0 where
  pub sound : All FitsLayer layers
  pub names : NamesDiffer [] (with_rows layers)

-- layers that may be written as one tile of fewer than 2 ^ 64 bytes
pub record AreTile (layers : List LayerRows) : Type 0 where
  pub sound : All FitsLayer layers
  pub room : All HasRoom layers
  pub names : NamesDiffer [] (with_rows layers)
  pub size : length (tile_text layers) < 2 ^ 64

abbrev pub TilesAreReadAgain : Type 0
TilesAreReadAgain = (layers : List LayerRows) → AreTile layers → tile_of (tile_text layers) ≡ Ok (with_rows layers)
