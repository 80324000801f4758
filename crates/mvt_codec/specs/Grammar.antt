-- What the bytes of a tile say (Mapbox Vector Tile 2.1, section 4).
use Rattle.std.specs.Prelude.{ℕ, zero, suc, ◌-◌, ◌^◌, ◌==◌, ◌||◌, nat_lt, Bool, not, if◌then◌else◌, ℤ, pos, negsuc, Option, None, Some, is_some, Result, Ok, Err, List, [], ◌∷◌, ◌++◌, length, map, slice_get}
use Rattle.std.specs.List.{list_any}
use Rattle.std.specs.Str.{bytes_eq}
use Rattle.tb_types.specs.declared.attribute.Attr.{Attr}
use Rattle.tb_types.specs.declared.attribute.AttrValue.{AttrValue}
use Rattle.tb_types.specs.declared.attribute.AttrValue.TheVariants.{Text, Whole, Truth, Bits32, Bits64}
use Rattle.tb_wire.specs.declared.varint.Wire.{Wire}
use Rattle.tb_types.specs.Zigzag.{unzigzag_of}
use Rattle.tb_wire.specs.Field.{Value, Entry, number, eight_bytes, text, four_bytes, field_at}
use Rattle.mvt_geom.specs.Options.{◌>>=◌}
use Rattle.mvt_geom.specs.Commands.{has_form}
use Rattle.mvt_codec.specs.declared.row.TileRow.{TileRow}
use Rattle.mvt_codec.specs.declared.row.LayerRows.{LayerRows}
use Rattle.mvt_codec.specs.Messages.{said_from, low_32, number_in, numbers_in, bytes_in, text_in}

-- a signed number of 64 bits, in two's complement; `negsuc n` is -(n + 1)
abbrev pub signed_64 : ℕ → ℤ
signed_64 n = if nat_lt n (2 ^ 63) then pos n else negsuc (2 ^ 64 - 1 - n)

-- bits of a float and of a double
abbrev pub bits_32 : Value → Option AttrValue
bits_32 (four_bytes n) = Some (Bits32 n)
bits_32 (number n) = None
bits_32 (text bytes) = None
bits_32 (eight_bytes n) = None

abbrev pub bits_64 : Value → Option AttrValue
bits_64 (eight_bytes n) = Some (Bits64 n)
bits_64 (number n) = None
bits_64 (text bytes) = None
bits_64 (four_bytes n) = None

-- A Value: its field 1 is a text, 2 a float, 3 a double, 4 an int64, 5 a uint64, 6 a sint64 and 7 a bool.
unfoldable pub value_in : ℕ → Value → Option AttrValue
value_in field v =
    if field == 1 then (text_in v >>= λ t. Some (Text t))
    else if field == 2 then bits_32 v
    else if field == 3 then bits_64 v
    else if field == 4 then (number_in v >>= λ n. Some (Whole (signed_64 n)))
    else if field == 5 then (number_in v >>= λ n. Some (Whole (pos n)))
    else if field == 6 then (number_in v >>= λ n. Some (Whole (unzigzag_of n)))
    else (number_in v >>= λ n. Some (Truth (not (n == 0))))

-- a Value has only one of these fields; others are skipped
abbrev pub note_value : Option AttrValue → Entry → Option (Option AttrValue)
note_value so_far f = if nat_lt 7 f.number then Some so_far else if is_some so_far then None else (value_in f.number f.value >>= λ v. Some (Some v))

abbrev pub no_value : Option AttrValue
no_value = None

-- the value of a message
abbrev pub value_said : List ℕ → Option AttrValue
value_said bytes = said_from note_value no_value bytes 0 >>= λ v. v

-- A Feature: an id, tags, a type and geometry integers. The last id and the last type count, and lists are joined.
pub record Feature : Type 0 where
  pub id : ℕ
  pub tags : List ℕ
  pub form : ℕ
  pub ints : List ℕ

abbrev pub no_feature : Feature
no_feature = record { id = 0; tags = []; form = 0; ints = [] }

abbrev pub with_id : Feature → ℕ → Feature
with_id f id = record { id = id; tags = f.tags; form = f.form; ints = f.ints }

abbrev pub with_tags : Feature → List ℕ → Feature
with_tags f tags = record { id = f.id; tags = f.tags ++ tags; form = f.form; ints = f.ints }

abbrev pub with_form : Feature → ℕ → Feature
with_form f form = record { id = f.id; tags = f.tags; form = form; ints = f.ints }

abbrev pub with_ints : Feature → List ℕ → Feature
with_ints f ints = record { id = f.id; tags = f.tags; form = f.form; ints = f.ints ++ ints }

unfoldable pub note_feature : Feature → Entry → Option Feature
note_feature so_far f =
    if f.number == 1 then (number_in f.value >>= λ n. Some (with_id so_far n))
    else if f.number == 2 then (numbers_in f.value >>= λ tags. Some (with_tags so_far tags))
    else if f.number == 3 then (number_in f.value >>= λ n. Some (with_form so_far (low_32 n)))
    else if f.number == 4 then (numbers_in f.value >>= λ ints. Some (with_ints so_far ints))
    else Some so_far

-- tags are pairs of a key's place and a value's place in the dictionaries of the layer
abbrev pub attribute_at : List (List ℕ) → List AttrValue → ℕ → ℕ → Option Attr
attribute_at keys values key value = slice_get keys key >>= λ name. slice_get values value >>= λ v. Some (record { name = name; value = v })

abbrev pub attributes_at : List (List ℕ) → List AttrValue → List ℕ → Option (List Attr)
attributes_at keys values [] = Some []
attributes_at keys values (key ∷ []) = None
attributes_at keys values (key ∷ value ∷ tags) =
    attribute_at keys values key value >>= λ a. attributes_at keys values tags >>= λ later. Some (a ∷ later)

abbrev pub row_with : Feature → List Attr → TileRow
row_with f attributes = record { id = f.id; form = f.form; ints = f.ints; attributes = attributes }

-- a feature's geometry integers have the form of its type, and its tags lie inside the dictionaries
abbrev pub row_of : List (List ℕ) → List AttrValue → Feature → Option TileRow
row_of keys values f = if has_form f.form f.ints then (attributes_at keys values f.tags >>= λ attributes. Some (row_with f attributes)) else None

abbrev pub row_in : List (List ℕ) → List AttrValue → List ℕ → Option TileRow
row_in keys values bytes = said_from note_feature no_feature bytes 0 >>= row_of keys values

abbrev pub rows_in : List (List ℕ) → List AttrValue → List (List ℕ) → Option (List TileRow)
rows_in keys values [] = Some []
rows_in keys values (bytes ∷ features) = row_in keys values bytes >>= λ row. rows_in keys values features >>= λ later. Some (row ∷ later)

-- A Layer: a name, features, keys, values, an extent and a version. The last name, extent and version count.
pub record Layer : Type 0 where
  pub name : Option (List ℕ)
  pub features : List (List ℕ)
  pub keys : List (List ℕ)
  pub values : List AttrValue
  pub extent : ℕ
  pub version : ℕ

-- an extent is 4096 where none is written, and a version has to be
abbrev pub no_layer : Layer
no_layer = record { name = None; features = []; keys = []; values = []; extent = 4096; version = 0 }

unfoldable pub note_layer : Layer → Entry → Option Layer
note_layer l f =
    if f.number == 1 then (text_in f.value >>= λ name. Some (record { name = Some name; features = l.features; keys = l.keys; values = l.values; extent = l.extent; version = l.version }))
    else if f.number == 2 then (bytes_in f.value >>= λ feature. Some (record { name = l.name; features = l.features ++ feature ∷ []; keys = l.keys; values = l.values; extent = l.extent; version = l.version }))
    else if f.number == 3 then (text_in f.value >>= λ key. Some (record { name = l.name; features = l.features; keys = l.keys ++ key ∷ []; values = l.values; extent = l.extent; version = l.version }))
    else if f.number == 4 then (bytes_in f.value >>= value_said >>= λ v. Some (record { name = l.name; features = l.features; keys = l.keys; values = l.values ++ v ∷ []; extent = l.extent; version = l.version }))
    else if f.number == 5 then (number_in f.value >>= λ n. Some (record { name = l.name; features = l.features; keys = l.keys; values = l.values; extent = low_32 n; version = l.version }))
    else if f.number == 15 then (number_in f.value >>= λ n. Some (record { name = l.name; features = l.features; keys = l.keys; values = l.values; extent = l.extent; version = low_32 n }))
    else Some l

abbrev pub layer_with : Layer → List ℕ → List TileRow → LayerRows
layer_with l name rows = record { name = name; extent = l.extent; rows = rows }

-- a layer has a name, and its version is 1 or 2
abbrev pub rows_of : Layer → Option LayerRows
rows_of l = if (l.version == 1) || (l.version == 2) then (l.name >>= λ name. rows_in l.keys l.values l.features >>= λ rows. Some (layer_with l name rows)) else None

abbrev pub layer_in : List ℕ → Option LayerRows
layer_in bytes = said_from note_layer no_layer bytes 0 >>= rows_of

-- the names of layers
abbrev pub names_of : List LayerRows → List (List ℕ)
names_of layers = map (λ layer. layer.name) layers

-- a layer has this name
abbrev pub has_name : List ℕ → List LayerRows → Bool
has_name name layers = list_any (bytes_eq name) (names_of layers)

-- a layer behind others, whose names differ from its own
abbrev pub behind_others : List LayerRows → LayerRows → Option (List LayerRows)
behind_others layers layer = if has_name layer.name layers then None else Some (layers ++ layer ∷ [])

-- A Tile: its fields 3 are layers.
abbrev pub note_tile : List LayerRows → Entry → Option (List LayerRows)
note_tile layers f = if f.number == 3 then (bytes_in f.value >>= layer_in >>= behind_others layers) else Some layers

-- the layers after a field, and then those from the place behind it on; or the number of the layer that is bad
abbrev pub tile_behind : (List LayerRows → ℕ → Result (List LayerRows) ℕ) → ℕ → ℕ → Option (List LayerRows) → Result (List LayerRows) ℕ
tile_behind read_on bad next None = Err bad
tile_behind read_on bad next (Some layers) = read_on layers next

-- what was read of a field: where none can be read, the layer that would come next is bad
abbrev pub tile_after : (List LayerRows → ℕ → Result (List LayerRows) ℕ) → List LayerRows → Result (Option (Entry × ℕ)) Wire → Result (List LayerRows) ℕ
tile_after read_on layers (Err e) = Err (length layers)
tile_after read_on layers (Ok None) = Ok layers
tile_after read_on layers (Ok (Some f)) = tile_behind read_on (length layers) f.1 (note_tile layers f.0)

-- the layers so far and those of the fields from a place on, at most so many
abbrev pub tile_from : List ℕ → ℕ → List LayerRows → ℕ → Result (List LayerRows) ℕ
tile_from bytes zero layers at = Ok layers
tile_from bytes (suc most) layers at = tile_after (tile_from bytes most) layers (field_at bytes at)

-- The layers of a tile in their order, or the number of the first bad one, counted from 0; where no field can be read behind
-- whole layers, it is their number. A tile has no more fields than bytes, since each takes some.
unfoldable pub tile_of : List ℕ → Result (List LayerRows) ℕ
tile_of bytes = tile_from bytes (length bytes) [] 0
