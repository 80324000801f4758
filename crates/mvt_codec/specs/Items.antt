-- Items: rows with the keys of their places, as the bytes in which they are stored and sorted.
use Rattle.std.specs.Prelude.{◌≡◌, ℕ, ◌+◌, ◌-◌, ◌/◌, ◌^◌, ◌<◌, ◌≤◌, true, List, [], ◌∷◌, ◌++◌, length, flat_map}
use Rattle.std.specs.Int.{Width, w16, w32, w64, to_be_bytes}
use Rattle.std.specs.List.{AllByRecursion}
use Rattle.tb_wire.specs.Varint.{encoding}
use Rattle.tb_types.specs.declared.attribute.Attr.{Attr}
use Rattle.mvt_geom.specs.Commands.{has_form}
use Rattle.mvt_codec.specs.declared.row.TileRow.{TileRow}
use Rattle.mvt_codec.specs.declared.item.ItemKey.{ItemKey}
use Rattle.mvt_codec.specs.declared.item.RunItem.{RunItem}
use Rattle.mvt_codec.specs.Value.{value_text, IsWritable}
use Rattle.mvt_codec.specs.Again.{FitsAttribute}
use Rattle.mvt_codec.specs.Order.{kind_number, order_number, FitsKey}

-- a number of a fixed width, the highest byte first
unfoldable pub fixed : Width → ℕ → List ℕ
fixed w n = to_be_bytes w n

-- a key: 22 bytes
unfoldable pub key_text : ItemKey → List ℕ
key_text key =
    fixed w64 key.tile ++ (key.layer ∷ []) ++ fixed w16 (order_number key.order) ++ (kind_number key.kind ∷ [])
    ++ fixed w32 key.place.block ++ fixed w32 key.place.index ++ fixed w16 key.rule

-- bytes behind their number
abbrev pub sized : List ℕ → List ℕ
sized bytes = encoding (length bytes) ++ bytes

-- an attribute: its name and the message of its value
unfoldable pub attribute_text : Attr → List ℕ
attribute_text a = sized a.name ++ sized (value_text a.value)

-- a row: its id, its type, its geometry and its attributes
unfoldable pub row_text : TileRow → List ℕ
row_text row =
    encoding row.id ++ (row.form ∷ []) ++ encoding (length row.ints) ++ flat_map encoding row.ints
    ++ encoding (length row.attributes) ++ flat_map attribute_text row.attributes

-- an item: its key, and its row behind the length of that
unfoldable pub item_text : RunItem → List ℕ
item_text item = key_text item.key ++ fixed w64 (length (row_text item.row)) ++ row_text item.row

-- items one behind another
abbrev pub items_bytes : List RunItem → List ℕ
items_bytes items = flat_map item_text items

-- the first number that is no tile up to zoom 26
abbrev pub tiles_end : ℕ
tiles_end = (4 ^ 27 - 1) / 3

-- an attribute of an item: its name isn't empty, and a whole number is within -2^63 and 2^64 - 1
abbrev pub IsNamed : Attr → Type 0
IsNamed a = (0 < length a.name) × IsWritable a.value

-- what an item keeps to: its tile is one up to zoom 26, there are at most 64 layers, and its integers have the form of its type
pub record IsItem (item : RunItem) : Type 0 where
  pub tile : item.key.tile < tiles_end
  pub layer : item.key.layer ≤ 63
  pub known : (1 ≤ item.row.form) × (item.row.form ≤ 3)
  pub form : has_form item.row.form item.row.ints ≡ true
  pub attributes : AllByRecursion IsNamed item.row.attributes
  pub len : length (item_text item) < 2 ^ 64

-- what the types of an item's fields say: the widths of its numbers, and that texts are UTF-8
pub record Fits (item : RunItem) : Type 0 where
  pub key : FitsKey item.key
  pub id : item.row.id < 2 ^ 64
  pub ints : AllByRecursion (λ n. n < 2 ^ 32) item.row.ints
  pub attributes : AllByRecursion FitsAttribute item.row.attributes

-- an item stands at a place of the bytes, and ends before another
abbrev pub StandsAt : List ℕ → ℕ → RunItem → ℕ → Type 0
StandsAt bytes at item next = (before behind : List ℕ) × (bytes ≡ before ++ (item_text item ++ behind)) × (at ≡ length before) × (next ≡ at + length (item_text item))
