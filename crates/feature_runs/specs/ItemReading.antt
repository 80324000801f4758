-- Reading items from the front of bytes: a part, and the bytes behind it, or nothing where no such part begins.
use Rattle.std.specs.Prelude.{◌≡◌, ℕ, zero, suc, ◌+◌, ◌-◌, ◌*◌, ◌/◌, ◌%◌, ◌^◌, Bool, true, false, ◌&&◌, ◌==◌, nat_lt, nat_le, if◌then◌else◌, ℤ, pos, negsuc, Option, None, Some, Result, Ok, Err, List, [], ◌∷◌, length, take, drop, ⊤}
use Rattle.std.specs.Int.{Width, w16, w32, w64, byte_len, from_be_bytes, from_le_bytes}
use Rattle.std.specs.Str.{is_utf8}
use Rattle.tb_wire.specs.declared.varint.Wire.{Wire}
use Rattle.tb_wire.specs.Varint.{varint, encoding}
use Rattle.tb_types.specs.declared.attribute.Attr.{Attr}
use Rattle.tb_types.specs.declared.attribute.AttrValue.{AttrValue}
use Rattle.tb_types.specs.declared.attribute.AttrValue.TheVariants.{Text, Whole, Truth, Bits32, Bits64}
use Rattle.tb_types.specs.declared.element.Kind.{Kind}
use Rattle.tb_types.specs.declared.element.Kind.TheVariants.{Node, Way, Relation}
use Rattle.mvt_codec.specs.declared.row.TileRow.{TileRow}
use Rattle.mvt_codec.specs.declared.item.ItemKey.{ItemKey}
use Rattle.mvt_codec.specs.declared.item.RunItem.{RunItem}
use Rattle.feature_runs.specs.declared.refused.Refused.{Refused}
use Rattle.feature_runs.specs.declared.refused.Refused.TheVariants as refused
use Rattle.mvt_geom.specs.Commands.{has_form}
use Rattle.mvt_geom.specs.Options.{◌>>=◌}
use Rattle.mvt_codec.specs.Items.{tiles_end}

-- only where a test holds
abbrev pub only_if : {A : Type 0} → Bool → A → Option A
only_if true x = Some x
only_if false x = None

-- it refuses where reading does, or memory was wanting
abbrev pub Fails : {Y : Type 0} → Refused → Option Y → Type 0
Fails refused.NoItem read = read ≡ None
Fails refused.Memory read = ⊤

-- what a function answered, seen by `view`, is what reading gives, unless memory was wanting
abbrev pub Gives : {X Y : Type 0} → (X → Y) → Result X Refused → Option Y → Type 0
Gives view (Ok x) read = read ≡ Some (view x)
Gives view (Err e) read = Fails e read

-- a number of a width, the highest byte first
abbrev pub number_at : Width → List ℕ → Option (ℕ × List ℕ)
number_at w bytes = only_if (nat_le (byte_len w) (length bytes)) (from_be_bytes w (take (byte_len w) bytes), drop (byte_len w) bytes)

abbrev pub byte_at : List ℕ → Option (ℕ × List ℕ)
byte_at [] = None
byte_at (b ∷ bytes) = Some (b, bytes)

-- a varint in its shortest encoding
abbrev pub if_short : List ℕ → Result (ℕ × ℕ) Wire → Option (ℕ × List ℕ)
if_short bytes (Ok n) = only_if (n.1 == length (encoding n.0)) (n.0, drop n.1 bytes)
if_short bytes (Err e) = None

unfoldable pub varint_at : List ℕ → Option (ℕ × List ℕ)
varint_at bytes = if_short bytes (varint bytes)

-- so many bytes
abbrev pub split_off : ℕ → List ℕ → Option (List ℕ × List ℕ)
split_off n bytes = only_if (nat_le n (length bytes)) (take n bytes, drop n bytes)

-- bytes behind their number
unfoldable pub sized_at : List ℕ → Option (List ℕ × List ℕ)
sized_at bytes = varint_at bytes >>= λ n. split_off n.0 n.1

-- bytes that are UTF-8
abbrev pub utf8_text : List ℕ → Option (List ℕ)
utf8_text bytes = only_if (is_utf8 bytes) bytes

-- so many parts
abbrev pub parts_at : {A : Type 0} → (List ℕ → Option (A × List ℕ)) → ℕ → List ℕ → Option (List A × List ℕ)
parts_at read zero bytes = Some ([], bytes)
parts_at read (suc n) bytes = read bytes >>= λ first. parts_at read n first.1 >>= λ others. Some (first.0 ∷ others.0, others.1)

-- an integer of a geometry has 32 bits
unfoldable pub int_at : List ℕ → Option (ℕ × List ℕ)
int_at bytes = do
  n ← varint_at bytes
  only_if (nat_lt n.0 (2 ^ 32)) n

-- a name is UTF-8 and has a byte
unfoldable pub name_at : List ℕ → Option (List ℕ × List ℕ)
name_at bytes = do
  name ← sized_at bytes
  some_name ← only_if (nat_lt 0 (length name.0)) name.0
  text ← utf8_text some_name
  Some (text, name.1)

-- a part that is all of the bytes
abbrev pub whole : {A : Type 0} → A × List ℕ → Option A
whole x = only_if (length x.1 == 0) x.0

-- the value that is all of the bytes, by their first one, which is the number and wire type of its one field
unfoldable pub text_of : List ℕ → Option AttrValue
text_of bytes = do
  part ← sized_at bytes
  bytes_only ← whole part
  text ← utf8_text bytes_only
  Some (Text text)

unfoldable pub uint_of : List ℕ → Option AttrValue
uint_of bytes = do
  part ← varint_at bytes
  n ← whole part
  Some (Whole (pos n))

-- a signed one is below 0, so its zigzag is odd
unfoldable pub sint_of : List ℕ → Option AttrValue
sint_of bytes = do
  part ← varint_at bytes
  n ← whole part
  only_if (n % 2 == 1) (Whole (negsuc (n / 2)))

unfoldable pub float_of : List ℕ → Option AttrValue
float_of bytes = only_if (length bytes == 4) (Bits32 (from_le_bytes w32 bytes))

unfoldable pub double_of : List ℕ → Option AttrValue
double_of bytes = only_if (length bytes == 8) (Bits64 (from_le_bytes w64 bytes))

unfoldable pub truth_of : List ℕ → Option AttrValue
truth_of [] = None
truth_of (b ∷ []) = only_if (nat_lt b 2) (Truth (b == 1))
truth_of (b ∷ c ∷ bytes) = None

unfoldable pub value_of : List ℕ → Option AttrValue
value_of [] = None
value_of (tag ∷ bytes) =
    if tag == 10 then text_of bytes
    else if tag == 21 then float_of bytes
    else if tag == 25 then double_of bytes
    else if tag == 40 then uint_of bytes
    else if tag == 48 then sint_of bytes
    else if tag == 56 then truth_of bytes
    else None

unfoldable pub attribute_at : List ℕ → Option (Attr × List ℕ)
attribute_at bytes = do
  name ← name_at bytes
  text ← sized_at name.1
  value ← value_of text.0
  Some (record { name = name.0; value = value }, text.1)

unfoldable pub ints_at : List ℕ → Option (List ℕ × List ℕ)
ints_at bytes = do
  n ← varint_at bytes
  parts_at int_at n.0 n.1

unfoldable pub attributes_at : List ℕ → Option (List Attr × List ℕ)
attributes_at bytes = do
  n ← varint_at bytes
  parts_at attribute_at n.0 n.1

-- the row that is all of the bytes
unfoldable pub row_of : List ℕ → Option TileRow
row_of bytes = do
  id ← varint_at bytes
  form ← byte_at id.1
  ints ← ints_at form.1
  attributes ← attributes_at ints.1
  attributes_only ← whole attributes
  only_if (nat_le 1 form.0 && has_form form.0 ints.0) (record { id = id.0; form = form.0; ints = ints.0; attributes = attributes_only })

-- an order, from 0 for -32768 on
abbrev pub order_of : ℕ → ℤ
order_of n = if nat_lt n 32768 then negsuc (32767 - n) else pos (n - 32768)

abbrev pub kind_of : ℕ → Option Kind
kind_of zero = Some Node
kind_of (suc zero) = Some Way
kind_of (suc (suc zero)) = Some Relation
kind_of (suc (suc (suc n))) = None

unfoldable pub key_at : List ℕ → Option (ItemKey × List ℕ)
key_at bytes = do
  tile ← number_at w64 bytes
  layer ← byte_at tile.1
  order ← number_at w16 layer.1
  kind_byte ← byte_at order.1
  kind ← kind_of kind_byte.0
  block ← number_at w32 kind_byte.1
  index ← number_at w32 block.1
  rule ← number_at w16 index.1
  only_if (nat_lt tile.0 tiles_end && nat_le layer.0 63)
      (record { tile = tile.0; layer = layer.0; order = order_of order.0; kind = kind; place = record { block = block.0; index = index.0 }; rule = rule.0 }, rule.1)

-- the key of the item that begins here, and the length of its row
unfoldable pub head_at : List ℕ → Option (ItemKey × ℕ)
head_at bytes = do
  key ← key_at bytes
  len ← number_at w64 key.1
  Some (key.0, len.0)

unfoldable pub item_at : List ℕ → Option (RunItem × List ℕ)
item_at bytes = do
  key ← key_at bytes
  len ← number_at w64 key.1
  text ← split_off len.0 len.1
  row ← row_of text.0
  Some (record { key = key.0; row = row }, text.1)
