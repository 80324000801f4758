-- The text of a feature's attributes: a JSON object without blanks.
use Rattle.std.specs.Prelude.{ℕ, List, [], ◌∷◌, ◌++◌, codes}
use Rattle.std.specs.Int.{w32, w64, to_be_bytes}
use Rattle.hex.specs.Hex.{encode_lower}
use Rattle.serde_json.specs.Data.{Data, boolean, number, string, object, Members, no_members, put}
use Rattle.serde_json.specs.Find.{of_integer}
use Rattle.serde_json.specs.Written.{compact_text}
use Rattle.tb_types.specs.declared.attribute.Attr.{Attr}
use Rattle.tb_types.specs.declared.attribute.AttrValue.{AttrValue}
use Rattle.tb_types.specs.declared.attribute.AttrValue.TheVariants.{Text, Whole, Truth, Bits32, Bits64}

-- the bits of a floating value in hexadecimal digits, the highest first
abbrev pub bits_text : List ℕ → List ℕ → List ℕ
bits_text name bytes = name ++ encode_lower bytes

unfoldable pub value_data : AttrValue → Data
value_data (Text text) = string text
value_data (Whole z) = number (of_integer z)
value_data (Truth b) = boolean b
value_data (Bits32 n) = string (bits_text (codes "float ") (to_be_bytes w32 n))
value_data (Bits64 n) = string (bits_text (codes "double ") (to_be_bytes w64 n))

-- members with those of attributes, in the order of the keys' bytes; of two equal keys the later counts
abbrev pub with_attributes : Members → List Attr → Members
with_attributes members [] = members
with_attributes members (a ∷ attributes) = with_attributes (put a.name (value_data a.value) members) attributes

abbrev pub attributes_data : List Attr → Data
attributes_data attributes = object (with_attributes no_members attributes)

unfoldable pub attributes_text : List Attr → List ℕ
attributes_text attributes = compact_text (attributes_data attributes)
