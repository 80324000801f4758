-- How long the texts of items and of their parts are.
use Rattle.std.proofs.Common.{◌≡◌, ℕ, ◌+◌, List, [], ◌∷◌, ◌++◌, length, flat_map, refl, arith}
use Rattle.std.specs.Int.{w64}
use Rattle.std.proofs.lemmas.List.{length-append}
use Rattle.tb_wire.specs.Varint.{encoding}
use Rattle.tb_types.specs.declared.attribute.Attr.{Attr}
use Rattle.mvt_codec.specs.declared.row.TileRow.{TileRow}
use Rattle.mvt_codec.specs.declared.item.ItemKey.{ItemKey}
use Rattle.mvt_codec.specs.declared.item.RunItem.{RunItem}
use Rattle.mvt_codec.specs.Value.{value_text}
use Rattle.mvt_codec.specs.Items.{fixed, key_text, sized, attribute_text, row_text, item_text}

key_len : (key : ItemKey) → length (key_text key) ≡ 22
unfolding key_text fixed
key_len key = refl

eight_len : (n : ℕ) → length (fixed w64 n) ≡ 8
unfolding fixed
eight_len n = refl

pub item_len : (item : RunItem) → length (item_text item) ≡ 30 + length (row_text item.row)
unfolding item_text
item_len item =
    let len = fixed w64 (length (row_text item.row)) in
    omega (arith, length-append (key_text item.key ++ len) (row_text item.row), length-append (key_text item.key) len, key_len item.key, eight_len (length (row_text item.row)))

pub attribute_len : (a : Attr) → length (attribute_text a) ≡ (length (encoding (length a.name)) + length a.name) + (length (encoding (length (value_text a.value))) + length (value_text a.value))
unfolding attribute_text
attribute_len a =
    let name = a.name in
    let value = value_text a.value in
    omega (arith, length-append (sized name) (sized value), length-append (encoding (length name)) name, length-append (encoding (length value)) value)

pub row_len : (row : TileRow) → length (row_text row)
    ≡ length (encoding row.id) + 1 + length (encoding (length row.ints)) + length (encoding (length row.attributes)) + length (flat_map encoding row.ints) + length (flat_map attribute_text row.attributes)
unfolding row_text
row_len row =
    let a = encoding row.id in
    let b = row.form ∷ [] in
    let c = encoding (length row.ints) in
    let d = flat_map encoding row.ints in
    let e = encoding (length row.attributes) in
    let f = flat_map attribute_text row.attributes in
    omega (arith, length-append ((((a ++ b) ++ c) ++ d) ++ e) f, length-append (((a ++ b) ++ c) ++ d) e, length-append ((a ++ b) ++ c) d, length-append (a ++ b) c, length-append a b)
