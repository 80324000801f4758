-- How long texts of items and of their parts are.
use Rattle.std.proofs.Common.{◌≡◌, ℕ, Bool, true, false, zero, suc, ◌+◌, ◌*◌, ◌^◌, ◌<◌, ◌≤◌, ℤ, pos, negsuc, List, [], ◌∷◌, ◌++◌, length, flat_map, get_or, refl, arith, rules}
use Rattle.std.specs.Int.{w64}
use Rattle.std.proofs.lemmas.List.{length-append}
use Rattle.std.proofs.lemmas.List.Concat.{flat_map-cons}
use Rattle.tb_wire.specs.Varint.{encoding}
use Rattle.tb_wire.specs.Message.{len_text}
use Rattle.tb_types.specs.declared.attribute.Attr.{Attr}
use Rattle.tb_types.specs.declared.attribute.AttrValue.{AttrValue}
use Rattle.tb_types.specs.declared.attribute.AttrValue.TheVariants.{Text, Whole, Truth, Bits32, Bits64}
use Rattle.mvt_codec.specs.declared.row.TileRow.{TileRow}
use Rattle.mvt_codec.specs.declared.item.ItemKey.{ItemKey}
use Rattle.mvt_codec.specs.declared.item.RunItem.{RunItem}
use Rattle.mvt_codec.specs.Value.{number_text, four_text, eight_text, value_text, whole_text}
use Rattle.mvt_codec.specs.Items.{fixed, key_text, sized, attribute_text, row_text, item_text}
use Rattle.feature_runs.specs.Lengths.{whole_number}

number_tag_len : (encoding 40 ≡ 40 ∷ []) × (encoding 48 ≡ 48 ∷ [])
unfolding encoding
number_tag_len = (refl, refl)

-- the number that a whole number is written as
pub whole_text_len : (z : ℤ) → length (whole_text z) ≡ 1 + length (encoding (whole_number z))
unfolding number_text
whole_text_len (pos n) = rw (number_tag_len.0) (omega arith)
whole_text_len (negsuc n) = rw (number_tag_len.1) (omega arith)

tag_len : length (encoding 10) ≡ 1
unfolding encoding
tag_len = refl

pub text_len : (text : List ℕ) → length (value_text (Text text)) ≡ 1 + (length (encoding (length text)) + length text)
unfolding value_text len_text
text_len text = omega (arith, length-append (encoding 10 ++ encoding (length text)) text, length-append (encoding 10) (encoding (length text)), tag_len)

pub float_len : (bits : ℕ) → length (value_text (Bits32 bits)) ≡ 5
unfolding value_text four_text encoding
float_len bits = refl

pub double_len : (bits : ℕ) → length (value_text (Bits64 bits)) ≡ 9
unfolding value_text eight_text encoding
double_len bits = refl

pub truth_len : (b : Bool) → length (value_text (Truth b)) ≡ 2
unfolding value_text number_text encoding
truth_len true = refl
truth_len false = refl

pub whole_len : (z : _) → length (value_text (Whole z)) ≡ length (whole_text z)
unfolding value_text
whole_len z = refl

-- a part isn't longer than all parts
pub part_len : {A : Type 0} (text : A → List ℕ) (xs : List A) (i : ℕ) (d : A) → i < length xs → length (text (get_or xs i d)) ≤ length (flat_map text xs)
part_len text [] i d h = absurd (omega arith)
part_len text (x ∷ xs) zero d h = rw flat_map-cons (omega (arith, length-append (text x) (flat_map text xs)))
part_len text (x ∷ xs) (suc i) d h = let rest = part_len text xs i d (omega arith) in rw flat_map-cons (omega (arith, length-append (text x) (flat_map text xs)))
