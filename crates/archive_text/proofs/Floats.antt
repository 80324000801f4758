-- The attributes of a feature have no float among their values.
use Rattle.std.proofs.Common.{◌≡◌, ℕ, ℤ, pos, negsuc, ◌||◌, Bool, true, false, List, [], ◌∷◌, refl, ap, ◌∙◌}
use Rattle.std.specs.Prelude.{String, string_bytes}
use Rattle.std.specs.declared.alloc.Global.{Global}
use Rattle.std.specs.declared.cmp.Ordering.{Ordering}
use Rattle.std.specs.declared.cmp.Ordering.TheVariants as orders
use Rattle.std.specs.Ordering.{nat_cmp, match_ordering}
use Rattle.std.specs.Cmp.Lexicographic.{slice_cmp}
use Rattle.serde_json.specs.Data.{Data, Members, member, no_members, put}
use Rattle.serde_json.specs.Find.{is_float, of_integer}
use Rattle.serde_json.specs.Written.{has_float, members_have_float, compact_text}
use Rattle.tb_types.specs.declared.attribute.Attr.{Attr}
use Rattle.tb_types.specs.declared.attribute.AttrValue.{AttrValue}
use Rattle.tb_types.specs.declared.attribute.AttrValue.TheVariants.{Text, Whole, Truth, Bits32, Bits64}
use Rattle.archive_text.specs.Attributes.{value_data, with_attributes, attributes_data, attributes_text}

neither : (a b : Bool) → (a || b) ≡ false → (a ≡ false) × (b ≡ false)
neither false b h = (refl, h)
neither true b h = let no : true ≡ false = h in absurd cc

none : (a b : Bool) → a ≡ false → b ≡ false → (a || b) ≡ false
none a b h k = rw (h, k) refl

placed : (key name : List ℕ) (v d : Data) (others : Members) (o : Ordering) → has_float v ≡ false → members_have_float (member name d others) ≡ false → members_have_float (put key v others) ≡ false
    → members_have_float (match_ordering o (member key v (member name d others)) (member name v others) (member name d (put key v others))) ≡ false
placed key name v d others orders.Less value h rest = none (has_float v) (members_have_float (member name d others)) value h
placed key name v d others orders.Equal value h rest = none (has_float v) (members_have_float others) value ((neither (has_float d) (members_have_float others) h).1)
placed key name v d others orders.Greater value h rest = none (has_float d) (members_have_float (put key v others)) ((neither (has_float d) (members_have_float others) h).0) rest

put-value : (key : List ℕ) (v : Data) (others : Members) → has_float v ≡ false → members_have_float others ≡ false → members_have_float (put key v others) ≡ false
put-value key v no_members value h = none (has_float v) false value refl
put-value key v (member name d others) value h =
    placed key name v d others (slice_cmp nat_cmp key name) value h (put-value key v others value ((neither (has_float d) (members_have_float others) h).1))

integer-no_float : (z : ℤ) → is_float (of_integer z) ≡ false
integer-no_float (pos n) = refl
integer-no_float (negsuc n) = refl

value-no_float : (v : AttrValue) → has_float (value_data v) ≡ false
unfolding value_data
value-no_float (Text text) = refl
value-no_float (Whole z) = integer-no_float z
value-no_float (Truth b) = refl
value-no_float (Bits32 n) = refl
value-no_float (Bits64 n) = refl

attributes-no_float : (attributes : List Attr) (others : Members) → members_have_float others ≡ false → members_have_float (with_attributes others attributes) ≡ false
attributes-no_float [] others h = h
attributes-no_float (a ∷ attributes) others h = attributes-no_float attributes (put a.name (value_data a.value) others) (put-value a.name (value_data a.value) others (value-no_float a.value) h)

-- so their text is exact
pub attributes-told : (text : String Global) (value : Data) (attributes : List Attr) → value ≡ attributes_data attributes → (has_float value ≡ false → string_bytes text ≡ compact_text value) → string_bytes text ≡ attributes_text attributes
unfolding attributes_text
attributes-told text value attributes is h = h (ap has_float is ∙ attributes-no_float attributes no_members refl) ∙ ap compact_text is
