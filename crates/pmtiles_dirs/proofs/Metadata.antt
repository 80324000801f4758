-- What is told of a map's layers has no float.
use Rattle.std.proofs.Common.{◌≡◌, ℕ, ◌||◌, Bool, true, false, List, [], ◌∷◌, refl, ap, ◌∙◌}
use Rattle.std.specs.declared.cmp.Ordering.{Ordering}
use Rattle.std.specs.declared.cmp.Ordering.TheVariants as orders
use Rattle.std.specs.Ordering.{nat_cmp, match_ordering}
use Rattle.std.specs.Cmp.Lexicographic.{slice_cmp}
use Rattle.serde_json.specs.Data.{Data, string, Members, member, no_members, put}
use Rattle.serde_json.specs.Written.{has_float, items_have_float, members_have_float}
use Rattle.tb_types.specs.declared.attribute.FieldKind.{FieldKind}
use Rattle.pmtiles_dirs.specs.declared.meta.MetaLayer.{MetaLayer}
use Rattle.std.specs.Prelude.{String, string_bytes}
use Rattle.std.specs.declared.alloc.Global.{Global}
use Rattle.serde_json.specs.Written.{compact_text}
use Rattle.pmtiles_dirs.specs.Meta.{kind_text, merged, with_fields, layer_data, layer_items, metadata_of, metadata_text}

neither : (a b : Bool) → (a || b) ≡ false → (a ≡ false) × (b ≡ false)
neither false b h = (refl, h)
neither true b h = let no : true ≡ false = h in absurd cc

none : (a b : Bool) → a ≡ false → b ≡ false → (a || b) ≡ false
none a b h k = rw (h, k) refl

placed : (key text name : List ℕ) (d : Data) (others : Members) (o : Ordering) → members_have_float (member name d others) ≡ false → members_have_float (put key (string text) others) ≡ false
    → members_have_float (match_ordering o (member key (string text) (member name d others)) (member name (string text) others) (member name d (put key (string text) others))) ≡ false
placed key text name d others orders.Less h rest = h
placed key text name d others orders.Equal h rest = (neither (has_float d) (members_have_float others) h).1
placed key text name d others orders.Greater h rest = none (has_float d) (members_have_float (put key (string text) others)) ((neither (has_float d) (members_have_float others) h).0) rest

put-text : (key text : List ℕ) (others : Members) → members_have_float others ≡ false → members_have_float (put key (string text) others) ≡ false
put-text key text no_members h = refl
put-text key text (member name d others) h = placed key text name d others (slice_cmp nat_cmp key name) h (put-text key text others ((neither (has_float d) (members_have_float others) h).1))

fields-no_float : (fields : List (List ℕ × FieldKind)) (others : Members) → members_have_float others ≡ false → members_have_float (with_fields others fields) ≡ false
fields-no_float [] others h = h
fields-no_float (f ∷ fields) others h = fields-no_float fields (put f.0 (string (kind_text f.1)) others) (put-text f.0 (kind_text f.1) others h)

layer-no_float : (layer : MetaLayer) → has_float (layer_data layer) ≡ false
unfolding layer_data
layer-no_float layer = none (members_have_float (with_fields no_members (merged layer.fields))) false (fields-no_float (merged layer.fields) no_members refl) refl

items-no_float : (layers : List MetaLayer) → items_have_float (layer_items layers) ≡ false
items-no_float [] = refl
items-no_float (layer ∷ layers) = none (has_float (layer_data layer)) (items_have_float (layer_items layers)) (layer-no_float layer) (items-no_float layers)

pub metadata-no_float : (name : List ℕ) (layers : List MetaLayer) → has_float (metadata_of name layers) ≡ false
unfolding metadata_of
metadata-no_float name layers = none (items_have_float (layer_items layers)) false (items-no_float layers) refl

pub metadata-told : (text : String Global) (value : Data) (name : List ℕ) (layers : List MetaLayer) → value ≡ metadata_of name layers
    → (has_float value ≡ false → string_bytes text ≡ compact_text value) → string_bytes text ≡ metadata_text name layers
unfolding metadata_text
metadata-told text value name layers is h = h (ap has_float is ∙ metadata-no_float name layers) ∙ ap compact_text is
