-- The metadata of a map: its name, and its layers with their fields (PMTiles 3, section 5).
use Rattle.std.specs.Prelude.{ℕ, List, [], ◌∷◌, if◌then◌else◌, map, codes}
use Rattle.std.specs.Ordering.{nat_cmp, is_eq, match_ordering}
use Rattle.std.specs.Cmp.Lexicographic.{slice_cmp}
use Rattle.serde_json.specs.Data.{Data, string, array, object, Items, Members, member, no_members, put}
use Rattle.serde_json.specs.View.{items_of}
use Rattle.serde_json.specs.Written.{compact_text}
use Rattle.tb_types.specs.declared.attribute.FieldKind.{FieldKind}
use Rattle.tb_types.specs.declared.attribute.FieldKind.TheVariants as kinds
use Rattle.pmtiles_dirs.specs.declared.meta.MetaLayer.{MetaLayer}

-- what is said of a kind of values
unfoldable pub kind_text : FieldKind → List ℕ
kind_text kinds.Text = codes "String"
kind_text kinds.Number = codes "Number"
kind_text kinds.Boolean = codes "Boolean"

-- a field: its name, and the kind of its values
abbrev pub Field : Type 0
Field = List ℕ × FieldKind

-- values of several kinds are texts
abbrev pub both_kinds : FieldKind → FieldKind → FieldKind
both_kinds kinds.Number kinds.Number = kinds.Number
both_kinds kinds.Boolean kinds.Boolean = kinds.Boolean
both_kinds _ _ = kinds.Text

-- the kind that a name has among fields, with one more kind
abbrev pub joined_kind : List ℕ → FieldKind → List Field → FieldKind
joined_kind name kind [] = kind
joined_kind name kind (f ∷ more) = if is_eq (slice_cmp nat_cmp name f.0) then both_kinds f.1 kind else joined_kind name kind more

-- fields with this one in its place, by the order of the names' bytes
abbrev pub put_field : List ℕ → FieldKind → List Field → List Field
put_field name kind [] = (name, kind) ∷ []
put_field name kind (f ∷ more) = match_ordering (slice_cmp nat_cmp name f.0) ((name, kind) ∷ f ∷ more) ((f.0, kind) ∷ more) (f ∷ put_field name kind more)

abbrev pub with_field : List Field → Field → List Field
with_field found f = put_field f.0 (joined_kind f.0 f.1 found) found

-- fields with each name once: one that has several kinds has texts
abbrev pub merged_into : List Field → List Field → List Field
merged_into found [] = found
merged_into found (f ∷ fields) = merged_into (with_field found f) fields

abbrev pub merged : List Field → List Field
merged fields = merged_into [] fields

-- the members with these fields, each with its kind
abbrev pub with_fields : Members → List Field → Members
with_fields members [] = members
with_fields members (f ∷ fields) = with_fields (put f.0 (string (kind_text f.1)) members) fields

unfoldable pub layer_data : MetaLayer → Data
layer_data layer = object (member (codes "fields") (object (with_fields no_members (merged layer.fields))) (member (codes "id") (string layer.id) no_members))

abbrev pub layer_items : List MetaLayer → Items
layer_items layers = items_of (map layer_data layers)

unfoldable pub metadata_of : List ℕ → List MetaLayer → Data
metadata_of name layers = object (member (codes "name") (string name) (member (codes "vector_layers") (array (layer_items layers)) no_members))

unfoldable pub metadata_text : List ℕ → List MetaLayer → List ℕ
metadata_text name layers = compact_text (metadata_of name layers)
