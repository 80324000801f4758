-- What is told of a profile: its name, zooms and layers, and the fields of each layer.
use Rattle.std.specs.Prelude.{ℕ, ◌==◌, if◌then◌else◌, List, [], ◌∷◌, ◌++◌, map}
use Rattle.std.specs.List.Sorted.{IsStrictlySortedBy}
use Rattle.std.specs.Ordering.{nat_cmp, is_eq, match_ordering}
use Rattle.std.specs.Cmp.Lexicographic.{slice_cmp}
use Rattle.tb_types.specs.declared.attribute.FieldKind.{FieldKind}
use Rattle.tb_types.specs.declared.attribute.FieldKind.TheVariants as kinds
use Rattle.profile_rules.specs.declared.parts.LayerInfo.{LayerInfo}
use Rattle.profile_rules.specs.declared.parts.Rule.{Rule}
use Rattle.profile_rules.specs.declared.parts.Parts.{Parts}
use Rattle.profile_rules.specs.declared.attribute.ValueForm.TheVariants as read_as
use Rattle.profile_rules.specs.declared.attribute.Constant.TheVariants as constants
use Rattle.profile_rules.specs.declared.attribute.Origin.{Origin}
use Rattle.profile_rules.specs.declared.attribute.Origin.TheVariants as origins
use Rattle.profile_rules.specs.declared.attribute.Attribute.{Attribute}

abbrev pub name_of : Parts → List ℕ
name_of parts = parts.name

abbrev pub zooms_of : Parts → ℕ × ℕ
zooms_of parts = (parts.min, parts.max)

abbrev pub layers_of : Parts → List LayerInfo
layers_of parts = parts.layers

-- a field: the name of an attribute, and the kind of its values
abbrev pub Field : Type 0
Field = List ℕ × FieldKind

-- the kind of the values that an attribute has
abbrev pub kind_of : Origin → FieldKind
kind_of (origins.Tag key read_as.Text) = kinds.Text
kind_of (origins.Tag key read_as.Whole) = kinds.Number
kind_of (origins.Tag key read_as.Truth) = kinds.Boolean
kind_of (origins.Constant (constants.Text text)) = kinds.Text
kind_of (origins.Constant (constants.Whole n)) = kinds.Number
kind_of (origins.Constant (constants.Truth b)) = kinds.Boolean

-- a name of several kinds is a text
abbrev pub both_kinds : FieldKind → FieldKind → FieldKind
both_kinds kinds.Number kinds.Number = kinds.Number
both_kinds kinds.Boolean kinds.Boolean = kinds.Boolean
both_kinds _ _ = kinds.Text

-- the kind that a name has among these fields, with one more kind
abbrev pub joined_kind : List ℕ → FieldKind → List Field → FieldKind
joined_kind name kind [] = kind
joined_kind name kind (f ∷ more) = if is_eq (slice_cmp nat_cmp name f.0) then both_kinds f.1 kind else joined_kind name kind more

-- the fields with this one in its place, by the order of the names' bytes
abbrev pub put_field : List ℕ → FieldKind → List Field → List Field
put_field name kind [] = (name, kind) ∷ []
put_field name kind (f ∷ more) = match_ordering (slice_cmp nat_cmp name f.0) ((name, kind) ∷ f ∷ more) ((f.0, kind) ∷ more) (f ∷ put_field name kind more)

abbrev pub with_field : List ℕ → FieldKind → List Field → List Field
with_field name kind fields = put_field name (joined_kind name kind fields) fields

abbrev pub with_fields : List Field → List Attribute → List Field
with_fields found [] = found
with_fields found (attribute ∷ more) = with_fields (with_field attribute.name (kind_of attribute.origin) found) more

-- the attributes of a layer's rules
abbrev pub own_attributes : ℕ → Rule → List Attribute
own_attributes layer rule = if rule.layer == layer then rule.attributes else []

abbrev pub attributes_in : ℕ → List Rule → List Attribute
attributes_in layer [] = []
attributes_in layer (rule ∷ more) = own_attributes layer rule ++ attributes_in layer more

-- the names ascend by their bytes, so each stands once
abbrev pub IsAscending : List Field → Type 0
IsAscending fields = IsStrictlySortedBy (slice_cmp nat_cmp) (map (λ f. f.0) fields)

-- The fields of a layer: each name of an attribute of its rules once, in the order of their bytes, with its kind.
abbrev pub fields_of : Parts → ℕ → List Field
fields_of parts layer = with_fields [] (attributes_in layer parts.rules)
