-- What the rules of a profile make of an element.
use Rattle.std.specs.Prelude.{ℕ, ℤ, pos, neg_ℤ, codes, Bool, true, false, ◌+◌, ◌-◌, ◌*◌, ◌==◌, ◌&&◌, ◌||◌, not, is_some, is_none, nat_lt, nat_le, if◌then◌else◌, Option, None, Some, List, [], ◌∷◌, length, map, filter, filter_map, option_map, option_and_then}
use Rattle.std.specs.List.{list_any, list_all, enumerate_from}
use Rattle.std.specs.Str.{bytes_eq, all_ascii_digits}
use Rattle.tb_types.specs.declared.attribute.Attr.{Attr}
use Rattle.tb_types.specs.declared.attribute.AttrValue.{AttrValue}
use Rattle.tb_types.specs.declared.attribute.AttrValue.TheVariants as values
use Rattle.tb_types.specs.declared.attribute.Tags.{Tags}
use Rattle.tb_types.specs.declared.element.Kind.{Kind}
use Rattle.tb_types.specs.declared.element.Kind.TheVariants as kinds
use Rattle.profile_rules.specs.declared.parts.Form.{Form}
use Rattle.profile_rules.specs.declared.parts.Form.TheVariants as forms
use Rattle.profile_rules.specs.declared.parts.Rule.{Rule}
use Rattle.profile_rules.specs.declared.parts.Parts.{Parts}
use Rattle.profile_rules.specs.declared.spec.Spec.{Spec}
use Rattle.profile_rules.specs.declared.condition.Condition.{Condition}
use Rattle.profile_rules.specs.declared.condition.Condition.TheVariants as conditions
use Rattle.profile_rules.specs.declared.attribute.ValueForm.{ValueForm}
use Rattle.profile_rules.specs.declared.attribute.ValueForm.TheVariants as read_as
use Rattle.profile_rules.specs.declared.attribute.Constant.{Constant}
use Rattle.profile_rules.specs.declared.attribute.Constant.TheVariants as constants
use Rattle.profile_rules.specs.declared.attribute.Origin.{Origin}
use Rattle.profile_rules.specs.declared.attribute.Origin.TheVariants as origins
use Rattle.profile_rules.specs.declared.attribute.Attribute.{Attribute}

-- a tag: its key and its value
abbrev pub Tag : Type 0
Tag = List ℕ × List ℕ

-- the value of a key: the first tag counts
abbrev pub tag_value : List ℕ → List Tag → Option (List ℕ)
tag_value key [] = None
tag_value key (tag ∷ more) = if bytes_eq tag.0 key then Some tag.1 else tag_value key more

abbrev pub is_one_of : List (List ℕ) → Option (List ℕ) → Bool
is_one_of values None = false
is_one_of values (Some value) = list_any (λ v. bytes_eq v value) values

abbrev pub is_other : List ℕ → Option (List ℕ) → Bool
is_other value None = true
is_other value (Some found) = not (bytes_eq found value)

-- whether a condition holds of an element with these tags
abbrev pub holds : List Tag → Condition → Bool
holds tags (conditions.Missing key) = is_none (tag_value key tags)
holds tags (conditions.Stands key) = is_some (tag_value key tags)
holds tags (conditions.OneOf key values) = is_one_of values (tag_value key tags)
holds tags (conditions.Other key value) = is_other value (tag_value key tags)

-- the texts that tell the relations that are areas
unfoldable pub type_key : List ℕ
type_key = codes "type"

unfoldable pub multipolygon : List ℕ
multipolygon = codes "multipolygon"

unfoldable pub boundary : List ℕ
boundary = codes "boundary"

abbrev pub is_area_type : Option (List ℕ) → Bool
is_area_type None = false
is_area_type (Some value) = bytes_eq value multipolygon || bytes_eq value boundary

-- Whether an element of this kind and these tags can have a form: nodes are points, ways lines or areas, and some
-- relations areas.
abbrev pub fits : List Tag → Kind → Form → Bool
fits tags kinds.Node forms.Point = true
fits tags kinds.Way forms.Line = true
fits tags kinds.Way forms.Area = true
fits tags kinds.Relation forms.Area = is_area_type (tag_value type_key tags)
fits tags _ _ = false

-- whether a rule is for this element
abbrev pub applies : List Tag → Kind → Rule → Bool
applies tags kind rule = fits tags kind rule.form && list_all (holds tags) rule.conditions

-- the number that ASCII digits are, behind those before them
abbrev pub number_from : ℕ → List ℕ → ℕ
number_from before [] = before
number_from before (c ∷ more) = number_from (10 * before + (c - 48)) more

-- 1 to 18 digits
abbrev pub digits_value : List ℕ → Option ℕ
digits_value text = if (nat_lt 0 (length text) && nat_le (length text) 18) && all_ascii_digits text then Some (number_from 0 text) else None

-- a whole number: an optional `-` before its digits
abbrev pub whole_value : List ℕ → Option ℤ
whole_value [] = None
whole_value (c ∷ more) =
    if c == 45 then option_map (λ n. neg_ℤ (pos n)) (digits_value more) else option_map (λ n. pos n) (digits_value (c ∷ more))

-- the words for true and for false
unfoldable pub yes_word : List ℕ
yes_word = codes "yes"

unfoldable pub true_word : List ℕ
true_word = codes "true"

unfoldable pub one_word : List ℕ
one_word = codes "1"

unfoldable pub no_word : List ℕ
no_word = codes "no"

unfoldable pub false_word : List ℕ
false_word = codes "false"

unfoldable pub zero_word : List ℕ
zero_word = codes "0"

abbrev pub truth_value : List ℕ → Option Bool
truth_value text =
    if bytes_eq text yes_word || (bytes_eq text true_word || bytes_eq text one_word) then Some true
    else if bytes_eq text no_word || (bytes_eq text false_word || bytes_eq text zero_word) then Some false
    else None

-- a tag's value in a form
abbrev pub value_in : ValueForm → List ℕ → Option AttrValue
value_in read_as.Text text = Some (values.Text text)
value_in read_as.Whole text = option_map (λ n. values.Whole n) (whole_value text)
value_in read_as.Truth text = option_map (λ b. values.Truth b) (truth_value text)

abbrev pub constant_value : Constant → AttrValue
constant_value (constants.Text text) = values.Text text
constant_value (constants.Whole n) = values.Whole n
constant_value (constants.Truth b) = values.Truth b

-- the value of an attribute, if an element with these tags has one
abbrev pub origin_value : List Tag → Origin → Option AttrValue
origin_value tags (origins.Tag key form) = option_and_then (value_in form) (tag_value key tags)
origin_value tags (origins.Constant constant) = Some (constant_value constant)

abbrev pub attr_of : List Tag → Attribute → Option Attr
attr_of tags attribute = option_map (λ value. record { name = attribute.name; value = value }) (origin_value tags attribute.origin)

-- what a rule makes of an element that it is for
abbrev pub spec_of : List Tag → ℕ × Rule → Spec
spec_of tags numbered =
    let rule = numbered.1 in
    record { rule = numbered.0; layer = rule.layer; order = rule.order; min = rule.min; max = rule.max; form = rule.form; attributes = filter_map (attr_of tags) rule.attributes }

-- what these rules, with their numbers, make of an element
abbrev pub specs_in : List Tag → Kind → List (ℕ × Rule) → List Spec
specs_in tags kind numbered = map (spec_of tags) (filter (λ r. applies tags kind r.1) numbered)

-- The specs of an element: the rules that are for it, in their order, each with what it makes of the element.
abbrev pub specs_of : Parts → Tags → Kind → List Spec
specs_of parts tags kind = specs_in tags.pairs kind (enumerate_from 0 parts.rules)
