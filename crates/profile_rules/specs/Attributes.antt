-- Attributes, and the tables that they are written as.
use Rattle.std.specs.Prelude.{ℕ, ℤ, codes, Bool, true, ◌==◌, ◌&&◌, if◌then◌else◌, Option, None, Some, Result, Ok, Err, List, [], length, unwrap_or}
use Rattle.std.specs.List.{list_any}
use Rattle.std.specs.Str.{bytes_eq}
use Rattle.toml.specs.Data.{Data, as_str, as_integer, as_bool, Members, no_members, member}
use Rattle.profile_rules.specs.declared.fault.ProfileWhy.{ProfileWhy}
use Rattle.profile_rules.specs.declared.fault.ProfileWhy.TheVariants as reasons
use Rattle.profile_rules.specs.declared.key.Key.TheVariants as keys
use Rattle.profile_rules.specs.declared.attribute.ValueForm.{ValueForm}
use Rattle.profile_rules.specs.declared.attribute.ValueForm.TheVariants as forms
use Rattle.profile_rules.specs.declared.attribute.Constant.{Constant}
use Rattle.profile_rules.specs.declared.attribute.Constant.TheVariants as constants
use Rattle.profile_rules.specs.declared.attribute.Origin.{Origin}
use Rattle.profile_rules.specs.declared.attribute.Origin.TheVariants as origins
use Rattle.profile_rules.specs.declared.attribute.Attribute.{Attribute}
use Rattle.profile_rules.specs.Turns.{◌>>=◌, in_turn}
use Rattle.profile_rules.specs.Keys.{attribute_keys, has_only, value_at}
use Rattle.profile_rules.specs.Kinds.{text_or, if_there}
use Rattle.profile_rules.specs.Ranges.{is_short, fits_64}

abbrev pub is_short_if : Option (List ℕ) → Bool
is_short_if None = true
is_short_if (Some text) = is_short text

-- the texts among the values of a table aren't too long
abbrev pub has_short_texts : Members → Bool
has_short_texts no_members = true
has_short_texts (member name d more) = is_short_if (as_str d) && has_short_texts more

-- a constant is a text, a whole number, which has 64 bits as all of TOML's have, or a truth
abbrev pub constant_from : Option (List ℕ) → Option ℤ → Option Bool → Result Constant ProfileWhy
constant_from (Some text) n b = Ok (constants.Text text)
constant_from None (Some n) b = if fits_64 n then Ok (constants.Whole n) else Err reasons.Attribute
constant_from None None (Some b) = Ok (constants.Truth b)
constant_from None None None = Err reasons.Attribute

abbrev pub constant_of : Data → Result Constant ProfileWhy
constant_of d = constant_from (as_str d) (as_integer d) (as_bool d)

-- the texts of the forms
unfoldable pub text_word : List ℕ
text_word = codes "text"

unfoldable pub whole_word : List ℕ
whole_word = codes "int"

unfoldable pub truth_word : List ℕ
truth_word = codes "bool"

abbrev pub form_named : List ℕ → Result ValueForm ProfileWhy
form_named name =
    if bytes_eq name text_word then Ok forms.Text
    else if bytes_eq name whole_word then Ok forms.Whole
    else if bytes_eq name truth_word then Ok forms.Truth
    else Err reasons.Attribute

abbrev pub form_or_text : Option (List ℕ) → Result ValueForm ProfileWhy
form_or_text None = Ok forms.Text
form_or_text (Some name) = form_named name

-- a name isn't empty
abbrev pub named : List ℕ → Origin → Result Attribute ProfileWhy
named name origin = if length name == 0 then Err reasons.Attribute else Ok (record { name = name; origin = origin })

-- an attribute from its key, its name, its form and its value, as far as they stand
abbrev pub attribute_from : Option (List ℕ) → Option (List ℕ) → Option (List ℕ) → Option Constant → Result Attribute ProfileWhy
attribute_from (Some key) name form None = form_or_text form >>= λ form. named (unwrap_or name key) (origins.Tag key form)
attribute_from None (Some name) None (Some value) = named name (origins.Constant value)
attribute_from _ _ _ _ = Err reasons.Attribute

-- A table `{ key = K, name = N, form = F }` or `{ name = N, value = C }`.
abbrev pub attribute_of : Members → Result Attribute ProfileWhy
attribute_of table =
    if has_only attribute_keys table then
    (if_there (text_or reasons.Attribute) (value_at keys.TagKey table) >>= λ key. if_there (text_or reasons.Attribute) (value_at keys.Name table) >>= λ name.
    if_there (text_or reasons.Attribute) (value_at keys.Form table) >>= λ form. if_there constant_of (value_at keys.Value table) >>= λ value.
    attribute_from key name form value)
    else Err reasons.Attribute

abbrev pub has_name : List ℕ → Attribute → Bool
has_name name attribute = bytes_eq attribute.name name

-- a name is none of those before it
abbrev pub if_other_name : List Attribute → Attribute → Result Attribute ProfileWhy
if_other_name before attribute = if list_any (has_name attribute.name) before then Err reasons.Attribute else Ok attribute

abbrev pub next_attribute : List Attribute → Members → Result Attribute ProfileWhy
next_attribute before table = attribute_of table >>= if_other_name before

abbrev pub attributes_of : List Members → Result (List Attribute) ProfileWhy
attributes_of tables = in_turn next_attribute [] tables
