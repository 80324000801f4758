-- The rules of a profile.
use Rattle.std.specs.Prelude.{ℕ, ℤ, codes, Bool, ◌&&◌, nat_le, if◌then◌else◌, Option, Result, Ok, Err, List, length}
use Rattle.std.specs.List.{list_all}
use Rattle.std.specs.Str.{bytes_eq}
use Rattle.toml.specs.Data.{Members}
use Rattle.profile_rules.specs.declared.fault.ProfileWhy.{ProfileWhy}
use Rattle.profile_rules.specs.declared.fault.ProfileWhy.TheVariants as reasons
use Rattle.profile_rules.specs.declared.key.Key.TheVariants as keys
use Rattle.profile_rules.specs.declared.parts.Form.{Form}
use Rattle.profile_rules.specs.declared.parts.Form.TheVariants as forms
use Rattle.profile_rules.specs.declared.parts.LayerInfo.{LayerInfo}
use Rattle.profile_rules.specs.declared.parts.Rule.{Rule}
use Rattle.profile_rules.specs.Turns.{◌>>=◌}
use Rattle.profile_rules.specs.Keys.{rule_keys, has_only}
use Rattle.profile_rules.specs.Kinds.{text_at, whole_at, texts_at, tables_at, required}
use Rattle.profile_rules.specs.Ranges.{is_short, zooms_within, order_or_0}
use Rattle.profile_rules.specs.Layers.{layer_named}
use Rattle.profile_rules.specs.Conditions.{conditions_of}
use Rattle.profile_rules.specs.Attributes.{has_short_texts, attributes_of}

-- a rule whose values are of the right kinds
pub record RuleShape : Type 0 where
  pub layer : List ℕ
  pub form : Form
  pub conditions : List (List ℕ)
  pub first : Option ℤ
  pub last : Option ℤ
  pub order : Option ℤ
  pub attributes : List Members

-- the texts of the forms
unfoldable pub point_word : List ℕ
point_word = codes "point"

unfoldable pub line_word : List ℕ
line_word = codes "line"

unfoldable pub area_word : List ℕ
area_word = codes "area"

abbrev pub form_of : List ℕ → Result Form ProfileWhy
form_of name =
    if bytes_eq name point_word then Ok forms.Point
    else if bytes_eq name line_word then Ok forms.Line
    else if bytes_eq name area_word then Ok forms.Area
    else Err reasons.Shape

abbrev pub rule_shape : Members → Result RuleShape ProfileWhy
rule_shape table =
    text_at keys.Layer table >>= λ layer. required layer >>= λ layer. text_at keys.Kind table >>= λ kind. required kind >>= λ kind. form_of kind >>= λ form.
    texts_at keys.When table >>= λ conditions. whole_at keys.Minzoom table >>= λ first. whole_at keys.Maxzoom table >>= λ last.
    whole_at keys.Order table >>= λ order. tables_at keys.Attributes table >>= λ attributes.
    Ok (record { layer = layer; form = form; conditions = conditions; first = first; last = last; order = order; attributes = attributes })

-- no list and no text is too long
abbrev pub are_texts_short : RuleShape → Bool
are_texts_short shape = is_short shape.layer && (list_all is_short shape.conditions && list_all has_short_texts shape.attributes)

abbrev pub are_lists_short : RuleShape → Bool
are_lists_short shape = nat_le (length shape.conditions) 16 && nat_le (length shape.attributes) 64

-- the zooms and the order of a rule
abbrev pub rule_within : ℕ × ℕ → RuleShape → Result (ℕ × ℕ × ℤ) ProfileWhy
rule_within zooms shape =
    if are_texts_short shape && are_lists_short shape then
    (zooms_within zooms.0 zooms.1 shape.first shape.last >>= λ own. order_or_0 shape.order >>= λ order. Ok (own.0, own.1, order))
    else Err reasons.Range

-- A rule of a profile of these zooms and layers, or the first of its reasons in the order unknown, shape, range, layer,
-- condition, attribute.
abbrev pub rule_of : ℕ × ℕ → List LayerInfo → Members → Result Rule ProfileWhy
rule_of zooms layers table =
    if has_only rule_keys table then
    (rule_shape table >>= λ shape. rule_within zooms shape >>= λ numbers. layer_named layers shape.layer >>= λ layer.
    conditions_of shape.conditions >>= λ conditions. attributes_of shape.attributes >>= λ attributes.
    Ok (record { layer = layer; form = shape.form; conditions = conditions; min = numbers.0; max = numbers.1; order = numbers.2; attributes = attributes }))
    else Err reasons.Unknown
