-- What holds of every profile.
use Rattle.std.specs.Prelude.{◌≡◌, ℕ, ◌<◌, ◌≤◌, true, All, length, map}
use Rattle.std.specs.List.{IsDistinct}
use Rattle.std.specs.Str.{bytes_eq}
use Rattle.tb_types.specs.declared.attribute.Attr.{Attr}
use Rattle.tb_types.specs.declared.attribute.AttrValue.{AttrValue}
use Rattle.tb_types.specs.declared.attribute.AttrValue.TheVariants as values
use Rattle.profile_rules.specs.declared.parts.LayerInfo.{LayerInfo}
use Rattle.profile_rules.specs.declared.parts.Rule.{Rule}
use Rattle.profile_rules.specs.declared.parts.Parts.{Parts}
use Rattle.profile_rules.specs.declared.spec.Spec.{Spec}
use Rattle.profile_rules.specs.declared.attribute.Constant.{Constant}
use Rattle.profile_rules.specs.declared.attribute.Constant.TheVariants as constants
use Rattle.profile_rules.specs.declared.attribute.Origin.{Origin}
use Rattle.profile_rules.specs.declared.attribute.Origin.TheVariants as origins
use Rattle.profile_rules.specs.declared.attribute.Attribute.{Attribute}
use Rattle.profile_rules.specs.Ranges.{fits_16, fits_64}

pub record IsSoundLayer (layer : LayerInfo) : Type 0 where
  pub named : 0 < length layer.id
  pub short : length layer.id ≤ 1024
  pub buffer : layer.buffer ≤ 256
  pub tolerance : layer.tolerance ≤ 64

-- whole constants have 64 bits
abbrev pub IsSoundConstant : Constant → Type 0
IsSoundConstant (constants.Whole n) = fits_64 n ≡ true
IsSoundConstant (constants.Text text) = Unit {0}
IsSoundConstant (constants.Truth b) = Unit {0}

abbrev pub IsSoundOrigin : Origin → Type 0
IsSoundOrigin (origins.Tag key form) = Unit {0}
IsSoundOrigin (origins.Constant constant) = IsSoundConstant constant

pub record IsSoundAttribute (attribute : Attribute) : Type 0 where
  pub named : 0 < length attribute.name
  pub origin : IsSoundOrigin attribute.origin

-- a rule of a profile with so many layers and these zooms
pub record IsSoundRule (layers min max : ℕ) (rule : Rule) : Type 0 where
  pub layer : rule.layer < layers
  pub first : min ≤ rule.min
  pub ordered : rule.min ≤ rule.max
  pub last : rule.max ≤ max
  pub order : fits_16 rule.order ≡ true
  pub few : length rule.attributes ≤ 64
  pub attributes : All IsSoundAttribute rule.attributes

pub record IsSound (parts : Parts) : Type 0 where
  pub some_layers : 0 < length parts.layers
  pub few_layers : length parts.layers ≤ 64
  pub few_rules : length parts.rules ≤ 1024
  pub ordered : parts.min ≤ parts.max
  pub last : parts.max ≤ 14
  pub layers : All IsSoundLayer parts.layers
  pub differ : IsDistinct bytes_eq (map (λ layer. layer.id) parts.layers)
  pub rules : All (IsSoundRule (length parts.layers) parts.min parts.max) parts.rules

-- a value of an attribute is a text, a whole number of 64 bits or a truth
abbrev pub IsSoundValue : AttrValue → Type 0
IsSoundValue (values.Whole n) = fits_64 n ≡ true
IsSoundValue (values.Text text) = Unit {0}
IsSoundValue (values.Truth b) = Unit {0}
IsSoundValue (values.Bits32 n) = ⊥
IsSoundValue (values.Bits64 n) = ⊥

pub record IsSoundAttr (attr : Attr) : Type 0 where
  pub named : 0 < length attr.name
  pub value : IsSoundValue attr.value

-- a spec of an element by a profile
pub record IsSoundSpec (parts : Parts) (spec : Spec) : Type 0 where
  pub rule : spec.rule < length parts.rules
  pub layer : spec.layer < length parts.layers
  pub first : parts.min ≤ spec.min
  pub ordered : spec.min ≤ spec.max
  pub last : spec.max ≤ parts.max
  pub order : fits_16 spec.order ≡ true
  pub few : length spec.attributes ≤ 64
  pub attributes : All IsSoundAttr spec.attributes
