-- What the items of a feature have in common, where it is of a sound spec.
use mathlib.Core.Bool.{Bool-set}
use Rattle.std.specs.Prelude.{◌≡◌, ℕ, ◌^◌, ◌<◌, ◌≤◌, true, All}
use Rattle.std.specs.Coded.{Unit-prop}
use Rattle.std.proofs.Props.{props}
use Rattle.tb_types.specs.declared.attribute.AttrValue.{AttrValue}
use Rattle.tb_types.specs.declared.attribute.AttrValue.TheVariants as values
use Rattle.profile_rules.specs.Ranges.{fits_16}
use Rattle.profile_rules.specs.Sound.{IsSoundAttr, IsSoundValue}
use Rattle.pass_shapes.specs.declared.pieces.Label.{Label}

-- its numbers are within their types, there are so many layers, at most 64, and each attribute is one that rules make
pub record IsSoundLabel (layers : ℕ) (label : Label) : Type 0 where
  pub layer : label.key.layer < layers
  pub few : layers ≤ 64
  pub order : fits_16 label.key.order ≡ true
  pub block : label.key.place.block < 2 ^ 32
  pub index : label.key.place.index < 2 ^ 32
  pub rule : label.key.rule < 2 ^ 16
  pub id : label.id < 2 ^ 64
  pub attributes : All IsSoundAttr label.attributes

-- this is a fact, so a struct can keep it
pub IsSoundValue-prop : (v : AttrValue) → IsProp (IsSoundValue v)
IsSoundValue-prop (values.Text text) = Unit-prop
IsSoundValue-prop (values.Whole z) = Bool-set _ _
IsSoundValue-prop (values.Truth b) = Unit-prop
IsSoundValue-prop (values.Bits32 n) = λ x y. absurd x
IsSoundValue-prop (values.Bits64 n) = λ x y. absurd x

pub ruleset label_props = (IsSoundValue-prop, props)
