-- That a profile is sound is a fact, so a struct can keep it.
use mathlib.Core.Bool.{Bool-set}
use Rattle.std.specs.Coded.{Unit-prop}
use Rattle.std.proofs.Props.{props}
use Rattle.std.proofs.lemmas.Map.Keys.{IsDistinct-prop}
use Rattle.profile_rules.specs.declared.attribute.Constant.{Constant}
use Rattle.profile_rules.specs.declared.attribute.Constant.TheVariants as constants
use Rattle.profile_rules.specs.declared.attribute.Origin.{Origin}
use Rattle.profile_rules.specs.declared.attribute.Origin.TheVariants as origins
use Rattle.profile_rules.specs.Sound.{IsSoundConstant, IsSoundOrigin}

pub IsSoundConstant-prop : (c : Constant) → IsProp (IsSoundConstant c)
IsSoundConstant-prop (constants.Whole n) = Bool-set _ _
IsSoundConstant-prop (constants.Text text) = Unit-prop
IsSoundConstant-prop (constants.Truth b) = Unit-prop

pub IsSoundOrigin-prop : (o : Origin) → IsProp (IsSoundOrigin o)
IsSoundOrigin-prop (origins.Tag key form) = Unit-prop
IsSoundOrigin-prop (origins.Constant constant) = IsSoundConstant-prop constant

pub ruleset profile_props = (IsDistinct-prop, IsSoundOrigin-prop, props)
