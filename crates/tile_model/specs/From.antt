-- Where a build has its profile from.
use Rattle.std.specs.Prelude.{◌<◌, length}
use Rattle.tile_model.specs.declared.from.ProfileFrom.{ProfileFrom}
use Rattle.tile_model.specs.declared.from.ProfileFrom.TheVariants as profiles

-- the key of a rule isn't empty
abbrev pub IsKeyed : ProfileFrom → Type 0
IsKeyed profiles.Read = Unit {0}
IsKeyed (profiles.OneRule key) = 0 < length key
IsKeyed profiles.Trial = Unit {0}

-- a key needs no source, nor does a trial
abbrev pub IsAlone : ProfileFrom → Type 0
IsAlone profiles.Read = ⊥
IsAlone (profiles.OneRule key) = Unit {0}
IsAlone profiles.Trial = Unit {0}
