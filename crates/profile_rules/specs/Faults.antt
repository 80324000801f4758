-- Why a profile is refused: a part of it with a reason.
use Rattle.std.specs.Prelude.{◌≡◌, ℕ, Result, Ok, Err}
use Rattle.profile_rules.specs.declared.fault.Part.{Part}
use Rattle.profile_rules.specs.declared.fault.Spot.{Spot}
use Rattle.profile_rules.specs.declared.fault.ProfileWhy.{ProfileWhy}
use Rattle.profile_rules.specs.declared.fault.ProfileErr.{ProfileErr}
use Rattle.profile_rules.specs.declared.fault.ProfileErr.TheVariants as refusals
use Rattle.profile_rules.specs.declared.fault.PartErr.{PartErr}
use Rattle.profile_rules.specs.declared.fault.PartErr.TheVariants as faults

-- a part, and its first reason
abbrev pub Fault : Type 0
Fault = Spot × ProfileWhy

abbrev pub spot_of : Part → ℕ → Spot
spot_of part number = record { part = part; no = number }

-- what was read of the part at a spot
abbrev pub at_spot : {A : Type 0} → Spot → Result A ProfileWhy → Result A Fault
at_spot spot (Ok x) = Ok x
at_spot spot (Err why) = Err (spot, why)

-- the same of what the code reads
abbrev pub placed : {X : Type 0} → Spot → Result X PartErr → Result X ProfileErr
placed spot (Ok x) = Ok x
placed spot (Err (faults.Bad why)) = Err (refusals.Bad spot why)
placed spot (Err faults.Memory) = Err refusals.Memory

-- the reason of an error; want of memory has none
abbrev pub IsPartStop : {A : Type 0} → PartErr → Result A ProfileWhy → Type 0
IsPartStop (faults.Bad why) found = found ≡ Err why
IsPartStop faults.Memory found = Unit {0}

-- The code reads of a part what the definition does: the value, or the reason. It may want memory.
abbrev pub GivesPart : {X A : Type 0} → (X → A) → Result X PartErr → Result A ProfileWhy → Type 0
GivesPart view (Ok x) found = found ≡ Ok (view x)
GivesPart view (Err e) found = IsPartStop e found

-- the same of a profile as a whole
abbrev pub IsStop : {A : Type 0} → ProfileErr → Result A Fault → Type 0
IsStop (refusals.Bad spot why) found = found ≡ Err (spot, why)
IsStop refusals.Memory found = Unit {0}

abbrev pub Gives : {X A : Type 0} → (X → A) → Result X ProfileErr → Result A Fault → Type 0
Gives view (Ok x) found = found ≡ Ok (view x)
Gives view (Err e) found = IsStop e found
