-- What reading a profile answers.
use Rattle.std.specs.Prelude.{◌≡◌, ℕ, Bool, true, false, Result, Ok, Err, List, Vec}
use Rattle.std.specs.declared.alloc.Global.{Global}
use Rattle.profile_rules.specs.declared.parts.Parts.{Parts}
use Rattle.profile_rules.specs.Faults.{Fault}
use Rattle.profile_rules.specs.Profile.{profile_of}
use Rattle.build_one.specs.declared.stop.ProfileStop.{ProfileStop}
use Rattle.build_one.specs.declared.stop.ProfileStop.TheVariants as stops

-- it is the profile, or its first fault
abbrev pub ReadsProfile : Result Parts ProfileStop → Result Parts Fault → Type 0
ReadsProfile (Ok parts) found = found ≡ Ok parts
ReadsProfile (Err (stops.Bad spot why)) found = found ≡ Err (spot, why)
ReadsProfile (Err stops.Failed) found = Unit {0}
ReadsProfile (Err stops.Memory) found = Unit {0}

-- it is the text, or that is refused by its length
abbrev pub LoadsText : Result (Vec ℕ Global) ProfileStop → List ℕ → Type 0
LoadsText (Ok loaded) text = loaded.items ≡ text
LoadsText (Err (stops.Bad spot why)) text = profile_of text ≡ Err (spot, why)
LoadsText (Err stops.Failed) text = Unit {0}
LoadsText (Err stops.Memory) text = Unit {0}

-- the profile's source failed
abbrev pub profile_failed : {A : Type 0} → Result A ProfileStop → Bool
profile_failed (Ok x) = false
profile_failed (Err (stops.Bad spot why)) = false
profile_failed (Err stops.Failed) = true
profile_failed (Err stops.Memory) = false
