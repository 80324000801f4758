-- Numbers within their ranges, and texts that aren't too long.
use Rattle.std.specs.Prelude.{ℕ, ℤ, pos, negsuc, Bool, ◌&&◌, nat_le, nat_lt, if◌then◌else◌, Option, None, Some, Result, Ok, Err, List, length}
use Rattle.profile_rules.specs.declared.fault.ProfileWhy.{ProfileWhy}
use Rattle.profile_rules.specs.declared.fault.ProfileWhy.TheVariants as reasons
use Rattle.profile_rules.specs.Turns.{◌>>=◌}

abbrev pub is_short : List ℕ → Bool
is_short text = nat_le (length text) 1024

-- a number from `low` to `high`
abbrev pub within : ℕ → ℕ → ℤ → Result ℕ ProfileWhy
within low high (pos n) = if nat_le low n && nat_le n high then Ok n else Err reasons.Range
within low high (negsuc n) = Err reasons.Range

-- the same with a default
abbrev pub within_or : ℕ → ℕ → ℕ → Option ℤ → Result ℕ ProfileWhy
within_or usual low high None = Ok usual
within_or usual low high (Some n) = within low high n

-- a first and a last zoom from `low` to `high`, which are also their defaults
abbrev pub zooms_within : ℕ → ℕ → Option ℤ → Option ℤ → Result (ℕ × ℕ) ProfileWhy
zooms_within low high first last =
    within_or low low high first >>= λ first. within_or high low high last >>= λ last.
    if nat_le first last then Ok (first, last) else Err reasons.Range

-- a number of 16 bits
abbrev pub fits_16 : ℤ → Bool
fits_16 (pos n) = nat_lt n 32768
fits_16 (negsuc n) = nat_lt n 32768

-- a number of 64 bits
abbrev pub fits_64 : ℤ → Bool
fits_64 (pos n) = nat_lt n 9223372036854775808
fits_64 (negsuc n) = nat_lt n 9223372036854775808

-- the order of a rule's features
abbrev pub order_or_0 : Option ℤ → Result ℤ ProfileWhy
order_or_0 None = Ok (pos 0)
order_or_0 (Some n) = if fits_16 n then Ok n else Err reasons.Range
