-- Sums of differences, and locations in a block's unit.
use Rattle.std.specs.Prelude.{ℕ, ℤ, pos, negsuc, Bool, nat_lt, ◌^◌, ◌+ℤ◌, ◌*ℤ◌, nat_abs, nat_le, ◌&&◌, if◌then◌else◌, Option, None, Some, Result, Ok, Err, List, [], ◌∷◌, unwrap_or}
use Rattle.std.specs.Option.{option_map}
use Rattle.tb_types.specs.declared.damage.Why.{Why}
use Rattle.tb_types.specs.declared.damage.Why.TheVariants as reasons
use Rattle.tb_types.specs.declared.location.LatLon.{LatLon}
use Rattle.tb_types.specs.Zigzag.{unzigzag_of}
use Rattle.tb_wire.specs.Field.{Entry}
use Rattle.tb_types.specs.Results.{◌>>=◌}
use Rattle.osm_elements.specs.Fields.{last_number}
use Rattle.osm_elements.specs.Signed.{signed_32, signed_64}
use Rattle.osm_elements.specs.declared.granularity.Granularity.{Granularity}

-- a number of 64 bits
abbrev pub fits_64 : ℤ → Bool
fits_64 (pos n) = nat_lt n (2 ^ 63)
fits_64 (negsuc n) = nat_lt n (2 ^ 63)

-- The numbers whose differences these are, the first from the number before it. Each has 64 bits.
abbrev pub next_sum : ℤ → ℕ → Result ℤ Why
next_sum before d = if fits_64 (before +ℤ unzigzag_of d) then Ok (before +ℤ unzigzag_of d) else Err reasons.Range

abbrev pub sums_from : ℤ → List ℕ → Result (List ℤ) Why
sums_from before [] = Ok []
sums_from before (d ∷ differences) = next_sum before d >>= λ n. sums_from n differences >>= λ later. Ok (n ∷ later)

abbrev pub sums : List ℕ → Result (List ℤ) Why
sums differences = sums_from (pos 0) differences

-- the unit and the origin of a block's locations, in nanodegrees
abbrev pub granularity_of : List Entry → Result Granularity Why
granularity_of fields =
    last_number 17 fields >>= λ unit. last_number 19 fields >>= λ lat. last_number 20 fields >>= λ lon.
    Ok (record { unit = unwrap_or (option_map signed_32 unit) (pos 100); lat = unwrap_or (option_map signed_64 lat) (pos 0); lon = unwrap_or (option_map signed_64 lon) (pos 0) })

-- a location, if it is within 90 and 180 degrees
abbrev pub place_if : ℤ → ℤ → Option LatLon
place_if lat lon = if nat_le (nat_abs lat) 90000000000 && nat_le (nat_abs lon) 180000000000 then Some (record { lat = lat; lon = lon }) else None

abbrev pub place : Granularity → ℤ → ℤ → Option LatLon
place granularity lat lon = place_if (granularity.lat +ℤ granularity.unit *ℤ lat) (granularity.lon +ℤ granularity.unit *ℤ lon)
