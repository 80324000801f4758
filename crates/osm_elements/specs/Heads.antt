-- What stands once in a block: its strings, and the unit and the origin of its locations.
use Rattle.std.specs.Prelude.{ℕ, Option, Result, Ok, Err, List, pos, unwrap_or}
use Rattle.std.specs.Option.{option_map}
use Rattle.tb_types.specs.declared.damage.Why.{Why}
use Rattle.tb_types.specs.declared.damage.Why.TheVariants as reasons
use Rattle.tb_types.specs.Results.{◌>>=◌}
use Rattle.tb_wire.specs.Field.{Value, Entry, number, eight_bytes, text, four_bytes}
use Rattle.osm_elements.specs.Fields.{fields_of, all_of, last_number}
use Rattle.osm_elements.specs.Signed.{signed_32, signed_64}
use Rattle.osm_elements.specs.Walks.{bodies_at}
use Rattle.osm_elements.specs.Words.{seen_words}
use Rattle.osm_elements.specs.declared.granularity.Granularity.{Granularity}
use Rattle.osm_elements.specs.declared.block.Head.{Head}

-- the strings of a table
abbrev pub some_strings : Value → Result (List (List ℕ)) Why
some_strings (text bytes) = bodies_at 1 bytes 0
some_strings (number n) = Err reasons.Wire
some_strings (eight_bytes n) = Err reasons.Wire
some_strings (four_bytes n) = Err reasons.Wire

abbrev pub granularity_from : Option ℕ → Option ℕ → Option ℕ → Granularity
granularity_from unit lat lon = record { unit = unwrap_or (option_map signed_32 unit) (pos 100); lat = unwrap_or (option_map signed_64 lat) (pos 0); lon = unwrap_or (option_map signed_64 lon) (pos 0) }

-- the numbers as they stand
abbrev pub head_numbers : List ℕ → Result (List (List ℕ) × Option ℕ × Option ℕ × Option ℕ) Why
head_numbers raw =
    fields_of raw >>= λ fields. all_of some_strings 1 fields >>= λ strings. last_number 17 fields >>= λ unit. last_number 19 fields >>= λ lat.
    last_number 20 fields >>= λ lon. Ok (strings, unit, lat, lon)

abbrev pub head_from : List (List ℕ) × Option ℕ × Option ℕ × Option ℕ → Result (List (List ℕ) × Granularity) Why
head_from n = Ok (n.0, granularity_from n.1 n.2 n.3)

abbrev pub head_of : List ℕ → Result (List (List ℕ) × Granularity) Why
head_of raw = head_numbers raw >>= head_from

abbrev pub seen_head : Head → List (List ℕ) × Granularity
seen_head h = (seen_words h.strings.items, h.granularity)
