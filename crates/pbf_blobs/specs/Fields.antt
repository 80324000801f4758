-- What single fields of a message say, and what all of them say together.
use Rattle.std.specs.Prelude.{ℕ, ◌==◌, Bool, true, false, if◌then◌else◌, Option, None, Some, Result, Ok, Err, List, fold}
use Rattle.std.specs.Option.{option_or}
use Rattle.tb_types.specs.declared.damage.Why.{Why}
use Rattle.tb_types.specs.declared.damage.Why.TheVariants as why
use Rattle.tb_wire.specs.declared.varint.Wire.{Wire}
use Rattle.tb_wire.specs.Field.{Value, Entry, number, eight_bytes, text, four_bytes}

abbrev pub as_text : Value → Option (List ℕ)
as_text (text bytes) = Some bytes
as_text (number n) = None
as_text (eight_bytes n) = None
as_text (four_bytes n) = None

abbrev pub as_number : Value → Option ℕ
as_number (number n) = Some n
as_number (text bytes) = None
as_number (eight_bytes n) = None
as_number (four_bytes n) = None

abbrev pub is_text_value : Value → Bool
is_text_value (text bytes) = true
is_text_value (number n) = false
is_text_value (eight_bytes n) = false
is_text_value (four_bytes n) = false

abbrev pub is_number_value : Value → Bool
is_number_value (number n) = true
is_number_value (text bytes) = false
is_number_value (eight_bytes n) = false
is_number_value (four_bytes n) = false

-- its wire type is that of bytes
abbrev pub is_text : Entry → Bool
is_text f = is_text_value f.value

-- its wire type is that of a varint
abbrev pub is_number : Entry → Bool
is_number f = is_number_value f.value

-- the bytes of a field, if it has this number and bytes
abbrev pub text_in : ℕ → Entry → Option (List ℕ)
text_in n f = if f.number == n then as_text f.value else None

-- the varint of a field, if it has this number and a varint
abbrev pub number_in : ℕ → Entry → Option ℕ
number_in n f = if f.number == n then as_number f.value else None

-- of what several fields give, the last counts
abbrev pub last_of : {A : Type 0} → (Entry → Option A) → List Entry → Option A
last_of read fields = fold (λ found f. option_or (read f) found) None fields

-- bytes that are no message
abbrev pub or_wire : {A : Type 0} → Result A Wire → Result A Why
or_wire (Ok x) = Ok x
or_wire (Err e) = Err why.Wire
