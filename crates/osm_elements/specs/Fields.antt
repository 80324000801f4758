-- What the list of a message's fields says.
use Rattle.std.specs.Prelude.{ℕ, ◌==◌, if◌then◌else◌, Option, None, Some, Result, Ok, Err, List, [], ◌∷◌, ◌++◌}
use Rattle.tb_types.specs.declared.damage.Why.{Why}
use Rattle.tb_types.specs.declared.damage.Why.TheVariants as reasons
use Rattle.tb_wire.specs.declared.varint.Wire.{Wire}
use Rattle.tb_wire.specs.Field.{Value, Entry, number, eight_bytes, text, four_bytes}
use Rattle.tb_wire.specs.Message.{message, packed}
use Rattle.tb_types.specs.Results.{◌>>=◌}

-- whatever is no message has one reason
abbrev pub or_wire : {A : Type 0} → Result A Wire → Result A Why
or_wire (Ok x) = Ok x
or_wire (Err e) = Err reasons.Wire

-- the fields of a message
abbrev pub fields_of : List ℕ → Result (List Entry) Why
fields_of bytes = or_wire (message bytes)

-- the varint that a field has
abbrev pub one_number : Value → Result (List ℕ) Why
one_number (number n) = Ok (n ∷ [])
one_number (text bytes) = Err reasons.Wire
one_number (eight_bytes n) = Err reasons.Wire
one_number (four_bytes n) = Err reasons.Wire

-- the varints that a field has: one, or a packed list
abbrev pub some_numbers : Value → Result (List ℕ) Why
some_numbers (number n) = Ok (n ∷ [])
some_numbers (text bytes) = or_wire (packed bytes)
some_numbers (eight_bytes n) = Err reasons.Wire
some_numbers (four_bytes n) = Err reasons.Wire

-- the bytes that a field has
abbrev pub one_body : Value → Result (List (List ℕ)) Why
one_body (text bytes) = Ok (bytes ∷ [])
one_body (number n) = Err reasons.Wire
one_body (eight_bytes n) = Err reasons.Wire
one_body (four_bytes n) = Err reasons.Wire

-- the fields of the message that a field has
abbrev pub some_fields : Value → Result (List Entry) Why
some_fields (text bytes) = fields_of bytes
some_fields (number n) = Err reasons.Wire
some_fields (eight_bytes n) = Err reasons.Wire
some_fields (four_bytes n) = Err reasons.Wire

-- what a field has, if it is one of this number
abbrev pub if_numbered : {A : Type 0} → (Value → Result (List A) Why) → ℕ → Entry → Result (List A) Why
if_numbered read n f = if f.number == n then read f.value else Ok []

-- what all fields of a number have, one after another
abbrev pub all_of : {A : Type 0} → (Value → Result (List A) Why) → ℕ → List Entry → Result (List A) Why
all_of read n [] = Ok []
all_of read n (f ∷ fields) = if_numbered read n f >>= λ these. all_of read n fields >>= λ later. Ok (these ++ later)

-- the last of a list, or this where it is empty
abbrev pub last_or : {A : Type 0} → Option A → List A → Option A
last_or before [] = before
last_or before (x ∷ xs) = last_or (Some x) xs

abbrev pub last_read : {A : Type 0} → Option A → Result (List A) Why → Result (Option A) Why
last_read before (Ok xs) = Ok (last_or before xs)
last_read before (Err why) = Err why

-- the last varint of a number, if there is one
abbrev pub last_number : ℕ → List Entry → Result (Option ℕ) Why
last_number n fields = last_read None (all_of one_number n fields)

-- all varints of a number, packed and unpacked
abbrev pub numbers : ℕ → List Entry → Result (List ℕ) Why
numbers n fields = all_of some_numbers n fields

-- the bytes of each field of a number
abbrev pub bodies : ℕ → List Entry → Result (List (List ℕ)) Why
bodies n fields = all_of one_body n fields

-- the fields of all messages of a number: they count as one message
abbrev pub merged_fields : ℕ → List Entry → Result (List Entry) Why
merged_fields n fields = all_of some_fields n fields

-- what was read before what is read of the rest
abbrev pub with_found : {A : Type 0} → List A → Result (List A) Why → Result (List A) Why
with_found prefix (Ok rest) = Ok (prefix ++ rest)
with_found prefix (Err why) = Err why
