-- Fields of a message: a tag, which is a number and a wire type, and a value.
use Rattle.std.specs.Prelude.{ℕ, ◌+◌, ◌-◌, ◌/◌, ◌%◌, ◌^◌, ◌==◌, ◌||◌, if◌then◌else◌, nat_lt, Option, None, Some, Result, Ok, Err, List, length, slice_range}
use Rattle.std.specs.Int.{w32, w64, from_le_bytes}
use Rattle.std.specs.Borrow.{Bor}
use Rattle.tb_wire.specs.declared.varint.Wire.{Wire}
use Rattle.tb_wire.specs.declared.varint.Wire.TheVariants.{Cut, Tag}
use Rattle.tb_wire.specs.declared.field.FieldValue.{FieldValue}
use Rattle.tb_wire.specs.declared.field.FieldValue.TheVariants.{Varint, Fixed64, Bytes, Fixed32}
use Rattle.tb_wire.specs.declared.field.Field.{Field}
use Rattle.tb_wire.specs.Items.{◌>>=◌}
use Rattle.tb_wire.specs.Varint.{varint_at}

-- a value, by its wire type
pub data Value : Type 0 where
  number : ℕ → Value
  eight_bytes : ℕ → Value
  text : List ℕ → Value
  four_bytes : ℕ → Value

-- a field: its number and its value
pub record Entry : Type 0 where
  pub number : ℕ
  pub value : Value

-- so many bytes of the message, and the place after them
abbrev pub part_at : List ℕ → ℕ → ℕ → Result (List ℕ × ℕ) Wire
part_at bytes at len = if nat_lt (length bytes - at) len then Err Cut else Ok (slice_range bytes at (at + len), at + len)

-- the value of a wire type, and the place after it
unfoldable pub value_at : List ℕ → ℕ → ℕ → Result (Value × ℕ) Wire
value_at bytes wire_type at =
    if wire_type == 0 then (varint_at bytes at >>= λ n. Ok (number n.0, n.1))
    else if wire_type == 1 then (part_at bytes at 8 >>= λ p. Ok (eight_bytes (from_le_bytes w64 p.0), p.1))
    else if wire_type == 2 then (varint_at bytes at >>= λ n. part_at bytes n.1 n.0 >>= λ p. Ok (text p.0, p.1))
    else if wire_type == 5 then (part_at bytes at 4 >>= λ p. Ok (four_bytes (from_le_bytes w32 p.0), p.1))
    else Err Tag

-- the field at a place and the place after it, or none at the end
unfoldable pub field_at : List ℕ → ℕ → Result (Option (Entry × ℕ)) Wire
field_at bytes at =
    if length bytes == at then Ok None
    else varint_at bytes at >>= λ tag.
    if (tag.0 / 8 == 0) || nat_lt (2 ^ 29 - 1) (tag.0 / 8) then Err Tag
    else value_at bytes (tag.0 % 8) tag.1 >>= λ v. Ok (Some (record { number = tag.0 / 8; value = v.0 }, v.1))

-- what the code answers, without where its bytes lie
abbrev pub value_of : FieldValue → Value
value_of (Varint n) = number n
value_of (Fixed64 n) = eight_bytes n
value_of (Bytes b) = text b.now
value_of (Fixed32 n) = four_bytes n

abbrev pub entry_of : Field → Entry
entry_of f = record { number = f.number; value = value_of f.value }

abbrev pub seen_value : Result (FieldValue × ℕ) Wire → Result (Value × ℕ) Wire
seen_value (Ok v) = Ok (value_of v.0, v.1)
seen_value (Err e) = Err e

abbrev pub seen_field : Result (Option Field) Wire → Result (Option (Entry × ℕ)) Wire
seen_field (Ok None) = Ok None
seen_field (Ok (Some f)) = Ok (Some (entry_of f, f.next))
seen_field (Err e) = Err e

abbrev pub seen_part : Result (Bor (List ℕ) × ℕ) Wire → Result (List ℕ × ℕ) Wire
seen_part (Ok p) = Ok (p.0.now, p.1)
seen_part (Err e) = Err e
