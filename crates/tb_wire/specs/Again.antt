-- What is put is read again, whatever stands before and behind it.
use Rattle.std.specs.Prelude.{◌≡◌, ℕ, ◌+◌, ◌^◌, ◌<◌, ◌≤◌, Some, Ok, List, ◌++◌, length}
use Rattle.tb_wire.specs.Varint.{varint_at, encoding}
use Rattle.tb_wire.specs.Field.{text, field_at}
use Rattle.tb_wire.specs.Message.{len_text}

abbrev pub VarintsAreReadAgain : Type 0
VarintsAreReadAgain = (before behind : List ℕ) (n : ℕ) → n < 2 ^ 64 →
    varint_at (before ++ encoding n ++ behind) (length before) ≡ Ok (n, length before + length (encoding n))

abbrev pub FieldsAreReadAgain : Type 0
FieldsAreReadAgain = (before body behind : List ℕ) (number : ℕ) → 1 ≤ number → number < 2 ^ 29 → length body < 2 ^ 64 →
    field_at (before ++ len_text number body ++ behind) (length before)
    ≡ Ok (Some (record { number = number; value = text body }, length before + length (len_text number body)))
