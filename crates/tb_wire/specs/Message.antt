-- A message is the list of its fields, and a packed list is the list of its varints.
use Rattle.std.specs.Prelude.{ℕ, ◌+◌, ◌-◌, ◌*◌, ◌==◌, if◌then◌else◌, Option, None, Some, Result, Ok, List, ◌++◌, length}
use Rattle.tb_wire.specs.declared.varint.Wire.{Wire}
use Rattle.tb_wire.specs.Field.{Entry, field_at}
use Rattle.tb_wire.specs.Items.{◌>>=◌, items_from}
use Rattle.tb_wire.specs.Varint.{varint_at, encoding}

-- the fields from a place on, or why there is no message: no more than bytes, since each takes at least one
unfoldable pub message_at : List ℕ → ℕ → Result (List Entry) Wire
message_at bytes at = items_from (field_at bytes) (length bytes - at) at

-- the fields of a message, or why it is none
abbrev pub message : List ℕ → Result (List Entry) Wire
message bytes = message_at bytes 0

-- the varint at a place and the place after it, or none at the end
unfoldable pub number_at : List ℕ → ℕ → Result (Option (ℕ × ℕ)) Wire
number_at bytes at = if length bytes == at then Ok None else varint_at bytes at >>= λ n. Ok (Some n)

-- the varints of a packed list from a place on
unfoldable pub packed_at : List ℕ → ℕ → Result (List ℕ) Wire
packed_at bytes at = items_from (number_at bytes) (length bytes - at) at

-- the varints of a packed list, or why it is none
abbrev pub packed : List ℕ → Result (List ℕ) Wire
packed bytes = packed_at bytes 0

-- a field whose value is bytes, as it is written
unfoldable pub len_text : ℕ → List ℕ → List ℕ
len_text number body = encoding (number * 8 + 2) ++ encoding (length body) ++ body
