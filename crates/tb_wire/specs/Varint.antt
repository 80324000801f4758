-- Varints of Protocol Buffers: seven bits a byte, the least first.
use Rattle.std.specs.Prelude.{ℕ, zero, suc, ◌+◌, ◌-◌, ◌*◌, ◌/◌, ◌%◌, List, [], ◌∷◌, nat_lt, if◌then◌else◌, Result, Ok, Err, drop}
use Rattle.tb_wire.specs.declared.varint.Wire.{Wire}
use Rattle.tb_wire.specs.declared.varint.Wire.TheVariants.{Cut, Long}

-- a byte with more to come, before the number that the bytes after it stand for
abbrev pub after_byte : ℕ → Result (ℕ × ℕ) Wire → Result (ℕ × ℕ) Wire
after_byte b (Ok rest) = Ok (b - 128 + 128 * rest.0, rest.1 + 1)
after_byte b (Err e) = Err e

-- The number at the front, and how many bytes it takes: at most `more` and one. The last that may stand there is
-- at most 1: so with 9 more the number is below 2 ^ 64.
abbrev pub varint_of : ℕ → List ℕ → Result (ℕ × ℕ) Wire
varint_of more [] = Err Cut
varint_of zero (b ∷ bytes) = if nat_lt 1 b then Err Long else Ok (b, 1)
varint_of (suc more) (b ∷ bytes) = if nat_lt b 128 then Ok (b, 1) else after_byte b (varint_of more bytes)

-- what was read behind the first `at` bytes, with its end counted from the front
abbrev pub counted_from : ℕ → Result (ℕ × ℕ) Wire → Result (ℕ × ℕ) Wire
counted_from at (Ok found) = Ok (found.0, at + found.1)
counted_from at (Err e) = Err e

-- the varint at the front: at most ten bytes, and below 2 ^ 64
unfoldable pub varint : List ℕ → Result (ℕ × ℕ) Wire
varint bytes = varint_of 9 bytes

-- the varint at a place of the bytes, and the place after it
abbrev pub varint_at : List ℕ → ℕ → Result (ℕ × ℕ) Wire
varint_at bytes at = counted_from at (varint (drop at bytes))

-- The shortest encoding of a number below 2 ^ (7 * more + 7).
abbrev pub encoding_within : ℕ → ℕ → List ℕ
encoding_within zero n = n ∷ []
encoding_within (suc more) n = if nat_lt n 128 then n ∷ [] else (n % 128 + 128) ∷ encoding_within more (n / 128)

-- the shortest encoding of a number below 2 ^ 64
unfoldable pub encoding : ℕ → List ℕ
encoding n = encoding_within 9 n
