-- Varints as signed numbers: in two's complement of 64 bits, or of the low 32 bits.
use Rattle.std.specs.Prelude.{ℕ, ℤ, pos, negsuc, ◌-◌, ◌%◌, ◌^◌, if◌then◌else◌, nat_lt}

-- an int64
abbrev pub signed_64 : ℕ → ℤ
signed_64 n = if nat_lt n (2 ^ 63) then pos n else negsuc (2 ^ 64 - 1 - n)

-- an int32 or uint32 has the low 32 bits of its varint
abbrev pub low_32 : ℕ → ℕ
low_32 n = n % 2 ^ 32

-- an int32
abbrev pub signed_32 : ℕ → ℤ
signed_32 n = if nat_lt (low_32 n) (2 ^ 31) then pos (low_32 n) else negsuc (2 ^ 32 - 1 - low_32 n)
