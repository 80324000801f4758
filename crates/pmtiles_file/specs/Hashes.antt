-- Hashes of contents, by which equal ones are looked for.
use Rattle.std.specs.Prelude.{ℕ, zero, suc, ◌+◌, ◌*◌, ◌/◌, ◌%◌, ◌^◌, ◌==◌, bit_xor, if◌then◌else◌, Option, None, Some, List, get_or}
use Rattle.std.specs.List.{fold}

-- the high bits of a number of 64 bits come down to the low ones
abbrev pub mixed : ℕ → ℕ
mixed n = bit_xor n (n / 2 ^ 32)

-- a state with one byte more
unfoldable pub next_state : ℕ → ℕ → ℕ
next_state state byte = mixed ((((state + (byte + 1)) % 2 ^ 64) * 11400714819323198485) % 2 ^ 64)

-- the upper half of the last state
unfoldable pub hash_of : List ℕ → ℕ
hash_of bytes = fold next_state 0 bytes / 2 ^ 32

-- the last of the first so many contents that has a hash
abbrev pub last_with : ℕ → List ℕ → ℕ → Option ℕ
last_with hash hashes zero = None
last_with hash hashes (suc n) = if get_or hashes n 0 == hash then Some n else last_with hash hashes n
