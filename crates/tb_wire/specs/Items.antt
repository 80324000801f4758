-- Items that follow one another up to the end of the bytes.
use Rattle.std.specs.Prelude.{ℕ, zero, suc, Option, None, Some, Result, Ok, Err, List, [], ◌∷◌, ◌++◌}
pub use Rattle.tb_types.specs.Results.{◌>>=◌}
use Rattle.tb_wire.specs.declared.varint.Wire.{Wire}

-- an item, and then what is read from the place behind it on, or nothing at the end
abbrev pub with_rest : {A : Type 0} → (ℕ → Result (List A) Wire) → Option (A × ℕ) → Result (List A) Wire
with_rest read_on None = Ok []
with_rest read_on (Some item) = read_on item.1 >>= λ rest. Ok (item.0 ∷ rest)

-- the items from a place on, at most so many, by what reads one and tells the place behind it
abbrev pub items_from : {A : Type 0} → (ℕ → Result (Option (A × ℕ)) Wire) → ℕ → ℕ → Result (List A) Wire
items_from read zero at = Ok []
items_from read (suc most) at = read at >>= with_rest (items_from read most)

-- items that were read, before what is read of the rest
abbrev pub with_prefix : {A : Type 0} → List A → Result (List A) Wire → Result (List A) Wire
with_prefix prefix (Ok rest) = Ok (prefix ++ rest)
with_prefix prefix (Err e) = Err e
