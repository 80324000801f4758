-- Varints and fields of one byte each.
use Rattle.std.proofs.Common.{◌≡◌, ℕ, ◌+◌, ◌-◌, ◌*◌, ◌/◌, ◌%◌, ◌^◌, ◌<◌, ◌≤◌, ◌||◌, nat_lt, nat_eq, true, false, Option, Some, Result, Ok, List, ◌∷◌, length, drop, get_or, slice_range, refl, ap, ◌∙◌, arith}
use Rattle.std.proofs.lemmas.List.{drop_more}
use Rattle.std.proofs.lemmas.Bool.{lt-ltb, le-ltb}
use Rattle.tb_wire.specs.Varint.{varint, varint_at, counted_from}
use Rattle.tb_wire.specs.Field.{Entry, text, value_at, field_at}

first_byte : (at b : ℕ) (rest : List ℕ) → nat_lt b 128 ≡ true → counted_from at (varint (b ∷ rest)) ≡ Ok (b, at + 1)
unfolding varint
first_byte at b rest small = rw small refl

pub short_varint : (bytes : List ℕ) (at : ℕ) → at < length bytes → get_or bytes at 0 < 128 → varint_at bytes at ≡ Ok (get_or bytes at 0, at + 1)
short_varint bytes at here small =
    ap (λ xs. counted_from at (varint xs)) (drop_more bytes at 0 here) ∙ first_byte at (get_or bytes at 0) (drop (at + 1) bytes) (lt-ltb (get_or bytes at 0) 128 small)

two_bytes : (at b d : ℕ) (rest : List ℕ) → nat_lt b 128 ≡ false → nat_lt d 128 ≡ true → counted_from at (varint (b ∷ d ∷ rest)) ≡ Ok (b - 128 + 128 * d, at + 2)
unfolding varint
two_bytes at b d rest large small = rw (large, small) refl

pub longer_varint : (bytes : List ℕ) (at : ℕ) → at + 1 < length bytes → 128 ≤ get_or bytes at 0 → get_or bytes (at + 1) 0 < 128 → varint_at bytes at ≡ Ok (get_or bytes at 0 - 128 + 128 * get_or bytes (at + 1) 0, at + 2)
longer_varint bytes at here large small =
    ap (λ xs. counted_from at (varint xs)) (drop_more bytes at 0 (omega arith) ∙ ap (λ xs. get_or bytes at 0 ∷ xs) (drop_more bytes (at + 1) 0 here))
    ∙ two_bytes at (get_or bytes at 0) (get_or bytes (at + 1) 0) (drop (at + 1 + 1) bytes) (le-ltb (get_or bytes at 0) 128 large) (lt-ltb (get_or bytes (at + 1) 0) 128 small)

-- a field of bytes whose tag and length are such varints
abbrev pub short_entry : List ℕ → ℕ → ℕ → ℕ → Entry
short_entry bytes at tag len = record { number = tag; value = text (slice_range bytes (at + 2) (at + 2 + len)) }

pub short_field : (bytes : List ℕ) (at tag len : ℕ) → nat_eq (length bytes) at ≡ false → varint_at bytes at ≡ Ok (tag, at + 1) → nat_eq (tag / 8) 0 ≡ false → nat_lt (2 ^ 29 - 1) (tag / 8) ≡ false → tag % 8 ≡ 2
    → varint_at bytes (at + 1) ≡ Ok (len, at + 2) → nat_lt (length bytes - (at + 2)) len ≡ false → field_at bytes at ≡ Ok (Some (short_entry bytes at (tag / 8) len, at + 2 + len))
unfolding field_at value_at
short_field bytes at tag len more first some few kind second fits = rw (more, first, some, few, kind, second, fits) refl

pub second_varint : (bytes : List ℕ) (at : ℕ) → at + 1 < length bytes → get_or bytes (at + 1) 0 < 128 → varint_at bytes (at + 1) ≡ Ok (get_or bytes (at + 1) 0, at + 2)
second_varint bytes at here small = let same : at + 1 + 1 ≡ at + 2 = omega arith in short_varint bytes (at + 1) here small ∙ ap (λ n. Ok (get_or bytes (at + 1) 0, n)) same
