-- Varints of one byte and of two.
use Rattle.std.proofs.Common.{◌≡◌, ℕ, ◌+◌, ◌-◌, ◌*◌, ◌<◌, ◌≤◌, nat_lt, true, false, Ok, List, ◌∷◌, drop, length, get_or, refl, sym, ap, ◌∙◌, arith}
use Rattle.std.proofs.lemmas.Bool.{lt-ltb, le-ltb}
use Rattle.std.proofs.lemmas.List.{drop_more}
use Rattle.tb_wire.specs.Varint.{varint, varint_at, counted_from}

of_one : (b : ℕ) (rest : List ℕ) → nat_lt b 128 ≡ true → varint (b ∷ rest) ≡ Ok (b, 1)
unfolding varint
of_one b rest small = rw small refl

of_two : (b c : ℕ) (rest : List ℕ) → nat_lt b 128 ≡ false → nat_lt c 128 ≡ true → varint (b ∷ c ∷ rest) ≡ Ok (b - 128 + 128 * c, 2)
unfolding varint
of_two b c rest large small = rw (large, small) refl

pub one-byte : (bytes : List ℕ) (at b : ℕ) → at < length bytes → get_or bytes at 0 ≡ b → b < 128 → Ok (b, at + 1) ≡ varint_at bytes at
one-byte bytes at b h is small = sym (ap (λ l. counted_from at (varint l)) (drop_more bytes at 0 h ∙ ap (λ n. n ∷ drop (at + 1) bytes) is) ∙ ap (counted_from at) (of_one b (drop (at + 1) bytes) (lt-ltb b 128 small)))

pub two-bytes : (bytes : List ℕ) (at b c : ℕ) → at + 1 < length bytes → get_or bytes at 0 ≡ b → get_or bytes (at + 1) 0 ≡ c → 128 ≤ b → c < 128 → Ok (b - 128 + 128 * c, at + 2) ≡ varint_at bytes at
two-bytes bytes at b c h is also large small =
    let prefix : drop at bytes ≡ b ∷ drop (at + 1) bytes = drop_more bytes at 0 (omega (arith, h)) ∙ ap (λ n. n ∷ drop (at + 1) bytes) is in
    let behind : drop (at + 1) bytes ≡ c ∷ drop (at + 1 + 1) bytes = drop_more bytes (at + 1) 0 h ∙ ap (λ n. n ∷ drop (at + 1 + 1) bytes) also in
    sym (ap (λ l. counted_from at (varint l)) (prefix ∙ ap (λ l. b ∷ l) behind) ∙ ap (counted_from at) (of_two b c (drop (at + 1 + 1) bytes) (le-ltb b 128 large) (lt-ltb c 128 small)))
