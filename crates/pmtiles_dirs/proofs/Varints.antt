-- The varints that bytes are, read one by one.
use Rattle.std.proofs.Common.{◌≡◌, ℕ, suc, ◌+◌, ◌<◌, None, Some, Result, Ok, Err, List, [], ◌∷◌, ◌++◌, length, refl, ap, sym, ◌∙◌, arith}
use Rattle.std.proofs.lemmas.List.{append-nil, length-append}
use Rattle.std.proofs.lemmas.Bool.{ne_eqb}
use Rattle.tb_wire.specs.declared.varint.Wire.{Wire}
use Rattle.tb_wire.specs.Items.{◌>>=◌, with_rest, with_prefix}
use Rattle.tb_wire.specs.Message.{packed, packed_at, number_at}
use Rattle.tb_wire.specs.Varint.{varint_at}
use Rattle.tb_wire.proofs.Items.{with_prefix-item}
use Rattle.tb_wire.proofs.Messages.{packed_at-step, number_at-end}
use Rattle.pmtiles_dirs.specs.Directory.{numbers_in, numbers_of, dir_in, IsFull}

pub number_at-read : (bytes : List ℕ) (at : ℕ) (r : Result (ℕ × ℕ) Wire) → at < length bytes → r ≡ varint_at bytes at → number_at bytes at ≡ r >>= λ n. Ok (Some n)
unfolding number_at
number_at-read bytes at r h read = rw (ne_eqb (length bytes) at (λ same. absurd (omega (arith, same))), ← read) refl

pub number_read : (bytes : List ℕ) (at : ℕ) (numbers : List ℕ) (n next : ℕ) (total : Result (List ℕ) Wire) → at < length bytes → Ok (n, next) ≡ varint_at bytes at
    → with_prefix numbers (packed_at bytes at) ≡ total → with_prefix (numbers ++ n ∷ []) (packed_at bytes next) ≡ total
number_read bytes at numbers n next total h read told =
    let step : packed_at bytes at ≡ packed_at bytes next >>= λ rest. Ok (n ∷ rest) =
    packed_at-step bytes at (omega arith) ∙ ap (λ r. r >>= with_rest (packed_at bytes)) (number_at-read bytes at (Ok (n, next)) h read) in
    sym (with_prefix-item numbers n (packed_at bytes next)) ∙ (ap (with_prefix numbers) (sym step) ∙ told)

pub no_number : (bytes : List ℕ) (at : ℕ) (prefix : List ℕ) (e : Wire) → at < length bytes → Err e ≡ varint_at bytes at → with_prefix prefix (packed_at bytes at) ≡ packed bytes → dir_in (numbers_of bytes) ≡ None
no_number bytes at prefix e h read told =
    let step : packed_at bytes at ≡ Err e = packed_at-step bytes at (omega arith) ∙ ap (λ r. r >>= with_rest (packed_at bytes)) (number_at-read bytes at (Err e) h read) in
    ap (λ r. dir_in (numbers_in r)) (sym told ∙ ap (with_prefix prefix) step)

-- numbers that are left over
too-many : (prefix : List ℕ) (x : ℕ) (rest : List ℕ) → IsFull prefix → dir_in (Some (prefix ++ x ∷ rest)) ≡ None
too-many [] x rest full = absurd full
too-many (n ∷ columns) x rest full =
    let size : length (columns ++ x ∷ rest) ≡ length columns + suc (length rest) = length-append columns (x ∷ rest) in
    rw (ne_eqb (length (columns ++ x ∷ rest)) (n + n + n + n) (λ same. absurd (omega (arith, size, full, same)))) refl

left-over : (prefix : List ℕ) (total r : Result (List ℕ) Wire) (n : Result (ℕ × ℕ) Wire) (more : ℕ → Result (List ℕ) Wire) → IsFull prefix → r ≡ (n >>= λ found. Ok (Some found)) >>= with_rest more → with_prefix prefix r ≡ total → dir_in (numbers_in total) ≡ None
left-over prefix total r (Err e) more full step told = ap (λ t. dir_in (numbers_in t)) (sym told ∙ ap (with_prefix prefix) step)
left-over prefix total r (Ok found) more full step told = by_rest (more found.1) (sym told ∙ ap (with_prefix prefix) step)
  where
    by_rest : (later : Result (List ℕ) Wire) → total ≡ with_prefix prefix (later >>= λ rest. Ok (found.0 ∷ rest)) → dir_in (numbers_in total) ≡ None
    by_rest (Err e) is = ap (λ t. dir_in (numbers_in t)) is
    by_rest (Ok rest) is = ap (λ t. dir_in (numbers_in t)) is ∙ too-many prefix found.0 rest full

pub full_before_end : (bytes : List ℕ) (at : ℕ) (prefix : List ℕ) → at < length bytes → IsFull prefix → with_prefix prefix (packed_at bytes at) ≡ packed bytes → dir_in (numbers_of bytes) ≡ None
full_before_end bytes at prefix h full told =
    let step : packed_at bytes at ≡ (varint_at bytes at >>= λ found. Ok (Some found)) >>= with_rest (packed_at bytes) =
    packed_at-step bytes at (omega arith) ∙ ap (λ r. r >>= with_rest (packed_at bytes)) (number_at-read bytes at (varint_at bytes at) h refl) in
    left-over prefix (packed bytes) (packed_at bytes at) (varint_at bytes at) (packed_at bytes) full step told

pub all_numbers : (bytes : List ℕ) (at : ℕ) (prefix : List ℕ) → length bytes ≡ at → with_prefix prefix (packed_at bytes at) ≡ packed bytes → Some prefix ≡ numbers_of bytes
all_numbers bytes at prefix h told =
    let step : packed_at bytes at ≡ Ok [] = packed_at-step bytes at (omega arith) ∙ ap (λ r. r >>= with_rest (packed_at bytes)) (number_at-end bytes at h) in
    ap Some (sym (append-nil prefix)) ∙ ap numbers_in (sym (ap (with_prefix prefix) step) ∙ told)
