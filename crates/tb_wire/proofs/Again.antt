-- What is put is read again, whatever follows it.
use Rattle.std.proofs.Common.{◌≡◌, ◌≢◌, ℕ, zero, suc, ◌+◌, ◌-◌, ◌*◌, ◌/◌, ◌%◌, ◌^◌, ◌<◌, ◌≤◌, List, ◌++◌, Bool, true, false, nat_lt, nat_eq, Ok, Some, length, refl, sym, arith, take, drop, append_assoc, length-append}
use Rattle.std.proofs.lemmas.Bool.{le-ltb, ne_eqb}
use Rattle.std.proofs.Math.Seq.{drop-append_seam, take-append_seam}
use Rattle.tb_wire.specs.Varint.{varint_of, varint, varint_at, encoding, encoding_within}
use Rattle.tb_wire.specs.Field.{Value, text, part_at, value_at, field_at}
use Rattle.tb_wire.specs.Message.{len_text}
use Rattle.tb_wire.specs.Again.{VarintsAreReadAgain, FieldsAreReadAgain}
use Rattle.tb_wire.proofs.Varints.{rest_below}

-- the varint at the front is the number that was put there
abbrev pub IsReadAgain : ℕ → ℕ → List ℕ → Type 0
IsReadAgain more n behind = varint_of more (encoding_within more n ++ behind) ≡ Ok (n, length (encoding_within more n))

-- a byte that isn't the last
pub one_more : (more n : ℕ) (behind : List ℕ) → nat_lt n 128 ≡ false → IsReadAgain more (n / 128) behind → IsReadAgain (suc more) n behind
one_more more n behind large again =
    let more_to_come : nat_lt (n % 128 + 128) 128 ≡ false = le-ltb (n % 128 + 128) 128 (omega arith) in
    let number : n % 128 + 128 - 128 + 128 * (n / 128) ≡ n = omega arith in
    let count : length (encoding_within more (n / 128)) + 1 ≡ suc (length (encoding_within more (n / 128))) = omega arith in
    rw (large, more_to_come, again, number, count) refl

-- the last byte, or one before it
pub by_size : (more n : ℕ) (behind : List ℕ) (b : Bool) → nat_lt n 128 ≡ b → IsReadAgain more (n / 128) behind → IsReadAgain (suc more) n behind
by_size more n behind true small again = rw (small, small) refl
by_size more n behind false large again = one_more more n behind large again

pub read_again : (more n : ℕ) (behind : List ℕ) → n < 2 ^ (7 * more + 1) → IsReadAgain more n behind
read_again zero n behind below = let e : nat_lt 1 n ≡ false = le-ltb 1 n (omega arith) in rw e refl
read_again (suc more) n behind below =
    let less : 7 * (suc more - 1) + 1 ≡ 7 * more + 1 = omega arith in
    let rest : n / 128 < 2 ^ (7 * more + 1) = rw less at (rest_below (suc more) n (omega arith) below) in
    by_size more n behind (nat_lt n 128) refl (read_again more (n / 128) behind rest)

pub encoding_read_again : (n : ℕ) (behind : List ℕ) → n < 2 ^ 64 → varint (encoding n ++ behind) ≡ Ok (n, length (encoding n))
unfolding varint encoding
encoding_read_again n behind below = read_again 9 n behind below

-- a varint that stands between others
pub read_between : (before behind : List ℕ) (n : ℕ) → n < 2 ^ 64 → varint_at (before ++ (encoding n ++ behind)) (length before) ≡ Ok (n, length before + length (encoding n))
read_between before behind n below =
    let seam : drop (length before) (before ++ (encoding n ++ behind)) ≡ encoding n ++ behind = drop-append_seam before (encoding n ++ behind) in
    rw (seam, encoding_read_again n behind below) refl

pub varints_are_read_again : VarintsAreReadAgain
varints_are_read_again before behind n below = rw append_assoc (read_between before behind n below)

-- the encoding of a number has a byte
pub encoding_within-some : (more n : ℕ) → 0 < length (encoding_within more n)
encoding_within-some zero n = omega arith
encoding_within-some (suc more) n = by_test (nat_lt n 128) refl
  where
    by_test : (b : Bool) → nat_lt n 128 ≡ b → 0 < length (encoding_within (suc more) n)
    by_test true e = rw e (omega arith)
    by_test false e = rw e (omega arith)

pub encoding-some : (n : ℕ) → 0 < length (encoding n)
unfolding encoding
encoding-some n = encoding_within-some 9 n

-- the bytes between two parts
pub part_between : (before body behind : List ℕ) (at : ℕ) → at ≡ length before → part_at (before ++ (body ++ behind)) at (length body) ≡ Ok (body, at + length body)
part_between before body behind at here =
    let fits : nat_lt (length (before ++ (body ++ behind)) - at) (length body) ≡ false = le-ltb _ _ (omega (arith, length-append before (body ++ behind), length-append body behind)) in
    let seam : drop at (before ++ (body ++ behind)) ≡ body ++ behind = rw here (drop-append_seam before (body ++ behind)) in
    let count : at + length body - at ≡ length body = omega arith in
    let prefix : take (length body) (body ++ behind) ≡ body = take-append_seam body behind in
    rw (fits, seam, count, prefix) refl

-- the value of a field of bytes, behind its tag
value_between : (before body behind : List ℕ) → length body < 2 ^ 64 → value_at (before ++ (encoding (length body) ++ (body ++ behind))) 2 (length before)
    ≡ Ok (text body, length before + length (encoding (length body)) + length body)
unfolding value_at
value_between before body behind fits =
    let len = encoding (length body) in
    let read = read_between before (body ++ behind) (length body) fits in
    let whole : before ++ (len ++ (body ++ behind)) ≡ (before ++ len) ++ (body ++ behind) = sym (append_assoc before len (body ++ behind)) in
    let part = part_between (before ++ len) body behind (length before + length len) (sym (length-append before len)) in
    rw read (rw whole (rw part refl))

-- a field from its tag and its value
field_of_parts : (bytes : List ℕ) (at next number : ℕ) (v : Value × ℕ) → length bytes ≢ at → varint_at bytes at ≡ Ok (number * 8 + 2, next) → 1 ≤ number → number < 2 ^ 29 → value_at bytes 2 next ≡ Ok v
    → field_at bytes at ≡ Ok (Some (record { number = number; value = v.0 }, v.1))
unfolding field_at
field_of_parts bytes at next number v more read some below value =
    let not_end : nat_eq (length bytes) at ≡ false = ne_eqb (length bytes) at more in
    let its_number : (number * 8 + 2) / 8 ≡ number = omega arith in
    let its_type : (number * 8 + 2) % 8 ≡ 2 = omega arith in
    let is_some_number : nat_eq number 0 ≡ false = ne_eqb number 0 (omega arith) in
    let is_small : nat_lt (2 ^ 29 - 1) number ≡ false = le-ltb (2 ^ 29 - 1) number (omega arith) in
    rw (not_end, read, its_number, its_type, is_some_number, is_small, value) refl

pub fields_are_read_again : FieldsAreReadAgain
unfolding len_text
fields_are_read_again before body behind number some below fits =
    let tag = encoding (number * 8 + 2) in
    let len = encoding (length body) in
    let rest = len ++ (body ++ behind) in
    let whole : (before ++ ((tag ++ len) ++ body)) ++ behind ≡ before ++ (tag ++ rest) = simp append_assoc in
    let behind_tag : before ++ (tag ++ rest) ≡ (before ++ tag) ++ rest = sym (append_assoc before tag rest) in
    let place : length before + length tag ≡ length (before ++ tag) = sym (length-append before tag) in
    let more : length (before ++ (tag ++ rest)) ≢ length before = λ same. absurd (omega (arith, same, length-append before (tag ++ rest), length-append tag rest, encoding-some (number * 8 + 2))) in
    let read = read_between before rest (number * 8 + 2) (omega arith) in
    let value : value_at (before ++ (tag ++ rest)) 2 (length before + length tag) ≡ Ok (text body, length (before ++ tag) + length len + length body) =
    rw (behind_tag, place) (value_between (before ++ tag) body behind fits) in
    let end : length (before ++ tag) + length len + length body ≡ length before + length ((tag ++ len) ++ body) =
    omega (arith, length-append before tag, length-append (tag ++ len) body, length-append tag len) in
    rw (whole, ← end) (field_of_parts (before ++ (tag ++ rest)) (length before) (length before + length tag) number _ more read some below value)
