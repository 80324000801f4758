-- A message is read field by field: what is left from a place on is a field there and what is left behind it.
use Rattle.std.proofs.Common.{◌≡◌, ℕ, zero, suc, ◌+◌, ◌-◌, ◌/◌, ◌%◌, ◌^◌, ◌≤◌, ◌||◌, ◌==◌, nat_lt, Option, None, IfOk, IfSome, IfNone, Result, Ok, Err, List, [], ◌∷◌, length, take, drop, refl, sym, arith, sum_by, length-drop, length-take}
use Rattle.std.proofs.lemmas.Bool.{ltb-false, eq-eqb, eqb-true}
use Rattle.tb_wire.specs.declared.varint.Wire.{Wire}
use Rattle.tb_wire.specs.declared.varint.Wire.TheVariants.{Long}
use Rattle.tb_wire.specs.Varint.{varint_of, varint, varint_at, after_byte, counted_from}
use Rattle.tb_wire.specs.Field.{Entry, Value, number, eight_bytes, text, four_bytes, part_at, value_at, field_at}
use Rattle.tb_wire.specs.Items.{◌>>=◌, with_rest}
use Rattle.tb_wire.specs.Message.{message_at, number_at, packed_at}
use Rattle.tb_wire.proofs.Items.{IsAfter, IfOk-either, IfOk-next, items_from-step, items_from-weighs}

after_byte-within : (b n : ℕ) (r : Result (ℕ × ℕ) Wire) → IfOk r (λ v. IsAfter 0 n v.1) → IfOk (after_byte b r) (λ v. IsAfter 0 (suc n) v.1)
after_byte-within b n (Ok v) h = (omega arith, omega arith)
after_byte-within b n (Err e) h = tt

pub varint_of-within : (more : ℕ) (bytes : List ℕ) → IfOk (varint_of more bytes) (λ v. IsAfter 0 (length bytes) v.1)
varint_of-within more [] = tt
varint_of-within zero (b ∷ bytes) = IfOk-either (λ v. IsAfter 0 (suc (length bytes)) v.1) (nat_lt 1 b) (Err Long) (Ok (b, 1)) (λ _. tt) (λ _. (omega arith, omega arith))
varint_of-within (suc more) (b ∷ bytes) =
    IfOk-either (λ v. IsAfter 0 (suc (length bytes)) v.1) (nat_lt b 128) (Ok (b, 1)) (after_byte b (varint_of more bytes)) (λ _. (omega arith, omega arith))
    (λ _. after_byte-within b (length bytes) (varint_of more bytes) (varint_of-within more bytes))

counted_from-within : (at n : ℕ) (r : Result (ℕ × ℕ) Wire) → at ≤ n → IfOk r (λ v. IsAfter 0 (n - at) v.1) → IfOk (counted_from at r) (λ v. IsAfter at n v.1)
counted_from-within at n (Ok v) h k = (omega arith, omega arith)
counted_from-within at n (Err e) h k = tt

pub varint_at-within : (bytes : List ℕ) (at : ℕ) → at ≤ length bytes → IfOk (varint_at bytes at) (λ v. IsAfter at (length bytes) v.1)
unfolding varint
varint_at-within bytes at h = counted_from-within at (length bytes) (varint_of 9 (drop at bytes)) h (rw length-drop at (varint_of-within 9 (drop at bytes)))

pub part_at-within : (bytes : List ℕ) (at len : ℕ) → at ≤ length bytes → IfOk (part_at bytes at len) (λ p. (at ≤ p.1) × (p.1 ≤ length bytes))
part_at-within bytes at len h =
    IfOk-either (λ p. (at ≤ p.1) × (p.1 ≤ length bytes)) (nat_lt (length bytes - at) len) _ _ (λ _. tt) (λ e. let fits : len ≤ length bytes - at = ltb-false _ _ e in (omega arith, omega arith))

pub value_at-within : (bytes : List ℕ) (wire_type at : ℕ) → at ≤ length bytes → IfOk (value_at bytes wire_type at) (λ v. (at ≤ v.1) × (v.1 ≤ length bytes))
unfolding value_at
value_at-within bytes wire_type at h =
    let P : Value × ℕ → Type 0 = λ v. (at ≤ v.1) × (v.1 ≤ length bytes) in
    IfOk-either P (wire_type == 0) _ _
    (λ _. IfOk-next (λ n. IsAfter at (length bytes) n.1) P (varint_at bytes at) _ (varint_at-within bytes at h) (λ n w. (omega (arith, w.0), w.1)))
    (λ _. IfOk-either P (wire_type == 1) _ _
    (λ _. IfOk-next (λ p. (at ≤ p.1) × (p.1 ≤ length bytes)) P (part_at bytes at 8) _ (part_at-within bytes at 8 h) (λ p w. w))
    (λ _. IfOk-either P (wire_type == 2) _ _
    (λ _. IfOk-next (λ n. IsAfter at (length bytes) n.1) P (varint_at bytes at) _ (varint_at-within bytes at h)
    (λ n w. IfOk-next (λ p. (n.1 ≤ p.1) × (p.1 ≤ length bytes)) P (part_at bytes n.1 n.0) _ (part_at-within bytes n.1 n.0 w.1) (λ p q. (omega (arith, w.0, q.0), q.1))))
    (λ _. IfOk-either P (wire_type == 5) _ _
    (λ _. IfOk-next (λ p. (at ≤ p.1) × (p.1 ≤ length bytes)) P (part_at bytes at 4) _ (part_at-within bytes at 4 h) (λ p w. w))
    (λ _. tt))))

-- the place behind a field
pub field_at-within : (bytes : List ℕ) (at : ℕ) → at ≤ length bytes → IfOk (field_at bytes at) (λ found. IfSome found (λ f. IsAfter at (length bytes) f.1))
unfolding field_at
field_at-within bytes at h =
    let P : Option (Entry × ℕ) → Type 0 = λ found. IfSome found (λ f. IsAfter at (length bytes) f.1) in
    IfOk-either P (length bytes == at) _ _ (λ _. tt)
    (λ _. IfOk-next (λ n. IsAfter at (length bytes) n.1) P (varint_at bytes at) _ (varint_at-within bytes at h)
    (λ n w. IfOk-either P ((n.0 / 8 == 0) || nat_lt (2 ^ 29 - 1) (n.0 / 8)) _ _ (λ _. tt)
    (λ _. IfOk-next (λ v. (n.1 ≤ v.1) × (v.1 ≤ length bytes)) P (value_at bytes (n.0 % 8) n.1) _ (value_at-within bytes (n.0 % 8) n.1 w.1)
    (λ v q. (omega (arith, w.0, q.0), q.1)))))

pub field_at-end : (bytes : List ℕ) (at : ℕ) → length bytes ≡ at → field_at bytes at ≡ Ok None
unfolding field_at
field_at-end bytes at h = rw (eq-eqb (length bytes) at h) refl

-- what is left of a message is a field and what is left behind it
pub message_at-step : (bytes : List ℕ) (at : ℕ) → at ≤ length bytes → message_at bytes at ≡ field_at bytes at >>= with_rest (message_at bytes)
unfolding message_at
message_at-step bytes at h = items_from-step (field_at bytes) (length bytes) (field_at-within bytes) (field_at-end bytes (length bytes) refl) at h

pub number_at-within : (bytes : List ℕ) (at : ℕ) → at ≤ length bytes → IfOk (number_at bytes at) (λ found. IfSome found (λ n. IsAfter at (length bytes) n.1))
unfolding number_at
number_at-within bytes at h =
    let P : Option (ℕ × ℕ) → Type 0 = λ found. IfSome found (λ n. IsAfter at (length bytes) n.1) in
    IfOk-either P (length bytes == at) _ _ (λ _. tt) (λ _. IfOk-next (λ n. IsAfter at (length bytes) n.1) P (varint_at bytes at) _ (varint_at-within bytes at h) (λ n w. w))

pub number_at-end : (bytes : List ℕ) (at : ℕ) → length bytes ≡ at → number_at bytes at ≡ Ok None
unfolding number_at
number_at-end bytes at h = rw (eq-eqb (length bytes) at h) refl

-- what is left of a packed list is a varint and what is left behind it
pub packed_at-step : (bytes : List ℕ) (at : ℕ) → at ≤ length bytes → packed_at bytes at ≡ number_at bytes at >>= with_rest (packed_at bytes)
unfolding packed_at
packed_at-step bytes at h = items_from-step (number_at bytes) (length bytes) (number_at-within bytes) (number_at-end bytes (length bytes) refl) at h

after_byte-short : (b n : ℕ) (r : Result (ℕ × ℕ) Wire) → IfOk r (λ v. v.1 ≤ n) → IfOk (after_byte b r) (λ v. v.1 ≤ n + 1)
after_byte-short b n (Ok v) h = omega (arith, h)
after_byte-short b n (Err e) h = tt

pub varint_of-short : (more : ℕ) (bytes : List ℕ) → IfOk (varint_of more bytes) (λ v. v.1 ≤ more + 1)
varint_of-short more [] = tt
varint_of-short zero (b ∷ bytes) = IfOk-either (λ v. v.1 ≤ 0 + 1) (nat_lt 1 b) (Err Long) (Ok (b, 1)) (λ _. tt) (λ _. omega arith)
varint_of-short (suc more) (b ∷ bytes) =
    IfOk-either (λ v. v.1 ≤ suc more + 1) (nat_lt b 128) (Ok (b, 1)) (after_byte b (varint_of more bytes)) (λ _. omega arith)
    (λ _. let step : more + 1 + 1 ≡ suc more + 1 = omega arith in rw step at (after_byte-short b (more + 1) (varint_of more bytes) (varint_of-short more bytes)))

counted_from-short : (at n : ℕ) (r : Result (ℕ × ℕ) Wire) → IfOk r (λ v. v.1 ≤ n) → IfOk (counted_from at r) (λ v. v.1 ≤ at + n)
counted_from-short at n (Ok v) h = omega (arith, h)
counted_from-short at n (Err e) h = tt

-- a varint takes at most ten bytes
pub varint_at-short : (bytes : List ℕ) (at : ℕ) → IfOk (varint_at bytes at) (λ v. v.1 ≤ at + 10)
unfolding varint
varint_at-short bytes at = counted_from-short at 10 (varint_of 9 (drop at bytes)) (varint_of-short 9 (drop at bytes))

-- how many bytes are a field's value, where it isn't a number
abbrev pub bytes_of : Value → ℕ
bytes_of (text bytes) = length bytes
bytes_of (number n) = 0
bytes_of (eight_bytes n) = 8
bytes_of (four_bytes n) = 4

-- what a field takes at most: its tag, a number of at most ten bytes, and the bytes that are its value
abbrev pub field_weight : Entry → ℕ
field_weight f = 20 + bytes_of f.value

part_at-len : (bytes : List ℕ) (at len : ℕ) → at ≤ length bytes → IfOk (part_at bytes at len) (λ p. p.1 ≤ at + length p.0)
part_at-len bytes at len h =
    IfOk-either (λ p. p.1 ≤ at + length p.0) (nat_lt (length bytes - at) len) _ _ (λ _. tt)
    (λ e. let fits : len ≤ length bytes - at = ltb-false _ _ e in
    let count : at + len - at ≡ len = omega arith in
    let prefix : length (take (at + len - at) (drop at bytes)) ≡ len = rw count (simp (length-take, length-drop) (omega arith)) in
    omega (arith, prefix))

value_at-short : (bytes : List ℕ) (wire_type at : ℕ) → at ≤ length bytes → IfOk (value_at bytes wire_type at) (λ v. v.1 ≤ at + 10 + bytes_of v.0)
unfolding value_at
value_at-short bytes wire_type at h =
    let P : Value × ℕ → Type 0 = λ v. v.1 ≤ at + 10 + bytes_of v.0 in
    IfOk-either P (wire_type == 0) _ _
    (λ _. IfOk-next (λ n. n.1 ≤ at + 10) P (varint_at bytes at) _ (varint_at-short bytes at) (λ n w. omega (arith, w)))
    (λ _. IfOk-either P (wire_type == 1) _ _
    (λ _. IfOk-next (λ p. p.1 ≤ at + 8) P (part_at bytes at 8) _ (part_at-end bytes at 8) (λ p w. omega (arith, w)))
    (λ _. IfOk-either P (wire_type == 2) _ _
    (λ _. IfOk-next (λ n. (n.1 ≤ at + 10) × (n.1 ≤ length bytes)) P (varint_at bytes at) _ (varint_at-both bytes at h)
    (λ n w. IfOk-next (λ p. p.1 ≤ n.1 + length p.0) P (part_at bytes n.1 n.0) _ (part_at-len bytes n.1 n.0 w.1) (λ p q. omega (arith, w.0, q))))
    (λ _. IfOk-either P (wire_type == 5) _ _
    (λ _. IfOk-next (λ p. p.1 ≤ at + 4) P (part_at bytes at 4) _ (part_at-end bytes at 4) (λ p w. omega (arith, w)))
    (λ _. tt))))
  where
    part_at-end : (bytes : List ℕ) (at len : ℕ) → IfOk (part_at bytes at len) (λ p. p.1 ≤ at + len)
    part_at-end bytes at len = IfOk-either (λ p. p.1 ≤ at + len) (nat_lt (length bytes - at) len) _ _ (λ _. tt) (λ _. omega arith)

    both : (at n : ℕ) (r : Result (ℕ × ℕ) Wire) → IfOk r (λ v. v.1 ≤ at + 10) → IfOk r (λ v. IsAfter at n v.1) → IfOk r (λ v. (v.1 ≤ at + 10) × (v.1 ≤ n))
    both at n (Ok v) h k = (h, k.1)
    both at n (Err e) h k = tt

    varint_at-both : (bytes : List ℕ) (at : ℕ) → at ≤ length bytes → IfOk (varint_at bytes at) (λ v. (v.1 ≤ at + 10) × (v.1 ≤ length bytes))
    varint_at-both bytes at h = both at (length bytes) (varint_at bytes at) (varint_at-short bytes at) (varint_at-within bytes at h)

field_at-short : (bytes : List ℕ) (at : ℕ) → at ≤ length bytes → IfOk (field_at bytes at) (λ found. IfSome found (λ f. f.1 ≤ at + field_weight f.0))
unfolding field_at
field_at-short bytes at h =
    let P : Option (Entry × ℕ) → Type 0 = λ found. IfSome found (λ f. f.1 ≤ at + field_weight f.0) in
    IfOk-either P (length bytes == at) _ _ (λ _. tt)
    (λ _. IfOk-next (λ n. (n.1 ≤ at + 10) × (n.1 ≤ length bytes)) P (varint_at bytes at) _ (both (varint_at bytes at) (varint_at-short bytes at) (varint_at-within bytes at h))
    (λ n w. IfOk-either P ((n.0 / 8 == 0) || nat_lt (2 ^ 29 - 1) (n.0 / 8)) _ _ (λ _. tt)
    (λ _. IfOk-next (λ v. v.1 ≤ n.1 + 10 + bytes_of v.0) P (value_at bytes (n.0 % 8) n.1) _ (value_at-short bytes (n.0 % 8) n.1 w.1)
    (λ v q. omega (arith, w.0, q)))))
  where
    both : (r : Result (ℕ × ℕ) Wire) → IfOk r (λ v. v.1 ≤ at + 10) → IfOk r (λ v. IsAfter at (length bytes) v.1) → IfOk r (λ v. (v.1 ≤ at + 10) × (v.1 ≤ length bytes))
    both (Ok v) h k = (h, k.1)
    both (Err e) h k = tt

-- there is no field only at the end
field_at-none : (bytes : List ℕ) (at : ℕ) → at ≤ length bytes → IfOk (field_at bytes at) (λ found. IfNone found (at ≡ length bytes))
unfolding field_at
field_at-none bytes at h =
    let P : Option (Entry × ℕ) → Type 0 = λ found. IfNone found (at ≡ length bytes) in
    IfOk-either P (length bytes == at) _ _ (λ e. sym (eqb-true (length bytes) at e))
    (λ _. IfOk-next (λ _. Unit {0}) P (varint_at bytes at) _ (any (varint_at bytes at))
    (λ n w. IfOk-either P ((n.0 / 8 == 0) || nat_lt (2 ^ 29 - 1) (n.0 / 8)) _ _ (λ _. tt)
    (λ _. IfOk-next (λ _. Unit {0}) P (value_at bytes (n.0 % 8) n.1) _ (any (value_at bytes (n.0 % 8) n.1)) (λ v q. tt))))
  where
    any : {A : Type 0} (r : Result A Wire) → IfOk r (λ _. Unit {0})
    any (Ok x) = tt
    any (Err e) = tt

-- what is left of a message is at most as long as its fields weigh
pub message_at-weighs : (bytes : List ℕ) (at : ℕ) → at ≤ length bytes → IfOk (message_at bytes at) (λ fields. length bytes - at ≤ sum_by field_weight fields)
unfolding message_at
message_at-weighs bytes at h =
    items_from-weighs (field_at bytes) (length bytes) (field_at-within bytes) (field_at-end bytes (length bytes) refl) field_weight (field_at-short bytes) (field_at-none bytes)
    (length bytes - at) at h (omega arith)
