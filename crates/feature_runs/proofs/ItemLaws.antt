-- Items go both ways: what is read is an item's text, and an item's text is read as that item.
use Rattle.std.proofs.Common.{◌≡◌, ℕ, zero, suc, ◌+◌, ◌-◌, ◌*◌, ◌/◌, ◌%◌, ◌^◌, ◌<◌, ◌≤◌, Bool, true, false, ◌&&◌, ◌==◌, nat_le, nat_lt, if◌then◌else◌, ℤ, pos, negsuc, List, [], ◌∷◌, ◌++◌, length, take, drop, flat_map, Option, Some, None, refl, sym, ap, subst, ◌∙◌, append_assoc, arith, inl, inr}
use Rattle.std.specs.List.{AllByRecursion}
use Rattle.std.specs.Str.{is_utf8}
use Rattle.std.specs.Int.{w16, w32, w64, to_le_bytes, from_le_bytes}
use Rattle.std.proofs.lemmas.Bool.{cases_Bool, ltb-true, ltb-false, lt-ltb, le-ltb, leb-true, le-leb, eqb-true, eq-eqb}
use Rattle.std.proofs.lemmas.List.{length-append, append-nil, nil_from_length}
use Rattle.std.proofs.lemmas.Nat.{le_bytes_4, le_bytes_8, from_le_bytes-to_le_bytes_4, from_le_bytes-to_le_bytes_8}
use Rattle.tb_wire.specs.Varint.{encoding}
use Rattle.tb_wire.specs.Message.{len_text}
use Rattle.tb_wire.proofs.Again.{encoding-some}
use Rattle.tb_types.specs.declared.attribute.Attr.{Attr}
use Rattle.tb_types.specs.declared.attribute.AttrValue.{AttrValue}
use Rattle.tb_types.specs.declared.attribute.AttrValue.TheVariants.{Text, Whole, Truth, Bits32, Bits64}
use Rattle.mvt_codec.specs.Value.{number_text, four_text, eight_text, value_text, IsWritable}
use Rattle.mvt_codec.specs.Again.{FitsValue}
use Rattle.mvt_codec.specs.Items.{sized, attribute_text}
use Rattle.mvt_geom.specs.Options.{◌>>=◌}
use Rattle.feature_runs.specs.ItemReading.{only_if, varint_at, sized_at, utf8_text, parts_at, int_at, ints_at, name_at, whole, text_of, uint_of, sint_of, float_of, double_of, truth_of, value_of, attribute_at, attributes_at}
use Rattle.feature_runs.proofs.ItemParts.{IsBytes, some_next, some_if, some_is, Takes, Takes-then, Reads, Covers, varints, sized_back, sized_again, parts_back, parts_again}

-- a test of two that held
pub both_true : (a b : Bool) → (a && b) ≡ true → (a ≡ true) × (b ≡ true)
both_true true b e = (refl, e)
both_true false b e = absurd cc

-- ---- integers and names

pub ints_both : Reads int_at encoding (λ n. n < 2 ^ 32)
unfolding int_at
ints_both = record {
  back = λ bytes x fits e.
      let n = some_next (varint_at bytes) (λ n. only_if (nat_lt n.0 (2 ^ 32)) n) x e in
      let t = varints.back bytes n.0 fits n.1 in
      let g = some_if (nat_lt n.0.0 (2 ^ 32)) n.0 x n.2 in
      subst (λ (y : ℕ × List ℕ). Takes bytes (encoding y.0) y.1 × (y.0 < 2 ^ 32)) g.1 (t.0, ltb-true _ _ g.0);
  again = λ n rest lt.
      let small : nat_lt n (2 ^ 32) ≡ true = lt-ltb _ _ lt in
      ap (λ (o : Option (ℕ × List ℕ)). o >>= λ n. only_if (nat_lt n.0 (2 ^ 32)) n) (varints.again n rest (omega (arith, lt))) ∙ rw small refl;
}

-- what a name is
abbrev pub IsName : List ℕ → Type 0
IsName name = (0 < length name) × (is_utf8 name ≡ true) × (length name < 2 ^ 64)

pub names_both : Reads name_at sized IsName
unfolding name_at
names_both = record {
  back = λ bytes x fits e.
      let a = some_next (sized_at bytes) (λ name. only_if (nat_lt 0 (length name.0)) name.0 >>= λ some_name. utf8_text some_name >>= λ text. Some (text, name.1)) x e in
      let b = some_next (only_if (nat_lt 0 (length a.0.0)) a.0.0) (λ some_name. utf8_text some_name >>= λ text. Some (text, a.0.1)) x a.2 in
      let g = some_if (nat_lt 0 (length a.0.0)) a.0.0 b.0 b.1 in
      let c = some_next (utf8_text b.0) (λ text. Some (text, a.0.1)) x b.2 in
      let h = some_if (is_utf8 b.0) b.0 c.0 c.1 in
      let t = sized_back bytes a.0 fits a.1 in
      let same : a.0.0 ≡ c.0 = g.1 ∙ h.1 in
      let utf8 : is_utf8 c.0 ≡ true = ap is_utf8 (sym h.1) ∙ h.0 in
      let made : Takes bytes (sized a.0.0) a.0.1 × IsName a.0.0 = (t.0, (ltb-true _ _ g.0, ap is_utf8 same ∙ utf8, t.2)) in
      subst (λ (y : List ℕ × List ℕ). Takes bytes (sized y.0) y.1 × IsName y.0) (some_is (c.0, a.0.1) x c.2)
      (subst (λ (n : List ℕ). Takes bytes (sized n) a.0.1 × IsName n) same made);
  again = λ name rest is.
      let more : nat_lt 0 (length name) ≡ true = lt-ltb _ _ is.0 in
      ap (λ (o : Option (List ℕ × List ℕ)). o >>= λ name. only_if (nat_lt 0 (length name.0)) name.0 >>= λ some_name. utf8_text some_name >>= λ text. Some (text, name.1)) (sized_again name rest is.2) ∙ rw (more, is.1) refl;
}

-- ---- values, each of which is all of the bytes

-- nothing is left
pub nothing_left : {A : Type 0} (x : A × List ℕ) (y : A) → whole x ≡ Some y → (x.1 ≡ []) × (x.0 ≡ y)
nothing_left x y e = let g = some_if (length x.1 == 0) x.0 y e in (nil_from_length x.1 (eqb-true _ _ g.0), g.1)

abbrev pub IsValue : AttrValue → Type 0
IsValue v = IsWritable v × FitsValue v

-- a value with its length, which is written before it
abbrev pub IsSizedValue : AttrValue → Type 0
IsSizedValue v = IsValue v × (length (value_text v) < 2 ^ 64)

-- the texts of values, with their first bytes
tags : (encoding 10 ≡ 10 ∷ []) × (encoding 21 ≡ 21 ∷ []) × (encoding 25 ≡ 25 ∷ []) × (encoding 40 ≡ 40 ∷ []) × (encoding 48 ≡ 48 ∷ []) × (encoding 56 ≡ 56 ∷ [])
unfolding encoding
tags = (refl, refl, refl, refl, refl, refl)

string_text : (text : List ℕ) → value_text (Text text) ≡ 10 ∷ sized text
unfolding value_text len_text
string_text text = append_assoc (encoding 10) (encoding (length text)) text ∙ ap (λ (t : List ℕ). t ++ sized text) tags.0

float_text : (bits : ℕ) → value_text (Bits32 bits) ≡ 21 ∷ to_le_bytes w32 bits
unfolding value_text four_text
float_text bits = ap (λ (t : List ℕ). t ++ to_le_bytes w32 bits) tags.1

double_text : (bits : ℕ) → value_text (Bits64 bits) ≡ 25 ∷ to_le_bytes w64 bits
unfolding value_text eight_text
double_text bits = ap (λ (t : List ℕ). t ++ to_le_bytes w64 bits) tags.2

uint_text : (n : ℕ) → value_text (Whole (pos n)) ≡ 40 ∷ encoding n
unfolding value_text number_text
uint_text n = ap (λ (t : List ℕ). t ++ encoding n) tags.3

sint_text : (n : ℕ) → value_text (Whole (negsuc n)) ≡ 48 ∷ encoding (2 * n + 1)
unfolding value_text number_text
sint_text n = ap (λ (t : List ℕ). t ++ encoding (2 * n + 1)) tags.4

truth_text : (b : Bool) → value_text (Truth b) ≡ 56 ∷ (if b then 1 else 0) ∷ []
unfolding value_text number_text encoding
truth_text true = refl
truth_text false = refl

-- what a reader of the bytes behind the first one finds
abbrev IsRead : ℕ → List ℕ → AttrValue → Type 0
IsRead tag bytes v = (tag ∷ bytes ≡ value_text v) × IsValue v

text_back : (bytes : List ℕ) (v : AttrValue) → IsBytes bytes → text_of bytes ≡ Some v → IsRead 10 bytes v
unfolding text_of
text_back bytes v fits e =
    let a = some_next (sized_at bytes) (λ part. whole part >>= λ bytes_only. utf8_text bytes_only >>= λ text. Some (Text text)) v e in
    let b = some_next (whole a.0) (λ bytes_only. utf8_text bytes_only >>= λ text. Some (Text text)) v a.2 in
    let n = nothing_left a.0 b.0 b.1 in
    let c = some_next (utf8_text b.0) (λ text. Some (Text text)) v b.2 in
    let h = some_if (is_utf8 b.0) b.0 c.0 c.1 in
    let t = sized_back bytes a.0 fits a.1 in
    let all : bytes ≡ sized c.0 = t.0.parts ∙ ap (λ (r : List ℕ). sized a.0.0 ++ r) n.0 ∙ append-nil (sized a.0.0) ∙ ap sized (n.1 ∙ h.1) in
    subst (IsRead 10 bytes) (some_is (Text c.0) v c.2) (ap (λ (r : List ℕ). 10 ∷ r) all ∙ sym (string_text c.0), (tt, ap is_utf8 (sym h.1) ∙ h.0))

uint_back : (bytes : List ℕ) (v : AttrValue) → IsBytes bytes → uint_of bytes ≡ Some v → IsRead 40 bytes v
unfolding uint_of
uint_back bytes v fits e =
    let a = some_next (varint_at bytes) (λ part. whole part >>= λ n. Some (Whole (pos n))) v e in
    let b = some_next (whole a.0) (λ n. Some (Whole (pos n))) v a.2 in
    let n = nothing_left a.0 b.0 b.1 in
    let t = varints.back bytes a.0 fits a.1 in
    let all : bytes ≡ encoding b.0 = t.0.parts ∙ ap (λ (r : List ℕ). encoding a.0.0 ++ r) n.0 ∙ append-nil (encoding a.0.0) ∙ ap encoding n.1 in
    let below : b.0 < 2 ^ 64 = subst (λ (k : ℕ). k < 2 ^ 64) n.1 t.1 in
    subst (IsRead 40 bytes) (some_is (Whole (pos b.0)) v b.2) (ap (λ (r : List ℕ). 40 ∷ r) all ∙ sym (uint_text b.0), (below, below))

sint_back : (bytes : List ℕ) (v : AttrValue) → IsBytes bytes → sint_of bytes ≡ Some v → IsRead 48 bytes v
unfolding sint_of
sint_back bytes v fits e =
    let a = some_next (varint_at bytes) (λ part. whole part >>= λ n. only_if (n % 2 == 1) (Whole (negsuc (n / 2)))) v e in
    let b = some_next (whole a.0) (λ n. only_if (n % 2 == 1) (Whole (negsuc (n / 2)))) v a.2 in
    let n = nothing_left a.0 b.0 b.1 in
    let g = some_if (b.0 % 2 == 1) (Whole (negsuc (b.0 / 2))) v b.2 in
    let t = varints.back bytes a.0 fits a.1 in
    let odd : b.0 % 2 ≡ 1 = eqb-true _ _ g.0 in
    let number : 2 * (b.0 / 2) + 1 ≡ b.0 = omega (arith, odd) in
    let all : bytes ≡ encoding b.0 = t.0.parts ∙ ap (λ (r : List ℕ). encoding a.0.0 ++ r) n.0 ∙ append-nil (encoding a.0.0) ∙ ap encoding n.1 in
    let below : b.0 < 2 ^ 64 = subst (λ (k : ℕ). k < 2 ^ 64) n.1 t.1 in
    let half : b.0 / 2 < 2 ^ 63 = omega (arith, below) in
    subst (IsRead 48 bytes) g.1 (ap (λ (r : List ℕ). 48 ∷ r) (all ∙ ap encoding (sym number)) ∙ sym (sint_text (b.0 / 2)), (half, half))

float_back : (bytes : List ℕ) (v : AttrValue) → IsBytes bytes → float_of bytes ≡ Some v → IsRead 21 bytes v
unfolding float_of
float_back bytes v fits e =
    let g = some_if (length bytes == 4) (Bits32 (from_le_bytes w32 bytes)) v e in
    let len : length bytes ≡ 4 = eqb-true _ _ g.0 in
    let same : to_le_bytes w32 (from_le_bytes w32 bytes) ≡ bytes = le_bytes_4 bytes _ len fits refl in
    let below : from_le_bytes w32 bytes < 2 ^ 32 = omega (arith, fits 0, fits 1, fits 2, fits 3) in
    subst (IsRead 21 bytes) g.1 (ap (λ (r : List ℕ). 21 ∷ r) (sym same) ∙ sym (float_text (from_le_bytes w32 bytes)), (tt, below))

double_back : (bytes : List ℕ) (v : AttrValue) → IsBytes bytes → double_of bytes ≡ Some v → IsRead 25 bytes v
unfolding double_of
double_back bytes v fits e =
    let g = some_if (length bytes == 8) (Bits64 (from_le_bytes w64 bytes)) v e in
    let len : length bytes ≡ 8 = eqb-true _ _ g.0 in
    let same : to_le_bytes w64 (from_le_bytes w64 bytes) ≡ bytes = le_bytes_8 bytes _ len fits refl in
    let below : from_le_bytes w64 bytes < 2 ^ 64 = omega (arith, fits 0, fits 1, fits 2, fits 3, fits 4, fits 5, fits 6, fits 7) in
    subst (IsRead 25 bytes) g.1 (ap (λ (r : List ℕ). 25 ∷ r) (sym same) ∙ sym (double_text (from_le_bytes w64 bytes)), (tt, below))

truth_back : (bytes : List ℕ) (v : AttrValue) → truth_of bytes ≡ Some v → IsRead 56 bytes v
unfolding truth_of
truth_back [] v e = absurd cc
truth_back (b ∷ []) v e =
    let g = some_if (nat_lt b 2) (Truth (b == 1)) v e in
    subst (IsRead 56 (b ∷ [])) g.1 (by b (ltb-true _ _ g.0), (tt, tt))
  where
    by : (n : ℕ) → n < 2 → 56 ∷ n ∷ [] ≡ value_text (Truth (n == 1))
    by zero h = sym (truth_text false)
    by (suc zero) h = sym (truth_text true)
    by (suc (suc n)) h = absurd (omega arith)
truth_back (b ∷ c ∷ bytes) v e = absurd cc

value_cases : (tag : ℕ) (bytes : List ℕ) (v : AttrValue) → IsBytes bytes → value_of (tag ∷ bytes) ≡ Some v → IsRead tag bytes v
unfolding value_of
value_cases tag bytes v fits e = by_text (tag == 10) refl e
  where
    by_truth : (t : Bool) → (tag == 56) ≡ t → (if t then truth_of bytes else None) ≡ Some v → IsRead tag bytes v
    by_truth true h e = subst (λ (n : ℕ). IsRead n bytes v) (sym (eqb-true _ _ h)) (truth_back bytes v e)
    by_truth false h e = absurd cc

    by_sint : (t : Bool) → (tag == 48) ≡ t → (if t then sint_of bytes else if tag == 56 then truth_of bytes else None) ≡ Some v → IsRead tag bytes v
    by_sint true h e = subst (λ (n : ℕ). IsRead n bytes v) (sym (eqb-true _ _ h)) (sint_back bytes v fits e)
    by_sint false h e = by_truth (tag == 56) refl e

    by_uint : (t : Bool) → (tag == 40) ≡ t → (if t then uint_of bytes else if tag == 48 then sint_of bytes else if tag == 56 then truth_of bytes else None) ≡ Some v → IsRead tag bytes v
    by_uint true h e = subst (λ (n : ℕ). IsRead n bytes v) (sym (eqb-true _ _ h)) (uint_back bytes v fits e)
    by_uint false h e = by_sint (tag == 48) refl e

    by_double : (t : Bool) → (tag == 25) ≡ t → (if t then double_of bytes else if tag == 40 then uint_of bytes else if tag == 48 then sint_of bytes else if tag == 56 then truth_of bytes else None) ≡ Some v → IsRead tag bytes v
    by_double true h e = subst (λ (n : ℕ). IsRead n bytes v) (sym (eqb-true _ _ h)) (double_back bytes v fits e)
    by_double false h e = by_uint (tag == 40) refl e

    by_float : (t : Bool) → (tag == 21) ≡ t → (if t then float_of bytes else if tag == 25 then double_of bytes else if tag == 40 then uint_of bytes else if tag == 48 then sint_of bytes else if tag == 56 then truth_of bytes else None) ≡ Some v → IsRead tag bytes v
    by_float true h e = subst (λ (n : ℕ). IsRead n bytes v) (sym (eqb-true _ _ h)) (float_back bytes v fits e)
    by_float false h e = by_double (tag == 25) refl e

    by_text : (t : Bool) → (tag == 10) ≡ t → (if t then text_of bytes else if tag == 21 then float_of bytes else if tag == 25 then double_of bytes else if tag == 40 then uint_of bytes else if tag == 48 then sint_of bytes else if tag == 56 then truth_of bytes else None) ≡ Some v
        → IsRead tag bytes v
    by_text true h e = subst (λ (n : ℕ). IsRead n bytes v) (sym (eqb-true _ _ h)) (text_back bytes v fits e)
    by_text false h e = by_float (tag == 21) refl e

value_back : (bytes : List ℕ) (v : AttrValue) → IsBytes bytes → value_of bytes ≡ Some v → (bytes ≡ value_text v) × IsValue v
unfolding value_of
value_back [] v fits e = absurd cc
value_back (tag ∷ bytes) v fits e = value_cases tag bytes v (λ i. fits (suc i)) e

-- a varint that is all of the bytes
whole_varint : (n : ℕ) → n < 2 ^ 64 → varint_at (encoding n) ≡ Some (n, [])
whole_varint n lt = ap varint_at (sym (append-nil (encoding n))) ∙ varints.again n [] lt

value_again : (v : AttrValue) → IsSizedValue v → value_of (value_text v) ≡ Some v
unfolding value_of text_of float_of double_of uint_of sint_of truth_of
value_again (Text text) is =
    let long : length text < 2 ^ 64 = omega (arith, ap length (string_text text), length-append (encoding (length text)) text, is.1) in
    let read : sized_at (sized text) ≡ Some (text, []) = ap sized_at (sym (append-nil (sized text))) ∙ sized_again text [] long in
    ap value_of (string_text text) ∙ rw (read, is.0.1) refl
value_again (Bits32 bits) is = ap value_of (float_text bits) ∙ ap (λ (n : ℕ). Some (Bits32 n)) (from_le_bytes-to_le_bytes_4 bits is.0.1)
value_again (Bits64 bits) is = ap value_of (double_text bits) ∙ ap (λ (n : ℕ). Some (Bits64 n)) (from_le_bytes-to_le_bytes_8 bits is.0.1)
value_again (Whole (pos n)) is = ap value_of (uint_text n) ∙ rw (whole_varint n is.0.0) refl
value_again (Whole (negsuc n)) is =
    let below : n < 2 ^ 63 = is.0.0 in
    let odd : (2 * n + 1) % 2 ≡ 1 = omega arith in
    let half : (2 * n + 1) / 2 ≡ n = omega arith in
    ap value_of (sint_text n) ∙ rw (whole_varint (2 * n + 1) (omega (arith, below)), odd, half) refl
value_again (Truth true) is = ap value_of (truth_text true)
value_again (Truth false) is = ap value_of (truth_text false)

-- ---- attributes

abbrev pub IsSizedAttribute : Attr → Type 0
IsSizedAttribute a = IsName a.name × IsSizedValue a.value

pub attributes_both : Reads attribute_at attribute_text IsSizedAttribute
unfolding attribute_at attribute_text
attributes_both = record {
  back = λ bytes x fits e.
      let a = some_next (name_at bytes) (λ name. sized_at name.1 >>= λ text. value_of text.0 >>= λ value. Some (record { name = name.0; value = value }, text.1)) x e in
      let b = some_next (sized_at a.0.1) (λ text. value_of text.0 >>= λ value. Some (record { name = a.0.0; value = value }, text.1)) x a.2 in
      let c = some_next (value_of b.0.0) (λ value. Some (record { name = a.0.0; value = value }, b.0.1)) x b.2 in
      let t = names_both.back bytes a.0 fits a.1 in
      let u = sized_back a.0.1 b.0 t.0.rest_fits b.1 in
      let v = value_back b.0.0 c.0 u.1 c.1 in
      let second : Takes a.0.1 (sized (value_text c.0)) b.0.1 = subst (λ (z : List ℕ). Takes a.0.1 (sized z) b.0.1) v.0 u.0 in
      let len : length (value_text c.0) < 2 ^ 64 = subst (λ (z : List ℕ). length z < 2 ^ 64) v.0 u.2 in
      let made : Attr × List ℕ = (record { name = a.0.0; value = c.0 }, b.0.1) in
      subst (λ (y : Attr × List ℕ). Takes bytes (sized y.0.name ++ sized (value_text y.0.value)) y.1 × IsSizedAttribute y.0) (some_is made x c.2)
      (Takes-then bytes (sized a.0.0) a.0.1 (sized (value_text c.0)) b.0.1 t.0 second, (t.1, (v.1, len)));
  again = λ a rest is.
      let name = sized a.name in
      let value = sized (value_text a.value) in
      ap attribute_at (append_assoc name value rest) ∙ rw (names_both.again a.name (value ++ rest) is.0, sized_again (value_text a.value) rest is.1.1, value_again a.value is.1) refl;
}
