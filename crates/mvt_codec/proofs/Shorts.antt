-- How long numbers, values and parts of features are at most.
use Rattle.std.proofs.Common.{◌≡◌, ℕ, zero, suc, ◌+◌, ◌*◌, ◌/◌, ◌%◌, ◌^◌, ◌<◌, ◌≤◌, ◌==◌, nat_lt, if◌then◌else◌, cond, Bool, true, false, not, ℤ, pos, negsuc, List, [], ◌∷◌, ◌++◌, length, filter, map, flat_map, refl, ap, ◌∙◌, arith}
use Rattle.std.specs.Int.{w32, w64, to_le_bytes}
use Rattle.std.specs.List.{AllByRecursion}
use Rattle.std.specs.Str.{bytes_eq}
use Rattle.std.proofs.lemmas.Bool.{lt-ltb}
use Rattle.std.proofs.lemmas.List.{length-append}
use Rattle.std.proofs.lemmas.List.Concat.{flat_map-cons}
use Rattle.std.proofs.lemmas.List.Sums.{prefix_len-le-length}
use Rattle.tb_types.specs.Zigzag.{zigzag_of}
use Rattle.tb_types.specs.declared.attribute.Attr.{Attr}
use Rattle.tb_types.specs.declared.attribute.AttrValue.{AttrValue}
use Rattle.tb_types.specs.declared.attribute.AttrValue.TheVariants.{Text, Whole, Truth, Bits32, Bits64}
use Rattle.tb_wire.specs.Message.{len_text}
use Rattle.tb_wire.specs.Varint.{encoding, encoding_within}
use Rattle.tb_wire.proofs.Again.{encoding-some}
use Rattle.mvt_codec.specs.Uses.{first_uses, place_in}
use Rattle.mvt_codec.specs.Value.{number_text, four_text, eight_text, value_text}
use Rattle.mvt_codec.specs.Tile.{names_of, values_of, tags_of, numbers_text, id_text, tags_text, items_text}
use Rattle.mvt_codec.specs.Items.{attribute_text, IsNamed}
use Rattle.mvt_codec.proofs.ItemLengths.{attribute_len}

pub len-cons : {A : Type 0} (text : A → List ℕ) (x : A) (xs : List A) → length (flat_map text (x ∷ xs)) ≡ length (text x) + length (flat_map text xs)
len-cons text x xs = ap length (flat_map-cons text x xs) ∙ length-append (text x) (flat_map text xs)

-- ---- numbers: at most ten bytes, five below 2 ^ 32, and one below 128

within_len : (more n : ℕ) → length (encoding_within more n) ≤ more + 1
within_len zero n = omega arith
within_len (suc more) n = by (nat_lt n 128) (within_len more (n / 128))
  where
    by : (t : Bool) → length (encoding_within more (n / 128)) ≤ more + 1 → length (if t then n ∷ [] else (n % 128 + 128) ∷ encoding_within more (n / 128)) ≤ suc more + 1
    by true rest = omega arith
    by false rest = omega (arith, rest)

pub ten : (n : ℕ) → length (encoding n) ≤ 10
unfolding encoding
ten n = within_len 9 n

last_len : (more n : ℕ) → n < 128 → length (encoding_within more n) ≤ 1
last_len zero n lt = omega arith
last_len (suc more) n lt = let t : nat_lt n 128 ≡ true = lt-ltb _ _ lt in rw t (omega arith)

step_len : (more n most : ℕ) → length (encoding_within more (n / 128)) ≤ most → length (encoding_within (suc more) n) ≤ suc most
step_len more n most le = by (nat_lt n 128)
  where
    by : (t : Bool) → length (if t then n ∷ [] else (n % 128 + 128) ∷ encoding_within more (n / 128)) ≤ suc most
    by true = omega arith
    by false = omega (arith, le)

pub one : (n : ℕ) → n < 128 → length (encoding n) ≤ 1
unfolding encoding
one n lt = last_len 9 n lt

pub five : (n : ℕ) → n < 2 ^ 32 → length (encoding n) ≤ 5
unfolding encoding
five n lt =
    let a = n / 128 in
    let b = a / 128 in
    let c = b / 128 in
    let d = c / 128 in
    let small : d < 128 = omega (arith, lt) in
    step_len 8 n 4 (step_len 7 a 3 (step_len 6 b 2 (step_len 5 c 1 (last_len 5 d small))))

-- the first bytes of fields
pub tags : (length (encoding (1 * 8 + 2)) ≡ 1) × (length (encoding (2 * 8 + 2)) ≡ 1) × (length (encoding (3 * 8 + 2)) ≡ 1) × (length (encoding (4 * 8 + 2)) ≡ 1) × (length (encoding (1 * 8)) ≡ 1) × (length (encoding (3 * 8)) ≡ 1)
unfolding encoding
tags = (refl, refl, refl, refl, refl, refl)

pub bytes_len : (number : ℕ) (body : List ℕ) → length (len_text number body) ≡ length (encoding (number * 8 + 2)) + length (encoding (length body)) + length body
unfolding len_text
bytes_len number body = omega (arith, length-append (encoding (number * 8 + 2) ++ encoding (length body)) body, length-append (encoding (number * 8 + 2)) (encoding (length body)))

pub number_len : (number n : ℕ) → length (number_text number n) ≡ length (encoding (number * 8)) + length (encoding n)
unfolding number_text
number_len number n = length-append (encoding (number * 8)) (encoding n)

-- ---- attributes

value_some : (v : AttrValue) → 0 < length (value_text v)
unfolding value_text number_text four_text eight_text
value_some (Text text) = omega (arith, bytes_len 1 text, tags.0)
value_some (Bits32 bits) = omega (arith, length-append (encoding (2 * 8 + 5)) (to_le_bytes w32 bits), encoding-some (2 * 8 + 5))
value_some (Bits64 bits) = omega (arith, length-append (encoding (3 * 8 + 1)) (to_le_bytes w64 bits), encoding-some (3 * 8 + 1))
value_some (Whole (pos n)) = omega (arith, length-append (encoding (5 * 8)) (encoding n), encoding-some (5 * 8))
value_some (Whole (negsuc n)) = omega (arith, length-append (encoding (6 * 8)) (encoding (zigzag_of (negsuc n))), encoding-some (6 * 8))
value_some (Truth b) = omega (arith, length-append (encoding (7 * 8)) (encoding (if b then 1 else 0)), encoding-some (7 * 8))

pub attributes_some : (attributes : List Attr) → AllByRecursion IsNamed attributes → 4 * length attributes ≤ length (flat_map attribute_text attributes)
attributes_some [] is = omega arith
attributes_some (a ∷ attributes) is =
    let name = is.0.0 in
    let rest = attributes_some attributes is.1 in
    omega (arith, len-cons attribute_text a attributes, attribute_len a, encoding-some (length a.name), name, encoding-some (length (value_text a.value)), value_some a.value, rest)

-- ---- dictionaries: each item once is at most all items

filter_len : (text : List ℕ → List ℕ) (p : List ℕ → Bool) (xs : List (List ℕ)) → length (flat_map text (filter p xs)) ≤ length (flat_map text xs)
filter_len text p [] = omega arith
filter_len text p (x ∷ xs) = by (p x) (filter_len text p xs)
  where
    by : (t : Bool) → length (flat_map text (filter p xs)) ≤ length (flat_map text xs) → length (flat_map text (cond t (x ∷ filter p xs) (filter p xs))) ≤ length (flat_map text (x ∷ xs))
    by true rest = omega (arith, len-cons text x (filter p xs), len-cons text x xs, rest)
    by false rest = omega (arith, len-cons text x xs, rest)

filter_few : (p : List ℕ → Bool) (xs : List (List ℕ)) → length (filter p xs) ≤ length xs
filter_few p [] = omega arith
filter_few p (x ∷ xs) = by (p x) (filter_few p xs)
  where
    by : (t : Bool) → length (filter p xs) ≤ length xs → length (cond t (x ∷ filter p xs) (filter p xs)) ≤ suc (length xs)
    by true rest = omega (arith, rest)
    by false rest = omega (arith, rest)

pub uses_len : (text : List ℕ → List ℕ) (xs : List (List ℕ)) → length (flat_map text (first_uses xs)) ≤ length (flat_map text xs)
uses_len text [] = omega arith
uses_len text (x ∷ xs) =
    let p = λ (other : List ℕ). not (bytes_eq x other) in
    omega (arith, len-cons text x (filter p (first_uses xs)), len-cons text x xs, filter_len text p (first_uses xs), uses_len text xs)

pub uses_few : (xs : List (List ℕ)) → length (first_uses xs) ≤ length xs
uses_few [] = omega arith
uses_few (x ∷ xs) = let p = λ (other : List ℕ). not (bytes_eq x other) in omega (arith, filter_few p (first_uses xs), uses_few xs)

pub dictionary_len : (attributes : List Attr) → length (items_text 3 (names_of attributes)) + length (items_text 4 (values_of attributes)) ≤ length (flat_map attribute_text attributes) + 2 * length attributes
dictionary_len [] = omega arith
dictionary_len (a ∷ attributes) =
    let value = value_text a.value in
    let rest = dictionary_len attributes in
    omega (arith, len-cons (len_text 3) a.name (names_of attributes), len-cons (len_text 4) value (values_of attributes), len-cons attribute_text a attributes, attribute_len a, bytes_len 3 a.name, bytes_len 4 value, tags.2, tags.3, rest)

-- ---- features

places_len : (keys values : List (List ℕ)) → length keys < 2 ^ 32 → length values < 2 ^ 32 → (attributes : List Attr) → length (numbers_text (tags_of keys values attributes)) ≤ 10 * length attributes
places_len keys values few_keys few_values [] = omega arith
places_len keys values few_keys few_values (a ∷ attributes) =
    let p = place_in keys a.name in
    let q = place_in values (value_text a.value) in
    let low_p : p ≤ length keys = prefix_len-le-length _ keys in
    let low_q : q ≤ length values = prefix_len-le-length _ values in
    let small_p : p < 2 ^ 32 = omega (arith, low_p, few_keys) in
    let small_q : q < 2 ^ 32 = omega (arith, low_q, few_values) in
    let later = tags_of keys values attributes in
    let both : numbers_text (tags_of keys values (a ∷ attributes)) ≡ flat_map encoding (p ∷ q ∷ later) = ap (λ (ns : List ℕ). flat_map encoding ns) (flat_map-cons (λ (x : Attr). place_in keys x.name ∷ place_in values (value_text x.value) ∷ []) a attributes) in
    omega (arith, ap length both, len-cons encoding p (q ∷ later), len-cons encoding q later, five p small_p, five q small_q, places_len keys values few_keys few_values attributes)

pub tags_len : (keys values : List (List ℕ)) → length keys < 2 ^ 32 → length values < 2 ^ 32 → (attributes : List Attr) → length (tags_text keys values attributes) ≤ 11 + 10 * length attributes
tags_len keys values few_keys few_values [] = omega arith
tags_len keys values few_keys few_values (a ∷ attributes) =
    let numbers = numbers_text (tags_of keys values (a ∷ attributes)) in
    omega (arith, bytes_len 2 numbers, tags.1, ten (length numbers), places_len keys values few_keys few_values (a ∷ attributes))

pub id_len : (id : ℕ) → length (id_text id) ≤ 1 + length (encoding id)
id_len id = by (id == 0)
  where
    by : (t : Bool) → length (if t then [] else number_text 1 id) ≤ 1 + length (encoding id)
    by true = omega arith
    by false = omega (arith, number_len 1 id, tags.4)
