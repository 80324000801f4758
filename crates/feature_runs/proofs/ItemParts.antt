-- Parts of items: what is read is what was written, and what is written is read again.
use Rattle.std.proofs.Common.{◌≡◌, ℕ, zero, suc, ◌+◌, ◌-◌, ◌*◌, ◌/◌, ◌%◌, ◌^◌, ◌<◌, ◌≤◌, Bool, true, false, ◌==◌, nat_le, nat_lt, if◌then◌else◌, List, [], ◌∷◌, ◌++◌, length, get_or, take, drop, add-one, flat_map, Option, Some, None, Result, Ok, Err, refl, sym, ap, subst, ◌∙◌, append_assoc, arith, inl, inr}
use Rattle.std.specs.List.{AllByRecursion}
use Rattle.std.specs.Str.{is_utf8}
use Rattle.std.specs.Int.{Width, w16, w32, w64, byte_len, from_be_bytes, to_be_bytes}
use Rattle.std.proofs.lemmas.Bool.{cases_lt, cases_Bool, ltb-true, ltb-false, le-ltb, lt-ltb, leb-true, le-leb, eqb-true, eq-eqb}
use Rattle.std.proofs.lemmas.List.{take_at, drop_at, take-append-drop, length-append, length-take, get_or-drop, get_or-take, get_or_past, append-nil, nil_from_length}
use Rattle.std.proofs.lemmas.List.Concat.{flat_map-cons}
use Rattle.std.proofs.lemmas.Nat.{be_bytes_2, be_bytes_4, be_bytes_8, from_be_bytes-to_be_bytes_2, from_be_bytes-to_be_bytes_4, from_be_bytes-to_be_bytes_8}
use Rattle.tb_wire.specs.declared.varint.Wire.{Wire}
use Rattle.tb_wire.specs.declared.varint.Wire.TheVariants.{Cut, Long}
use Rattle.tb_wire.specs.Varint.{varint, varint_of, encoding, encoding_within, after_byte}
use Rattle.tb_wire.proofs.Again.{encoding_read_again}
use Rattle.tb_wire.proofs.Varints.{below_limit, joined_below}
use Rattle.mvt_codec.specs.Items.{fixed, sized}
use Rattle.mvt_geom.specs.Options.{◌>>=◌}
use Rattle.feature_runs.specs.ItemReading.{only_if, number_at, byte_at, if_short, varint_at, split_off, sized_at, utf8_text, parts_at, int_at, name_at, whole}

abbrev pub IsBytes : List ℕ → Type 0
IsBytes bytes = (i : ℕ) → get_or bytes i 0 < 256

pub IsBytes-drop : (n : ℕ) (bytes : List ℕ) → IsBytes bytes → IsBytes (drop n bytes)
IsBytes-drop n bytes h i = rw get_or-drop (h (n + i))

IsBytes-take : (n : ℕ) (bytes : List ℕ) → IsBytes bytes → IsBytes (take n bytes)
IsBytes-take n bytes h i =
    elim (cases_lt i n) [
      | inl lt ↦ rw (get_or-take n bytes i 0 lt) (h i)
      | inr le ↦ rw (get_or_past (take n bytes) i 0 (omega (arith, length-take n bytes))) (omega arith)
    ]

IsBytes-rest : (b : ℕ) (bytes : List ℕ) → IsBytes (b ∷ bytes) → IsBytes bytes
IsBytes-rest b bytes h i = h (suc i)

-- a step that read something
pub some_next : {A B : Type 0} (r : Option A) (f : A → Option B) (y : B) → (r >>= f) ≡ Some y → (x : A) × (r ≡ Some x) × (f x ≡ Some y)
some_next (Some x) f y e = (x, refl, e)
some_next None f y e = absurd cc

-- a test that held
pub some_if : {A : Type 0} (b : Bool) (x y : A) → only_if b x ≡ Some y → (b ≡ true) × (x ≡ y)
some_if true x y e = (refl, cc)
some_if false x y e = absurd cc

abbrev given : {A : Type 0} → A → Option A
given x = Some x

pub some_is : {A : Type 0} (x y : A) → given x ≡ given y → x ≡ y
some_is x y e = cc

abbrev done : ℕ × ℕ → Result (ℕ × ℕ) Wire
done x = Ok x

ok_is : (x y : ℕ × ℕ) → done x ≡ done y → x ≡ y
ok_is x y e = cc

-- what was taken from the front
pub record Takes (bytes text rest : List ℕ) : Type 0 where
  pub parts : bytes ≡ text ++ rest
  pub text_fits : IsBytes text
  pub rest_fits : IsBytes rest

fits-append : (x y : List ℕ) → IsBytes x → IsBytes y → IsBytes (x ++ y)
fits-append [] y f g i = g i
fits-append (b ∷ x) y f g zero = f zero
fits-append (b ∷ x) y f g (suc i) = fits-append x y (λ j. f (suc j)) g i

pub Takes-then : (a x b y c : List ℕ) → Takes a x b → Takes b y c → Takes a (x ++ y) c
Takes-then a x b y c p q = record {
  parts = p.parts ∙ ap (λ (t : List ℕ). x ++ t) q.parts ∙ sym (append_assoc x y c);
  text_fits = fits-append x y p.text_fits q.text_fits;
  rest_fits = q.rest_fits;
}

-- a reader and a text go both ways, on values of which `Is` holds
pub record Reads {A : Type 0} (read : List ℕ → Option (A × List ℕ)) (text : A → List ℕ) (Is : A → Type 0) : Type 0 where
  pub back : (bytes : List ℕ) (x : A × List ℕ) → IsBytes bytes → read bytes ≡ Some x → Takes bytes (text x.0) x.1 × Is x.0
  pub again : (x : A) (rest : List ℕ) → Is x → read (text x ++ rest) ≡ Some (x, rest)

-- the same where the value is all of the bytes
pub record Covers {A : Type 0} (read : List ℕ → Option A) (text : A → List ℕ) (Is : A → Type 0) : Type 0 where
  pub back : (bytes : List ℕ) (x : A) → IsBytes bytes → read bytes ≡ Some x → (bytes ≡ text x) × Is x
  pub again : (x : A) → Is x → read (text x) ≡ Some x

-- ---- numbers

pub record IsWide (w : Width) (limit : ℕ) : Type 0 where
  pub len : (n : ℕ) → length (to_be_bytes w n) ≡ byte_len w
  pub back : (bytes : List ℕ) → length bytes ≡ byte_len w → IsBytes bytes → to_be_bytes w (from_be_bytes w bytes) ≡ bytes
  pub again : (n : ℕ) → n < limit → from_be_bytes w (to_be_bytes w n) ≡ n
  pub below : (bytes : List ℕ) → IsBytes bytes → from_be_bytes w bytes < limit

pub wide16 : IsWide w16 (2 ^ 16)
wide16 = record {
  len = λ n. refl;
  back = λ bytes len fits. be_bytes_2 bytes _ len fits refl;
  again = λ n lt. from_be_bytes-to_be_bytes_2 n lt;
  below = λ bytes fits. omega (arith, fits 0, fits 1);
}

pub wide32 : IsWide w32 (2 ^ 32)
wide32 = record {
  len = λ n. refl;
  back = λ bytes len fits. be_bytes_4 bytes _ len fits refl;
  again = λ n lt. from_be_bytes-to_be_bytes_4 n lt;
  below = λ bytes fits. omega (arith, fits 0, fits 1, fits 2, fits 3);
}

pub wide64 : IsWide w64 (2 ^ 64)
wide64 = record {
  len = λ n. refl;
  back = λ bytes len fits. be_bytes_8 bytes _ len fits refl;
  again = λ n lt. from_be_bytes-to_be_bytes_8 n lt;
  below = λ bytes fits. omega (arith, fits 0, fits 1, fits 2, fits 3, fits 4, fits 5, fits 6, fits 7);
}

-- so many bytes, and those behind them
pub taken : (n : ℕ) (bytes : List ℕ) → IsBytes bytes → Takes bytes (take n bytes) (drop n bytes)
taken n bytes fits = record { parts = sym (take-append-drop n bytes); text_fits = IsBytes-take n bytes fits; rest_fits = IsBytes-drop n bytes fits }

pub numbers : (w : Width) (limit : ℕ) → IsWide w limit → Reads (number_at w) (fixed w) (λ n. n < limit)
unfolding fixed
numbers w limit wide = record {
  back = λ bytes x fits e.
      let g = some_if (nat_le (byte_len w) (length bytes)) (from_be_bytes w (take (byte_len w) bytes), drop (byte_len w) bytes) x e in
      let long : byte_len w ≤ length bytes = leb-true _ _ g.0 in
      let front = IsBytes-take (byte_len w) bytes fits in
      let same : to_be_bytes w (from_be_bytes w (take (byte_len w) bytes)) ≡ take (byte_len w) bytes = wide.back (take (byte_len w) bytes) (omega (arith, length-take (byte_len w) bytes)) front in
      subst (λ (y : ℕ × List ℕ). Takes bytes (to_be_bytes w y.0) y.1 × (y.0 < limit)) g.1
      (subst (λ (t : List ℕ). Takes bytes t (drop (byte_len w) bytes)) (sym same) (taken (byte_len w) bytes fits), wide.below (take (byte_len w) bytes) front);
  again = λ n rest lt.
      let len = wide.len n in
      let long : nat_le (byte_len w) (length (to_be_bytes w n ++ rest)) ≡ true = le-leb _ _ (omega (arith, length-append (to_be_bytes w n) rest)) in
      rw (long, take_at (to_be_bytes w n) rest (byte_len w) len, drop_at (to_be_bytes w n) rest (byte_len w) len, wide.again n lt) refl;
}

byte_back : (bytes : List ℕ) (x : ℕ × List ℕ) → IsBytes bytes → byte_at bytes ≡ Some x → Takes bytes (x.0 ∷ []) x.1 × (x.0 < 256)
byte_back [] x fits e = absurd cc
byte_back (b ∷ bytes) x fits e =
    subst (λ (y : ℕ × List ℕ). Takes (b ∷ bytes) (y.0 ∷ []) y.1 × (y.0 < 256)) (some_is (b, bytes) x e)
    (record { parts = refl; text_fits = IsBytes-take 1 (b ∷ bytes) fits; rest_fits = IsBytes-rest b bytes fits }, fits 0)

pub bytes_one : Reads byte_at (λ b. b ∷ []) (λ b. b < 256)
bytes_one = record { back = byte_back; again = λ b rest lt. refl }

-- ---- varints in their shortest form

some_len : (more : ℕ) (bytes : List ℕ) (v : ℕ × ℕ) → varint_of more bytes ≡ Ok v → 0 < v.1
some_len more [] v e = absurd cc
some_len zero (b ∷ bytes) v e = by (nat_lt 1 b) e
  where
    by : (t : Bool) → (if t then Err Long else Ok (b, 1)) ≡ Ok v → 0 < v.1
    by true h = absurd cc
    by false h = subst (λ (y : ℕ × ℕ). 0 < y.1) (ok_is (b, 1) v h) (omega arith)
some_len (suc more) (b ∷ bytes) v e = by (nat_lt b 128) e
  where
    longer : (r : Result (ℕ × ℕ) Wire) → after_byte b r ≡ Ok v → 0 < v.1
    longer (Ok rest) h = subst (λ (y : ℕ × ℕ). 0 < y.1) (ok_is (b - 128 + 128 * rest.0, rest.1 + 1) v h) (omega arith)
    longer (Err d) h = absurd cc

    by : (t : Bool) → (if t then Ok (b, 1) else after_byte b (varint_of more bytes)) ≡ Ok v → 0 < v.1
    by true h = subst (λ (y : ℕ × ℕ). 0 < y.1) (ok_is (b, 1) v h) (omega arith)
    by false h = longer (varint_of more bytes) h

-- a number that was read from a shortest form
abbrev IsSpelledSo : ℕ → List ℕ → ℕ × ℕ → Type 0
IsSpelledSo more bytes v = v.1 ≡ length (encoding_within more v.0) → bytes ≡ encoding_within more v.0 ++ drop v.1 bytes

short_more : (more b : ℕ) (bytes : List ℕ) (v : ℕ × ℕ) → b < 256 → nat_lt b 128 ≡ false → ((rest : ℕ × ℕ) → varint_of more bytes ≡ Ok rest → IsSpelledSo more bytes rest)
    → (r : Result (ℕ × ℕ) Wire) → varint_of more bytes ≡ r → after_byte b r ≡ Ok v → IsSpelledSo (suc more) (b ∷ bytes) v
short_more more b bytes v byte large back (Err d) read h = absurd cc
short_more more b bytes v byte large back (Ok rest) read h = subst (IsSpelledSo (suc more) (b ∷ bytes)) (ok_is (b - 128 + 128 * rest.0, rest.1 + 1) v h) (shown (nat_lt n 128) refl)
  where
    n : ℕ
    n = b - 128 + 128 * rest.0

    up : 128 ≤ b
    up = ltb-false _ _ large

    shown : (t : Bool) → nat_lt n 128 ≡ t → IsSpelledSo (suc more) (b ∷ bytes) (n, rest.1 + 1)
    shown true small len =
        let one : length (encoding_within (suc more) n) ≡ 1 = rw small refl in
        absurd (omega (arith, some_len more bytes rest read, len, one))
    shown false more_left len =
        let spelled : encoding_within (suc more) n ≡ (n % 128 + 128) ∷ encoding_within more (n / 128) = rw more_left refl in
        let low : n % 128 + 128 ≡ b = omega (arith, byte, up) in
        let high : n / 128 ≡ rest.0 = omega (arith, byte, up) in
        let short_n : rest.1 ≡ length (encoding_within more (n / 128)) = omega (arith, len, ap length spelled) in
        let short : rest.1 ≡ length (encoding_within more rest.0) = rw high at short_n in
        let behind : bytes ≡ encoding_within more rest.0 ++ drop rest.1 bytes = back rest read short in
        let left : drop (rest.1 + 1) (b ∷ bytes) ≡ drop rest.1 bytes = rw add-one refl in
        rw (spelled, low, high, left) (ap (λ (l : List ℕ). b ∷ l) behind)

short_last : (b : ℕ) (bytes : List ℕ) (v : ℕ × ℕ) (t : Bool) → (if t then Err Long else Ok (b, 1)) ≡ Ok v → IsSpelledSo zero (b ∷ bytes) v
short_last b bytes v true h = absurd cc
short_last b bytes v false h = subst (IsSpelledSo zero (b ∷ bytes)) (ok_is (b, 1) v h) (λ len. refl)

short_back : (more : ℕ) (bytes : List ℕ) (v : ℕ × ℕ) → IsBytes bytes → varint_of more bytes ≡ Ok v → IsSpelledSo more bytes v
short_back more [] v fits e = absurd cc
short_back zero (b ∷ bytes) v fits e = short_last b bytes v (nat_lt 1 b) e
short_back (suc more) (b ∷ bytes) v fits e = by (λ rest read. short_back more bytes rest (IsBytes-rest b bytes fits) read) (nat_lt b 128) refl e
  where
    by : ((rest : ℕ × ℕ) → varint_of more bytes ≡ Ok rest → IsSpelledSo more bytes rest) → (t : Bool) → nat_lt b 128 ≡ t → (if t then Ok (b, 1) else after_byte b (varint_of more bytes)) ≡ Ok v → IsSpelledSo (suc more) (b ∷ bytes) v
    by back true small h = subst (IsSpelledSo (suc more) (b ∷ bytes)) (ok_is (b, 1) v h) (λ len. rw small refl)
    by back false large h = short_more more b bytes v (fits 0) large back (varint_of more bytes) refl h

front-fits : (a b : List ℕ) → IsBytes (a ++ b) → IsBytes a
front-fits [] b h i = omega arith
front-fits (x ∷ a) b h zero = h 0
front-fits (x ∷ a) b h (suc i) = front-fits a b (λ j. h (suc j)) i

-- a varint of so many bytes is below its limit
varint_below : (more : ℕ) (bytes : List ℕ) (v : ℕ × ℕ) → IsBytes bytes → varint_of more bytes ≡ Ok v → v.0 < 2 ^ (7 * more + 1)
varint_below more [] v fits e = absurd cc
varint_below zero (b ∷ bytes) v fits e = by (nat_lt 1 b) refl e
  where
    by : (t : Bool) → nat_lt 1 b ≡ t → (if t then Err Long else Ok (b, 1)) ≡ Ok v → v.0 < 2 ^ (7 * 0 + 1)
    by true large h = absurd cc
    by false small h = let le : b ≤ 1 = ltb-false _ _ small in subst (λ (y : ℕ × ℕ). y.0 < 2 ^ (7 * 0 + 1)) (ok_is (b, 1) v h) (omega arith)
varint_below (suc more) (b ∷ bytes) v fits e = by (λ rest read. varint_below more bytes rest (IsBytes-rest b bytes fits) read) (nat_lt b 128) refl e
  where
    longer : ((rest : ℕ × ℕ) → varint_of more bytes ≡ Ok rest → rest.0 < 2 ^ (7 * more + 1)) → (r : Result (ℕ × ℕ) Wire) → varint_of more bytes ≡ r → after_byte b r ≡ Ok v → v.0 < 2 ^ (7 * suc more + 1)
    longer below (Err d) read h = absurd cc
    longer below (Ok rest) read h =
        let k : suc more - 1 ≡ more = omega arith in
        let less : rest.0 < 2 ^ (7 * (suc more - 1) + 1) = rw k (below rest read) in
        subst (λ (y : ℕ × ℕ). y.0 < 2 ^ (7 * suc more + 1)) (ok_is (b - 128 + 128 * rest.0, rest.1 + 1) v h) (joined_below (suc more) b rest.0 (omega arith) (fits 0) less)

    by : ((rest : ℕ × ℕ) → varint_of more bytes ≡ Ok rest → rest.0 < 2 ^ (7 * more + 1)) → (t : Bool) → nat_lt b 128 ≡ t → (if t then Ok (b, 1) else after_byte b (varint_of more bytes)) ≡ Ok v → v.0 < 2 ^ (7 * suc more + 1)
    by below true small h = subst (λ (y : ℕ × ℕ). y.0 < 2 ^ (7 * suc more + 1)) (ok_is (b, 1) v h) (below_limit (suc more) b (omega arith) (ltb-true _ _ small))
    by below false large h = longer below (varint_of more bytes) refl h

short_case : (bytes : List ℕ) (x : ℕ × List ℕ) → IsBytes bytes → (r : Result (ℕ × ℕ) Wire) → varint bytes ≡ r → if_short bytes r ≡ Some x → Takes bytes (encoding x.0) x.1 × (x.0 < 2 ^ 64)
unfolding varint encoding
short_case bytes x fits (Err d) read e = absurd cc
short_case bytes x fits (Ok n) read e =
    let g = some_if (n.1 == length (encoding n.0)) (n.0, drop n.1 bytes) x e in
    let parts : bytes ≡ encoding n.0 ++ drop n.1 bytes = short_back 9 bytes n fits read (eqb-true _ _ g.0) in
    subst (λ (y : ℕ × List ℕ). Takes bytes (encoding y.0) y.1 × (y.0 < 2 ^ 64)) g.1
    (record { parts = parts; text_fits = front-fits (encoding n.0) (drop n.1 bytes) (subst IsBytes parts fits); rest_fits = IsBytes-drop n.1 bytes fits }, varint_below 9 bytes n fits read)

pub varints : Reads varint_at encoding (λ n. n < 2 ^ 64)
unfolding varint_at
varints = record {
  back = λ bytes x fits e. short_case bytes x fits (varint bytes) refl e;
  again = λ n rest lt.
      let same : (length (encoding n) == length (encoding n)) ≡ true = eq-eqb _ _ refl in
      ap (if_short (encoding n ++ rest)) (encoding_read_again n rest lt) ∙ rw (same, drop_at (encoding n) rest (length (encoding n)) refl) refl;
}

-- ---- bytes behind their number

pub sized_back : (bytes : List ℕ) (x : List ℕ × List ℕ) → IsBytes bytes → sized_at bytes ≡ Some x → Takes bytes (sized x.0) x.1 × IsBytes x.0 × (length x.0 < 2 ^ 64)
unfolding sized_at
sized_back bytes x fits e =
    let n = some_next (varint_at bytes) (λ n. split_off n.0 n.1) x e in
    let t = varints.back bytes n.0 fits n.1 in
    let g = some_if (nat_le n.0.0 (length n.0.1)) (take n.0.0 n.0.1, drop n.0.0 n.0.1) x n.2 in
    let long : n.0.0 ≤ length n.0.1 = leb-true _ _ g.0 in
    let len : length (take n.0.0 n.0.1) ≡ n.0.0 = omega (arith, length-take n.0.0 n.0.1) in
    let second = taken n.0.0 n.0.1 t.0.rest_fits in
    let both = Takes-then bytes (encoding n.0.0) n.0.1 (take n.0.0 n.0.1) (drop n.0.0 n.0.1) t.0 second in
    let whole_text : Takes bytes (sized (take n.0.0 n.0.1)) (drop n.0.0 n.0.1) = subst (λ (k : ℕ). Takes bytes (encoding k ++ take n.0.0 n.0.1) (drop n.0.0 n.0.1)) (sym len) both in
    subst (λ (p : List ℕ × List ℕ). Takes bytes (sized p.0) p.1 × IsBytes p.0 × (length p.0 < 2 ^ 64)) g.1 (whole_text, second.text_fits, omega (arith, t.1))

pub sized_again : (text rest : List ℕ) → length text < 2 ^ 64 → sized_at (sized text ++ rest) ≡ Some (text, rest)
unfolding sized_at
sized_again text rest lt =
    let whole_text : sized text ++ rest ≡ encoding (length text) ++ (text ++ rest) = append_assoc (encoding (length text)) text rest in
    let long : nat_le (length text) (length (text ++ rest)) ≡ true = le-leb _ _ (omega (arith, length-append text rest)) in
    ap (λ (b : List ℕ). varint_at b >>= λ n. split_off n.0 n.1) whole_text
    ∙ ap (λ (o : Option (ℕ × List ℕ)). o >>= λ n. split_off n.0 n.1) (varints.again (length text) (text ++ rest) lt)
    ∙ rw (long, take_at text rest (length text) refl, drop_at text rest (length text) refl) refl

-- ---- so many parts

module _ {A : Type 0} (read : List ℕ → Option (A × List ℕ)) (text : A → List ℕ) (Is : A → Type 0) (both : Reads read text Is) where
  pub parts_back : (n : ℕ) (bytes : List ℕ) (x : List A × List ℕ) → IsBytes bytes → parts_at read n bytes ≡ Some x → Takes bytes (flat_map text x.0) x.1 × (length x.0 ≡ n) × AllByRecursion Is x.0
  parts_back zero bytes x fits e =
      subst (λ (y : List A × List ℕ). Takes bytes (flat_map text y.0) y.1 × (length y.0 ≡ 0) × AllByRecursion Is y.0) (some_is ([], bytes) x e)
      (record { parts = refl; text_fits = IsBytes-take 0 bytes fits; rest_fits = fits }, refl, tt)
  parts_back (suc n) bytes x fits e =
      let a = some_next (read bytes) (λ first. parts_at read n first.1 >>= λ others. Some (first.0 ∷ others.0, others.1)) x e in
      let b = some_next (parts_at read n a.0.1) (λ others. Some (a.0.0 ∷ others.0, others.1)) x a.2 in
      let first = both.back bytes a.0 fits a.1 in
      let second = parts_back n a.0.1 b.0 first.0.rest_fits b.1 in
      let joined = Takes-then bytes (text a.0.0) a.0.1 (flat_map text b.0.0) b.0.1 first.0 second.0 in
      subst (λ (y : List A × List ℕ). Takes bytes (flat_map text y.0) y.1 × (length y.0 ≡ suc n) × AllByRecursion Is y.0) (some_is (a.0.0 ∷ b.0.0, b.0.1) x b.2)
      (rw flat_map-cons joined, ap suc second.1, (first.1, second.2))

  pub parts_again : (xs : List A) (rest : List ℕ) → AllByRecursion Is xs → parts_at read (length xs) (flat_map text xs ++ rest) ≡ Some (xs, rest)
  parts_again [] rest fits = refl
  parts_again (x ∷ xs) rest fits =
      let regrouped : flat_map text (x ∷ xs) ++ rest ≡ text x ++ (flat_map text xs ++ rest) = ap (λ (t : List ℕ). t ++ rest) (flat_map-cons text x xs) ∙ append_assoc (text x) (flat_map text xs) rest in
      ap (parts_at read (suc (length xs))) regrouped ∙ rw (both.again x (flat_map text xs ++ rest) fits.0, parts_again xs rest fits.1) refl
