-- What is put of a message is read again, whatever stands before and behind it.
use Rattle.std.proofs.Common.{◌≡◌, ◌≢◌, ℕ, All, ◌+◌, ◌-◌, ◌*◌, ◌/◌, ◌%◌, ◌^◌, ◌<◌, ◌≤◌, nat_lt, nat_eq, false, Option, Some, Ok, List, [], ◌∷◌, ◌++◌, map, flat_map, length, refl, sym, ap, subst, ◌∙◌, arith, append_assoc, length-append}
use Rattle.std.specs.Int.{w32, w64, to_le_bytes}
use Rattle.std.proofs.lemmas.Bool.{le-ltb, ne_eqb}
use Rattle.std.proofs.lemmas.Nat.{from_le_bytes-to_le_bytes_4, from_le_bytes-to_le_bytes_8}
use Rattle.std.proofs.lemmas.List.{append-nil}
use Rattle.std.proofs.lemmas.List.Elements.{All-head, All-tail}
use Rattle.tb_wire.specs.Varint.{encoding, varint_at}
use Rattle.tb_wire.specs.Field.{Value, Entry, number, eight_bytes, text, four_bytes, value_at, field_at}
use Rattle.tb_wire.specs.Message.{len_text}
use Rattle.tb_wire.proofs.Again.{read_between, part_between, encoding-some, fields_are_read_again}
use Rattle.mvt_codec.specs.Value.{number_text, eight_text, four_text}
use Rattle.mvt_codec.specs.Messages.{said_from}
use Rattle.mvt_codec.proofs.MessageSteps.{said-entry, said-over}

-- a text is a field, whatever stands before and behind it
abbrev pub IsField : List ℕ → Entry → Type 0
IsField t f = (before behind : List ℕ) → length (before ++ (t ++ behind)) < 2 ^ 64 → field_at (before ++ (t ++ behind)) (length before) ≡ Ok (Some (f, length before + length t))

abbrev pub field : ℕ → Value → Entry
field n v = record { number = n; value = v }

-- a text in a field is no longer than the field
pub within_len : (n : ℕ) (body : List ℕ) → length body ≤ length (len_text n body)
unfolding len_text
within_len n body = omega (arith, length-append (encoding (n * 8 + 2) ++ encoding (length body)) body)

-- a part is no longer than the whole
pub within_whole : (before t behind : List ℕ) → length t ≤ length (before ++ (t ++ behind))
within_whole before t behind = omega (arith, length-append before (t ++ behind), length-append t behind)

pub len-field : (n : ℕ) (body : List ℕ) → 1 ≤ n → n < 2 ^ 29 → IsField (len_text n body) (field n (text body))
len-field n body some below before behind whole =
    let fits : length body < 2 ^ 64 = omega (arith, whole, within_len n body, within_whole before (len_text n body) behind) in
    ap (λ l. field_at l (length before)) (sym (append_assoc before (len_text n body) behind)) ∙ fields_are_read_again before body behind n some below fits

-- a field from its tag and its value
tagged : (bytes : List ℕ) (at next n type : ℕ) (v : Value × ℕ) → length bytes ≢ at → type < 8 → varint_at bytes at ≡ Ok (n * 8 + type, next) → 1 ≤ n → n < 2 ^ 29 → value_at bytes type next ≡ Ok v
    → field_at bytes at ≡ Ok (Some (field n v.0, v.1))
unfolding field_at
tagged bytes at next n type v more small read some below value =
    let not_end : nat_eq (length bytes) at ≡ false = ne_eqb (length bytes) at more in
    let its_number : (n * 8 + type) / 8 ≡ n = omega arith in
    let its_type : (n * 8 + type) % 8 ≡ type = omega arith in
    let is_some_number : nat_eq n 0 ≡ false = ne_eqb n 0 (omega arith) in
    let is_small : nat_lt (2 ^ 29 - 1) n ≡ false = le-ltb (2 ^ 29 - 1) n (omega arith) in
    rw (not_end, read, its_number, its_type, is_some_number, is_small, value) refl

-- a field of a tag and of bytes that are read as a value behind it
abbrev pub IsValue : ℕ → List ℕ → Value → Type 0
IsValue type t v = (before behind : List ℕ) → value_at (before ++ (t ++ behind)) type (length before) ≡ Ok (v, length before + length t)

value-field : (n type : ℕ) (t : List ℕ) (v : Value) → 1 ≤ n → n < 2 ^ 29 → type < 8 → IsValue type t v → IsField (encoding (n * 8 + type) ++ t) (field n v)
value-field n type t v some below small is before behind _ =
    let tag = encoding (n * 8 + type) in
    let bytes = before ++ (tag ++ (t ++ behind)) in
    let whole : before ++ ((tag ++ t) ++ behind) ≡ bytes = simp append_assoc in
    let behind_tag : bytes ≡ (before ++ tag) ++ (t ++ behind) = sym (append_assoc before tag (t ++ behind)) in
    let place : length before + length tag ≡ length (before ++ tag) = sym (length-append before tag) in
    let more : length bytes ≢ length before = λ same. absurd (omega (arith, same, length-append before (tag ++ (t ++ behind)), length-append tag (t ++ behind), encoding-some (n * 8 + type))) in
    let read = read_between before (t ++ behind) (n * 8 + type) (omega arith) in
    let value : value_at bytes type (length before + length tag) ≡ Ok (v, length (before ++ tag) + length t) = rw (behind_tag, place) (is (before ++ tag) behind) in
    let end : length (before ++ tag) + length t ≡ length before + length (tag ++ t) = omega (arith, length-append before tag, length-append tag t) in
    rw (whole, ← end) (tagged bytes (length before) (length before + length tag) n type (v, length (before ++ tag) + length t) more small read some below value)

number-value : (n : ℕ) → n < 2 ^ 64 → IsValue 0 (encoding n) (number n)
unfolding value_at
number-value n below before behind = rw (read_between before behind n below) refl

pub number-field : (k n : ℕ) → 1 ≤ k → k < 2 ^ 29 → n < 2 ^ 64 → IsField (number_text k n) (field k (number n))
unfolding number_text
number-field k n some below small = let tag : k * 8 + 0 ≡ k * 8 = omega arith in rw tag at (value-field k 0 (encoding n) (number n) some below (omega arith) (number-value n small))

four-value : (n : ℕ) → n < 2 ^ 32 → IsValue 5 (to_le_bytes w32 n) (four_bytes n)
unfolding value_at
four-value n below before behind = rw (part_between before (to_le_bytes w32 n) behind (length before) refl, from_le_bytes-to_le_bytes_4 n below) refl

eight-value : (n : ℕ) → n < 2 ^ 64 → IsValue 1 (to_le_bytes w64 n) (eight_bytes n)
unfolding value_at
eight-value n below before behind = rw (part_between before (to_le_bytes w64 n) behind (length before) refl, from_le_bytes-to_le_bytes_8 n below) refl

pub four-field : (k n : ℕ) → 1 ≤ k → k < 2 ^ 29 → n < 2 ^ 32 → IsField (four_text k n) (field k (four_bytes n))
unfolding four_text
four-field k n some below small = value-field k 5 (to_le_bytes w32 n) (four_bytes n) some below (omega arith) (four-value n small)

pub eight-field : (k n : ℕ) → 1 ≤ k → k < 2 ^ 29 → n < 2 ^ 64 → IsField (eight_text k n) (field k (eight_bytes n))
unfolding eight_text
eight-field k n some below small = value-field k 1 (to_le_bytes w64 n) (eight_bytes n) some below (omega arith) (eight-value n small)

-- A text changes what a message says so far, whatever stands before and behind it.
module _ {S : Type 0} (note : S → Entry → Option S) where
  abbrev pub Says : S → List ℕ → S → Type 0
  Says s t now = (before behind : List ℕ) → length (before ++ (t ++ behind)) < 2 ^ 64 → said_from note s (before ++ (t ++ behind)) (length before) ≡ said_from note now (before ++ (t ++ behind)) (length before + length t)

  pub says-nothing : (s : S) → Says s [] s
  says-nothing s before behind fits = let here : length before ≡ length before + 0 = omega arith in ap (λ n. said_from note s (before ++ behind) n) here

  pub says-field : (s now : S) (t : List ℕ) (f : Entry) → IsField t f → (length t < 2 ^ 64 → note s f ≡ Some now) → Says s t now
  says-field s now t f is e before behind fits =
      said-entry note s now (before ++ (t ++ behind)) (length before) f (length before + length t) (omega (arith, length-append before (t ++ behind))) (is before behind fits) (e (omega (arith, fits, within_whole before t behind)))

  pub says-both : (s mid now : S) (t u : List ℕ) → Says s t mid → Says mid u now → Says s (t ++ u) now
  says-both s mid now t u h k before behind fits =
      let inner : before ++ ((t ++ u) ++ behind) ≡ before ++ (t ++ (u ++ behind)) = simp append_assoc in
      let outer : before ++ (t ++ (u ++ behind)) ≡ (before ++ t) ++ (u ++ behind) = sym (append_assoc before t (u ++ behind)) in
      let place : length before + length t ≡ length (before ++ t) = sym (length-append before t) in
      let end : length (before ++ t) + length u ≡ length before + length (t ++ u) = omega (arith, length-append before t, length-append t u) in
      ap (λ l. said_from note s l (length before)) inner ∙ h before (u ++ behind) (rw (ap length inner) at fits) ∙ (λ i. said_from note mid (outer i) (place i)) ∙ k (before ++ t) behind (rw (ap length (inner ∙ outer)) at fits)
      ∙ (λ i. said_from note now (sym outer i) (end i)) ∙ ap (λ l. said_from note now l (length before + length (t ++ u))) (sym inner)

  -- a whole message
  pub says-all : (s now : S) (t : List ℕ) → length t < 2 ^ 64 → Says s t now → said_from note s t 0 ≡ Some now
  says-all s now t fits h =
      let whole : t ++ [] ≡ t = append-nil t in
      let here : 0 + length t ≡ length t = omega arith in
      let said : said_from note s (t ++ []) 0 ≡ said_from note now (t ++ []) (0 + length t) = h [] [] (rw (ap length (sym whole)) at fits) in
      ap (λ l. said_from note s l 0) (sym whole) ∙ said ∙ (λ i. said_from note now (whole i) (here i)) ∙ said-over note now t

  -- items that join a list, one after another
  module _ {X Y : Type 0} (P : X → Type 0) (at : List Y → S) (put : X → List ℕ) (make : X → Y) (says : (ys : List Y) (x : X) → P x → Says (at ys) (put x) (at (ys ++ make x ∷ []))) where
    pub says-items : (xs : List X) (ys : List Y) → All P xs → Says (at ys) (flat_map put xs) (at (ys ++ map make xs))
    says-items [] ys h = subst (λ zs. Says (at ys) [] (at zs)) (sym (append-nil ys)) (says-nothing (at ys))
    says-items (x ∷ xs) ys h =
        let rest : Says (at (ys ++ make x ∷ [])) (flat_map put xs) (at ((ys ++ make x ∷ []) ++ map make xs)) = says-items xs (ys ++ make x ∷ []) (All-tail P x xs h) in
        let joined : (ys ++ make x ∷ []) ++ map make xs ≡ ys ++ map make (x ∷ xs) = append_assoc ys (make x ∷ []) (map make xs) in
        says-both (at ys) (at (ys ++ make x ∷ [])) (at (ys ++ map make (x ∷ xs))) (put x) (flat_map put xs) (says ys x (All-head P x xs h)) (subst (λ zs. Says (at (ys ++ make x ∷ [])) (flat_map put xs) (at zs)) joined rest)
