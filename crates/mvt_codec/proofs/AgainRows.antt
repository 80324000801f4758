-- A value and a row that are written are read again.
use Rattle.std.proofs.Common.{◌≡◌, ℕ, All, ◌+◌, ◌*◌, ◌/◌, ◌%◌, ◌^◌, ◌<◌, ◌==◌, Bool, true, false, if◌then◌else◌, pos, negsuc, Some, Ok, List, [], ◌∷◌, ◌++◌, map, length, refl, sym, ap, subst, ◌∙◌, arith, append_assoc, length-append}
use Rattle.std.proofs.lemmas.Bool.{eqb-true}
use Rattle.std.proofs.lemmas.List.{append-nil}
use Rattle.std.proofs.lemmas.List.Elements.{All-head, All-tail}
use Rattle.tb_types.specs.declared.attribute.Attr.{Attr}
use Rattle.tb_types.specs.declared.attribute.AttrValue.{AttrValue}
use Rattle.tb_types.specs.declared.attribute.AttrValue.TheVariants.{Text, Whole, Truth, Bits32, Bits64}
use Rattle.tb_wire.specs.Varint.{encoding}
use Rattle.tb_types.specs.Zigzag.{unzigzag_of}
use Rattle.tb_wire.specs.Field.{number, text, four_bytes, eight_bytes}
use Rattle.tb_wire.specs.Items.{◌>>=◌ as go_on, with_rest}
use Rattle.tb_wire.specs.Message.{len_text, packed_at}
use Rattle.tb_wire.proofs.Again.{read_between, encoding-some}
use Rattle.tb_wire.proofs.Messages.{packed_at-step, number_at-end}
use Rattle.mvt_geom.specs.Options.{◌>>=◌}
use Rattle.mvt_codec.specs.declared.row.TileRow.{TileRow}
use Rattle.mvt_codec.specs.Value.{number_text, value_text}
use Rattle.mvt_codec.specs.Tile.{tags_of, numbers_text, id_text, tags_text, ints_text, feature_text}
use Rattle.mvt_codec.specs.Messages.{if_read, low_32, numbers_in}
use Rattle.mvt_codec.specs.Grammar.{value_in, note_value, no_value, value_said, Feature, no_feature, with_id, with_tags, with_form, with_ints, note_feature, attributes_at, row_of, row_in}
use Rattle.mvt_codec.specs.Again.{FitsValue, FitsRow}
use Rattle.mvt_codec.proofs.MessageSteps.{number_at-some}
use Rattle.mvt_codec.proofs.AgainFields.{field, len-field, number-field, four-field, eight-field, Says, says-nothing, says-field, says-both, says-all}

odd_again : (n : ℕ) → unzigzag_of (2 * n + 1) ≡ negsuc n
odd_again n = let odd : (2 * n + 1) % 2 ≡ 1 = omega arith in let half : (2 * n + 1) / 2 ≡ n = omega arith in rw (odd, half) refl

value-says : (v : AttrValue) → FitsValue v → Says note_value no_value (value_text v) (Some v)
unfolding value_text value_in
value-says (Text t) is = says-field note_value no_value (Some (Text t)) (len_text 1 t) (field 1 (text t)) (len-field 1 t (omega arith) (omega arith)) (λ _. rw is refl)
value-says (Bits32 n) is = says-field note_value no_value (Some (Bits32 n)) _ (field 2 (four_bytes n)) (four-field 2 n (omega arith) (omega arith) is) (λ _. refl)
value-says (Bits64 n) is = says-field note_value no_value (Some (Bits64 n)) _ (field 3 (eight_bytes n)) (eight-field 3 n (omega arith) (omega arith) is) (λ _. refl)
value-says (Whole (pos n)) is = says-field note_value no_value (Some (Whole (pos n))) _ (field 5 (number n)) (number-field 5 n (omega arith) (omega arith) is) (λ _. refl)
value-says (Whole (negsuc n)) is =
    says-field note_value no_value (Some (Whole (negsuc n))) _ (field 6 (number (2 * n + 1))) (number-field 6 (2 * n + 1) (omega arith) (omega arith) (omega (arith, is))) (λ _. ap (λ z. Some (Some (Whole z))) (odd_again n))
value-says (Truth true) is = says-field note_value no_value (Some (Truth true)) _ (field 7 (number 1)) (number-field 7 1 (omega arith) (omega arith) (omega arith)) (λ _. refl)
value-says (Truth false) is = says-field note_value no_value (Some (Truth false)) _ (field 7 (number 0)) (number-field 7 0 (omega arith) (omega arith) (omega arith)) (λ _. refl)

pub value-again : (v : AttrValue) → length (value_text v) < 2 ^ 64 → FitsValue v → value_said (value_text v) ≡ Some v
value-again v fits is = ap (λ r. r >>= λ x. x) (says-all note_value no_value (Some v) (value_text v) fits (value-says v is))

-- the numbers of a packed list
packed-rest : (before ns : List ℕ) → All (λ n. n < 2 ^ 32) ns → packed_at (before ++ numbers_text ns) (length before) ≡ Ok ns
packed-rest before [] is =
    let bytes = before ++ [] in
    let end : length bytes ≡ length before = ap length (append-nil before) in
    packed_at-step bytes (length before) (omega (arith, end)) ∙ ap (λ r. go_on r (with_rest (packed_at bytes))) (number_at-end bytes (length before) end)
packed-rest before (n ∷ ns) is =
    let bytes = before ++ (encoding n ++ numbers_text ns) in
    let small : n < 2 ^ 32 = All-head (λ m. m < 2 ^ 32) n ns is in
    let long : length bytes ≡ length before + (length (encoding n) + length (numbers_text ns)) = omega (arith, length-append before (encoding n ++ numbers_text ns), length-append (encoding n) (numbers_text ns)) in
    let within : length before < length bytes = omega (arith, long, encoding-some n) in
    let read = read_between before (numbers_text ns) n (omega (arith, small)) in
    let whole : (before ++ encoding n) ++ numbers_text ns ≡ bytes = append_assoc before (encoding n) (numbers_text ns) in
    let rest : packed_at bytes (length before + length (encoding n)) ≡ Ok ns =
    (λ i. packed_at (sym whole i) (sym (length-append before (encoding n)) i)) ∙ packed-rest (before ++ encoding n) ns (All-tail (λ m. m < 2 ^ 32) n ns is) in
    packed_at-step bytes (length before) (omega (arith, within)) ∙ ap (λ r. go_on r (with_rest (packed_at bytes))) (number_at-some bytes (length before) (n, length before + length (encoding n)) within (sym read))
    ∙ ap (λ r. go_on r (λ later. Ok (n ∷ later))) rest

low : (ns : List ℕ) → All (λ n. n < 2 ^ 32) ns → map low_32 ns ≡ ns
low [] is = refl
low (n ∷ ns) is =
    let small : n < 2 ^ 32 = All-head (λ m. m < 2 ^ 32) n ns is in
    let same : low_32 n ≡ n = omega (arith, small) in
    (λ i. same i ∷ low ns (All-tail (λ m. m < 2 ^ 32) n ns is) i)

numbers-again : (ns : List ℕ) → All (λ n. n < 2 ^ 32) ns → numbers_in (text (numbers_text ns)) ≡ Some ns
numbers-again ns is = ap (λ r. if_read r >>= λ numbers. Some (map low_32 numbers)) (packed-rest [] ns is) ∙ ap Some (low ns is)

-- the parts of a feature
id-says : (f : Feature) (id : ℕ) → f.id ≡ 0 → id < 2 ^ 64 → Says note_feature f (id_text id) (with_id f id)
unfolding note_feature
id-says f id none small = by (id == 0) refl
  where
    by : (b : Bool) → (id == 0) ≡ b → Says note_feature f (if b then [] else number_text 1 id) (with_id f id)
    by true e = subst (λ n. Says note_feature f [] (with_id f n)) (none ∙ sym (eqb-true id 0 e)) (says-nothing note_feature f)
    by false e = says-field note_feature f (with_id f id) _ (field 1 (number id)) (number-field 1 id (omega arith) (omega arith) small) (λ _. refl)

tags-says : (f : Feature) (keys values : List (List ℕ)) (attributes : List Attr) → All (λ n. n < 2 ^ 32) (tags_of keys values attributes) → Says note_feature f (tags_text keys values attributes) (with_tags f (tags_of keys values attributes))
unfolding note_feature
tags-says f keys values [] is = subst (λ tags. Says note_feature f [] (record { id = f.id; tags = tags; form = f.form; ints = f.ints })) (sym (append-nil f.tags)) (says-nothing note_feature f)
tags-says f keys values (a ∷ attributes) is =
    let tags = tags_of keys values (a ∷ attributes) in
    says-field note_feature f (with_tags f tags) _ (field 2 (text (numbers_text tags))) (len-field 2 (numbers_text tags) (omega arith) (omega arith)) (λ _. ap (λ r. r >>= λ ts. Some (with_tags f ts)) (numbers-again tags is))

form-says : (f : Feature) (form : ℕ) → form < 2 ^ 8 → Says note_feature f (number_text 3 form) (with_form f form)
unfolding note_feature
form-says f form small =
    let same : low_32 form ≡ form = omega (arith, small) in
    says-field note_feature f (with_form f form) _ (field 3 (number form)) (number-field 3 form (omega arith) (omega arith) (omega (arith, small))) (λ _. ap (λ n. Some (with_form f n)) same)

ints-says : (f : Feature) (ints : List ℕ) → All (λ n. n < 2 ^ 32) ints → Says note_feature f (ints_text ints) (with_ints f ints)
unfolding note_feature
ints-says f ints is =
    says-field note_feature f (with_ints f ints) _ (field 4 (text (numbers_text ints))) (len-field 4 (numbers_text ints) (omega arith) (omega arith)) (λ _. ap (λ r. r >>= λ ns. Some (with_ints f ns)) (numbers-again ints is))

abbrev pub feature_of : List (List ℕ) → List (List ℕ) → TileRow → Feature
feature_of keys values row = record { id = row.id; tags = tags_of keys values row.attributes; form = row.form; ints = row.ints }

feature-says : (keys values : List (List ℕ)) (row : TileRow) → FitsRow row → All (λ n. n < 2 ^ 32) (tags_of keys values row.attributes) → Says note_feature no_feature (feature_text keys values row) (feature_of keys values row)
unfolding feature_text
feature-says keys values row is tags =
    let one = with_id no_feature row.id in
    let two = with_tags one (tags_of keys values row.attributes) in
    let three = with_form two row.form in
    let four = with_ints three row.ints in
    says-both note_feature no_feature three four (id_text row.id ++ tags_text keys values row.attributes ++ number_text 3 row.form) (ints_text row.ints)
    (says-both note_feature no_feature two three (id_text row.id ++ tags_text keys values row.attributes) (number_text 3 row.form)
    (says-both note_feature no_feature one two (id_text row.id) (tags_text keys values row.attributes) (id-says no_feature row.id refl is.id) (tags-says one keys values row.attributes tags)) (form-says two row.form is.small))
    (ints-says three row.ints is.ints)

-- a row, where its tags name its attributes
pub row-again : (keys values : List (List ℕ)) (read : List AttrValue) (row : TileRow) → length (feature_text keys values row) < 2 ^ 64 → FitsRow row → All (λ n. n < 2 ^ 32) (tags_of keys values row.attributes)
    → attributes_at keys read (tags_of keys values row.attributes) ≡ Some row.attributes → row_in keys read (feature_text keys values row) ≡ Some row
row-again keys values read row fits is tags named =
    let said = says-all note_feature no_feature (feature_of keys values row) (feature_text keys values row) fits (feature-says keys values row is tags) in
    let form = is.form in
    ap (λ r. r >>= row_of keys read) said ∙ rw (form, named) refl
