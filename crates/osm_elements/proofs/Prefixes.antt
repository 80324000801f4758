-- What a loop has read so far, before what is read of the rest.
use Rattle.std.proofs.Common.{◌≡◌, false, ℕ, ◌+◌, ◌<◌, ◌≤◌, Option, None, Some, Result, Ok, Err, List, [], ◌∷◌, ◌++◌, length, map, drop, get_or, suc, refl, ap, sym, subst, ◌∙◌, arith, append_assoc}
use Rattle.std.proofs.lemmas.List.{map-append, append-nil}
use Rattle.std.proofs.lemmas.Bool.{ne_eqb}
use Rattle.std.proofs.Math.Numerals.{add-one}
use Rattle.std.proofs.Math.Seq.{drop-cons}
use Rattle.std.specs.Prelude.{nat_eq}
use Rattle.std.specs.Result.{IsErrAnd}
use Rattle.tb_types.specs.declared.damage.Why.{Why}
use Rattle.tb_types.specs.declared.damage.Why.TheVariants as reasons
use Rattle.tb_wire.specs.declared.varint.Wire.{Wire}
use Rattle.tb_wire.specs.declared.field.Field.{Field}
use Rattle.tb_wire.specs.Field.{Value, Entry, entry_of, field_at}
use Rattle.tb_wire.specs.Items.{◌>>=◌ as ◌>>!◌, with_rest, with_prefix}
use Rattle.tb_wire.specs.Message.{message, message_at, packed, packed_at, number_at}
use Rattle.tb_wire.specs.Varint.{varint_at}
use Rattle.tb_wire.proofs.Items.{with_prefix-item}
use Rattle.tb_wire.proofs.Messages.{message_at-step, packed_at-step, number_at-end}
use Rattle.osm_elements.specs.declared.fault.BlockErr.{BlockErr}
use Rattle.osm_elements.specs.declared.fault.BlockErr.TheVariants as faults
use Rattle.tb_types.specs.Results.{◌>>=◌}
use Rattle.osm_elements.specs.Reasons.{IsStop, Gives}
use Rattle.osm_elements.specs.Fields.{or_wire, with_found, all_of, if_numbered, last_or, last_read}

pub with_prefix-nil : {A : Type 0} (left : Result (List A) Wire) → with_prefix [] left ≡ left
with_prefix-nil (Ok rest) = refl
with_prefix-nil (Err e) = refl

pub with_found_nil : {A : Type 0} (left : Result (List A) Why) → with_found [] left ≡ left
with_found_nil (Ok rest) = refl
with_found_nil (Err e) = refl

pub or_wire-prefix : {A : Type 0} (prefix : List A) (left : Result (List A) Wire) → or_wire (with_prefix prefix left) ≡ with_found prefix (or_wire left)
or_wire-prefix prefix (Ok rest) = refl
or_wire-prefix prefix (Err e) = refl

-- a field that was read
pub field_read : (bytes : List ℕ) (at : ℕ) (fields : List Field) (f : Field) (total : Result (List Entry) Wire) → at ≤ length bytes → Ok (Some (entry_of f, f.next)) ≡ field_at bytes at
    → with_prefix (map entry_of fields) (message_at bytes at) ≡ total → with_prefix (map entry_of (fields ++ f ∷ [])) (message_at bytes f.next) ≡ total
field_read bytes at fields f total h read told =
    let step : message_at bytes at ≡ message_at bytes f.next >>! λ rest. Ok (entry_of f ∷ rest) =
    message_at-step bytes at h ∙ ap (λ r. r >>! with_rest (message_at bytes)) (sym read) in
    rw map-append (sym (with_prefix-item (map entry_of fields) (entry_of f) (message_at bytes f.next)) ∙ (ap (with_prefix (map entry_of fields)) (sym step) ∙ told))

-- no field where one should stand
pub no_field : (bytes : List ℕ) (at : ℕ) (prefix before : List Entry) (e : Wire) → at ≤ length bytes → Err e ≡ field_at bytes at
    → with_prefix prefix (message_at bytes at) ≡ with_prefix before (message bytes) → with_found before (or_wire (message bytes)) ≡ Err reasons.Wire
no_field bytes at prefix before e h read told =
    let step : message_at bytes at ≡ Err e = message_at-step bytes at h ∙ ap (λ r. r >>! with_rest (message_at bytes)) (sym read) in
    sym (or_wire-prefix before (message bytes)) ∙ ap or_wire (sym told ∙ ap (with_prefix prefix) step)

-- the end
pub all_fields : (bytes : List ℕ) (at : ℕ) (prefix before : List Entry) → at ≤ length bytes → Ok None ≡ field_at bytes at
    → with_prefix prefix (message_at bytes at) ≡ with_prefix before (message bytes) → with_found before (or_wire (message bytes)) ≡ Ok prefix
all_fields bytes at prefix before h read told =
    let step : message_at bytes at ≡ Ok [] = message_at-step bytes at h ∙ ap (λ r. r >>! with_rest (message_at bytes)) (sym read) in
    sym (or_wire-prefix before (message bytes)) ∙ (ap or_wire (sym told ∙ ap (with_prefix prefix) step) ∙ ap Ok (append-nil prefix))

-- a number that was read
number_at-read : (bytes : List ℕ) (at : ℕ) (r : Result (ℕ × ℕ) Wire) → at < length bytes → r ≡ varint_at bytes at → number_at bytes at ≡ r >>! λ n. Ok (Some n)
unfolding number_at
number_at-read bytes at r h read = let more : nat_eq (length bytes) at ≡ false = ne_eqb (length bytes) at (λ same. absurd (omega arith)) in rw (more, ← read) refl

pub number_read : (bytes : List ℕ) (at : ℕ) (numbers : List ℕ) (n next : ℕ) (total : Result (List ℕ) Wire) → at < length bytes → Ok (n, next) ≡ varint_at bytes at
    → with_prefix numbers (packed_at bytes at) ≡ total → with_prefix (numbers ++ n ∷ []) (packed_at bytes next) ≡ total
number_read bytes at numbers n next total h read told =
    let step : packed_at bytes at ≡ packed_at bytes next >>! λ rest. Ok (n ∷ rest) =
    packed_at-step bytes at (omega arith) ∙ ap (λ r. r >>! with_rest (packed_at bytes)) (number_at-read bytes at (Ok (n, next)) h read) in
    sym (with_prefix-item numbers n (packed_at bytes next)) ∙ (ap (with_prefix numbers) (sym step) ∙ told)

pub no_number : (bytes : List ℕ) (at : ℕ) (prefix before : List ℕ) (e : Wire) → at < length bytes → Err e ≡ varint_at bytes at
    → with_prefix prefix (packed_at bytes at) ≡ with_prefix before (packed bytes) → with_found before (or_wire (packed bytes)) ≡ Err reasons.Wire
no_number bytes at prefix before e h read told =
    let step : packed_at bytes at ≡ Err e = packed_at-step bytes at (omega arith) ∙ ap (λ r. r >>! with_rest (packed_at bytes)) (number_at-read bytes at (Err e) h read) in
    sym (or_wire-prefix before (packed bytes)) ∙ ap or_wire (sym told ∙ ap (with_prefix prefix) step)

pub all_numbers : (bytes : List ℕ) (at : ℕ) (prefix before : List ℕ) → length bytes ≡ at
    → with_prefix prefix (packed_at bytes at) ≡ with_prefix before (packed bytes) → with_found before (or_wire (packed bytes)) ≡ Ok prefix
all_numbers bytes at prefix before h told =
    let step : packed_at bytes at ≡ Ok [] = packed_at-step bytes at (omega arith) ∙ ap (λ r. r >>! with_rest (packed_at bytes)) (number_at-end bytes at h) in
    sym (or_wire-prefix before (packed bytes)) ∙ (ap or_wire (sym told ∙ ap (with_prefix prefix) step) ∙ ap Ok (append-nil prefix))

-- what the next part has joins what was found
pub with_found-part : {A : Type 0} (prefix : List A) (these later : Result (List A) Why)
    → with_found prefix (these >>= λ xs. later >>= λ rest. Ok (xs ++ rest)) ≡ with_found prefix these >>= λ more. with_found more later
with_found-part prefix (Ok xs) (Ok rest) = ap Ok (sym (append_assoc prefix xs rest))
with_found-part prefix (Ok xs) (Err why) = refl
with_found-part prefix (Err why) later = refl

-- an item joins what was found
pub with_found-item : {A : Type 0} (prefix : List A) (x : A) (later : Result (List A) Why)
    → with_found prefix (later >>= λ rest. Ok (x ∷ rest)) ≡ with_found (prefix ++ x ∷ []) later
with_found-item prefix x (Ok rest) = ap Ok (sym (append_assoc prefix (x ∷ []) rest))
with_found-item prefix x (Err why) = refl

pub last_read-item : {A : Type 0} (before : Option A) (x : A) (later : Result (List A) Why)
    → last_read before (later >>= λ rest. Ok ((x ∷ []) ++ rest)) ≡ last_read (Some x) later
last_read-item before x (Ok rest) = refl
last_read-item before x (Err why) = refl

pub with_found-err : {A : Type 0} (prefix : List A) (r : Result (List A) Why) (why : Why) → with_found prefix r ≡ Err why → r ≡ Err why
with_found-err prefix (Ok xs) why h = cc
with_found-err prefix (Err e) why h = cc

pub last_read-err : {A : Type 0} (before : Option A) (r : Result (List A) Why) (why : Why) → last_read before r ≡ Err why → r ≡ Err why
last_read-err before (Ok xs) why h = cc
last_read-err before (Err e) why h = cc

last_or-append : {A : Type 0} (before : Option A) (xs ys : List A) → last_or before (xs ++ ys) ≡ last_or (last_or before xs) ys
last_or-append before [] ys = refl
last_or-append before (x ∷ xs) ys = last_or-append (Some x) xs ys

pub last_read-part : {A : Type 0} (before : Option A) (these later : Result (List A) Why)
    → last_read before (these >>= λ xs. later >>= λ rest. Ok (xs ++ rest)) ≡ last_read before these >>= λ now. last_read now later
last_read-part before (Ok xs) (Ok rest) = ap Ok (last_or-append before xs rest)
last_read-part before (Ok xs) (Err why) = refl
last_read-part before (Err why) later = refl

-- What adds the part of each field, one after another, to what was read before.
module _ {S A : Type 0} (add : S → Result (List A) Why → Result S Why) (law : (before : S) (these later : Result (List A) Why) → add before (these >>= λ xs. later >>= λ rest. Ok (xs ++ rest)) ≡ add before these >>= λ now. add now later)
    (read : Value → Result (List A) Why) (n : ℕ) (fields : List Field) where
  pub all_of-next : (i : ℕ) (d : Field) (before : S) → i < length fields
      → add before (all_of read n (map entry_of (drop i fields))) ≡ add before (if_numbered read n (entry_of (get_or fields i d))) >>= λ now. add now (all_of read n (map entry_of (drop (i + 1) fields)))
  all_of-next i d before h =
      let next : drop i fields ≡ get_or fields i d ∷ drop (suc i) fields = drop-cons fields i d h in
      rw (add-one, next) (law before (if_numbered read n (entry_of (get_or fields i d))) (all_of read n (map entry_of (drop (suc i) fields))))

  pub part_read : (i : ℕ) (d : Field) (before now : S) (total : Result S Why) → i < length fields → add before (if_numbered read n (entry_of (get_or fields i d))) ≡ Ok now
      → add before (all_of read n (map entry_of (drop i fields))) ≡ total → add now (all_of read n (map entry_of (drop (i + 1) fields))) ≡ total
  part_read i d before now total h step told =
      sym (ap (λ r. r >>= λ s. add s (all_of read n (map entry_of (drop (i + 1) fields)))) step) ∙ (sym (all_of-next i d before h) ∙ told)

  pub part_stopped : (i : ℕ) (d : Field) (before : S) (why : Why) (total : Result S Why) → i < length fields → add before (if_numbered read n (entry_of (get_or fields i d))) ≡ Err why
      → add before (all_of read n (map entry_of (drop i fields))) ≡ total → total ≡ Err why
  part_stopped i d before why total h step told =
      sym told ∙ (all_of-next i d before h ∙ ap (λ r. r >>= λ s. add s (all_of read n (map entry_of (drop (i + 1) fields)))) step)

-- a call that stops gives its reason, and whatever rests on it has the same
pub stopped : {A B : Type 0} (e : BlockErr) (part : Result A Why) (whole : Result B Why) → IsStop e part → ((why : Why) → part ≡ Err why → whole ≡ Err why) → IsStop e whole
stopped (faults.Bad why) part whole h k = k why h
stopped faults.Memory part whole h k = tt

-- what `?` hands on is the error of the call
pub handed_on : {X A B : Type 0} (seen : X → B) (r : Result X BlockErr) (e : BlockErr) (part : Result A Why) (whole : Result B Why) → IsErrAnd r (λ x. x ≡ e) → IsStop e part
    → ((why : Why) → part ≡ Err why → whole ≡ Err why) → Gives seen r whole
handed_on seen (Ok x) e part whole h g k = absurd h
handed_on seen (Err x) e part whole h g k = subst (λ (y : BlockErr). IsStop y whole) (sym h) (stopped e part whole g k)
