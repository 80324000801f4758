-- A message that is walked field by field, with what is noted of each number.
use Rattle.std.proofs.Common.{◌≡◌, ℕ, ◌≤◌, ◌==◌, Option, None, Some, IsErrAnd, Result, Ok, Err, List, [], ◌∷◌, ◌++◌, length, refl, ap, sym, subst, ◌∙◌, append-nil}
use Rattle.tb_types.specs.declared.damage.Why.{Why}
use Rattle.tb_types.specs.declared.damage.Why.TheVariants as reasons
use Rattle.tb_types.specs.Results.{◌>>=◌}
use Rattle.tb_wire.specs.declared.varint.Wire.{Wire}
use Rattle.tb_wire.specs.declared.field.Field.{Field}
use Rattle.tb_wire.specs.Field.{Value, Entry, number, eight_bytes, text, four_bytes, entry_of, field_at}
use Rattle.tb_wire.specs.Items.{◌>>=◌ as ◌>>!◌, with_rest}
use Rattle.tb_wire.specs.Message.{message, message_at, packed}
use Rattle.tb_wire.proofs.Messages.{message_at-step}
use Rattle.osm_elements.specs.declared.fault.BlockErr.{BlockErr}
use Rattle.osm_elements.specs.declared.fault.BlockErr.TheVariants as faults
use Rattle.osm_elements.specs.Reasons.{IsStop, Gives}
use Rattle.osm_elements.specs.Fields.{or_wire, fields_of, one_number, some_numbers, if_numbered, all_of, last_or, last_read, last_number, numbers, with_found}
use Rattle.osm_elements.specs.Heads.{some_strings}
use Rattle.osm_elements.proofs.Prefixes.{with_found_nil, with_found-part, last_read-part}
use Rattle.osm_elements.proofs.Walks.{OnlyWire, only-next, only-either, or_wire-only, all_of-only, cons-wire, bodies_at-only}

-- what is noted where a number's fields from a place on are added to what was noted before
abbrev pub noted : {S A : Type 0} → (S → Result (List A) Why → Result S Why) → (Value → Result (List A) Why) → ℕ → List ℕ → S → ℕ → Result S Why
noted add read n bytes before at = or_wire (message_at bytes at) >>= λ left. add before (all_of read n left)

-- no message is the error of the call and of all that rests on it
pub wire_on : {X B : Type 0} (seen : X → B) (r : Result X BlockErr) (e : BlockErr) (whole : Result B Why) → IsErrAnd r (λ x. x ≡ e) → e ≡ faults.Bad reasons.Wire → whole ≡ Err reasons.Wire → Gives seen r whole
wire_on seen (Ok x) e whole h is stop = absurd h
wire_on seen (Err x) e whole h is stop = subst (λ (y : BlockErr). IsStop y whole) (sym (h ∙ is)) stop

pub hands : {X A B : Type 0} (seen : X → B) (r : Result X BlockErr) (e : BlockErr) (part : Result A Why) (whole : Result B Why) → IsErrAnd r (λ x. x ≡ e) → IsStop e part → OnlyWire part → (part ≡ Err reasons.Wire → whole ≡ Err reasons.Wire)
    → Gives seen r whole
hands seen (Ok x) e part whole h stop only rests = absurd h
hands seen (Err x) e part whole h stop only rests = subst (λ (y : BlockErr). IsStop y whole) (sym h) (go e stop)
  where
    go : (e : BlockErr) → IsStop e part → IsStop e whole
    go (faults.Bad why) s = let wire : why ≡ reasons.Wire = subst OnlyWire s only in rests (s ∙ ap Err wire) ∙ ap Err (sym wire)
    go faults.Memory s = tt

module _ {S A : Type 0} (add : S → Result (List A) Why → Result S Why) (law : (before : S) (these later : Result (List A) Why) → add before (these >>= λ xs. later >>= λ rest. Ok (xs ++ rest)) ≡ add before these >>= λ now. add now later)
    (read : Value → Result (List A) Why) (n : ℕ) (bytes : List ℕ) (at : ℕ) (here : at ≤ length bytes) where
  module _ (f : Field) (is : Ok (Some (entry_of f, f.next)) ≡ field_at bytes at) (before : S) where
    opened : noted add read n bytes before at ≡ or_wire (message_at bytes f.next) >>= λ rest. add before (all_of read n (entry_of f ∷ rest))
    opened =
        ap (λ r. or_wire r >>= λ left. add before (all_of read n left)) (message_at-step bytes at here ∙ ap (λ r. r >>! with_rest (message_at bytes)) (sym is))
        ∙ cons-wire (message_at bytes f.next) (entry_of f) (λ left. add before (all_of read n left))

    pub slot_read : (now : S) (total : Result S Why) → add before (if_numbered read n (entry_of f)) ≡ Ok now → noted add read n bytes before at ≡ total → noted add read n bytes now f.next ≡ total
    slot_read now total step told = sym (opened ∙ each (message_at bytes f.next)) ∙ told
      where
        each : (r : Result (List Entry) Wire) → or_wire r >>= (λ rest. add before (all_of read n (entry_of f ∷ rest))) ≡ or_wire r >>= λ rest. add now (all_of read n rest)
        each (Ok rest) = law before (if_numbered read n (entry_of f)) (all_of read n rest) ∙ ap (λ s. s >>= λ now. add now (all_of read n rest)) step
        each (Err e) = refl

    pub slot_stopped : (total : Result S Why) → add before (if_numbered read n (entry_of f)) ≡ Err reasons.Wire → noted add read n bytes before at ≡ total → total ≡ Err reasons.Wire
    slot_stopped total step told = sym told ∙ (opened ∙ each (message_at bytes f.next))
      where
        each : (r : Result (List Entry) Wire) → or_wire r >>= (λ rest. add before (all_of read n (entry_of f ∷ rest))) ≡ Err reasons.Wire
        each (Ok rest) = law before (if_numbered read n (entry_of f)) (all_of read n rest) ∙ ap (λ s. s >>= λ now. add now (all_of read n rest)) step
        each (Err e) = refl

  pub slot_none : (before : S) (total : Result S Why) (w : Wire) → Err w ≡ field_at bytes at → noted add read n bytes before at ≡ total → total ≡ Err reasons.Wire
  slot_none before total w is told =
      sym told ∙ ap (λ r. or_wire r >>= λ left. add before (all_of read n left)) (message_at-step bytes at here ∙ ap (λ r. r >>! with_rest (message_at bytes)) (sym is))

  pub slot_end : (before : S) (total : Result S Why) → add before (Ok []) ≡ Ok before → Ok None ≡ field_at bytes at → noted add read n bytes before at ≡ total → total ≡ Ok before
  slot_end before total none is told =
      sym told ∙ (ap (λ r. or_wire r >>= λ left. add before (all_of read n left)) (message_at-step bytes at here ∙ ap (λ r. r >>! with_rest (message_at bytes)) (sym is)) ∙ none)

pub one_number-only : (v : Value) → OnlyWire (one_number v)
one_number-only (number n) = tt
one_number-only (text bytes) = refl
one_number-only (eight_bytes n) = refl
one_number-only (four_bytes n) = refl

pub some_numbers-only : (v : Value) → OnlyWire (some_numbers v)
some_numbers-only (number n) = tt
some_numbers-only (text bytes) = or_wire-only (packed bytes)
some_numbers-only (eight_bytes n) = refl
some_numbers-only (four_bytes n) = refl

-- the numbers of a field
pub field_numbers-only : (n : ℕ) (f : Entry) → OnlyWire (if_numbered some_numbers n f)
field_numbers-only n f = only-either (f.number == n) (some_numbers f.value) (Ok []) (some_numbers-only f.value) tt

pub some_strings-only : (v : Value) → OnlyWire (some_strings v)
some_strings-only (number n) = refl
some_strings-only (text bytes) = bodies_at-only 1 bytes 0
some_strings-only (eight_bytes n) = refl
some_strings-only (four_bytes n) = refl

pub found-only : {A : Type 0} (prefix : List A) (r : Result (List A) Why) → OnlyWire r → OnlyWire (with_found prefix r)
found-only prefix (Ok xs) h = tt
found-only prefix (Err why) h = h

last-only : {A : Type 0} (before : Option A) (r : Result (List A) Why) → OnlyWire r → OnlyWire (last_read before r)
last-only before (Ok xs) h = tt
last-only before (Err why) h = h

pub found_numbers-only : (prefix : List ℕ) (n : ℕ) (f : Entry) → OnlyWire (with_found prefix (if_numbered some_numbers n f))
found_numbers-only prefix n f = found-only prefix (if_numbered some_numbers n f) (field_numbers-only n f)

-- the last varint of a number
module _ (n : ℕ) (bytes : List ℕ) (at : ℕ) (here : at ≤ length bytes) where
  pub last_step : (f : Field) → Ok (Some (entry_of f, f.next)) ≡ field_at bytes at → (before now : Option ℕ) (total : Result (Option ℕ) Why) → last_read before (if_numbered one_number n (entry_of f)) ≡ Ok now
      → noted last_read one_number n bytes before at ≡ total → noted last_read one_number n bytes now f.next ≡ total
  last_step f is before = slot_read last_read last_read-part one_number n bytes at here f is before

  pub last_stops : {X B : Type 0} (seen : X → B) (r : Result X BlockErr) (e : BlockErr) (whole : Result B Why) (f : Field) → Ok (Some (entry_of f, f.next)) ≡ field_at bytes at → (before : Option ℕ) (total : Result (Option ℕ) Why)
      → IsErrAnd r (λ x. x ≡ e) → IsStop e (last_read before (if_numbered one_number n (entry_of f))) → noted last_read one_number n bytes before at ≡ total → (total ≡ Err reasons.Wire → whole ≡ Err reasons.Wire) → Gives seen r whole
  last_stops seen r e whole f is before total h stop told rests =
      hands seen r e (last_read before (if_numbered one_number n (entry_of f))) whole h stop (last-only before (if_numbered one_number n (entry_of f)) (only-either (f.number == n) (one_number (entry_of f).value) (Ok []) (one_number-only (entry_of f).value) tt))
      (λ step. rests (slot_stopped last_read last_read-part one_number n bytes at here f is before total step told))

  pub last_end : (before : Option ℕ) (total : Result (Option ℕ) Why) → Ok None ≡ field_at bytes at → noted last_read one_number n bytes before at ≡ total → total ≡ Ok before
  last_end before total is told = slot_end last_read last_read-part one_number n bytes at here before total refl is told

  pub last_none : (before : Option ℕ) (total : Result (Option ℕ) Why) (w : Wire) → Err w ≡ field_at bytes at → noted last_read one_number n bytes before at ≡ total → total ≡ Err reasons.Wire
  last_none before total w is told = slot_none last_read last_read-part one_number n bytes at here before total w is told

-- all that the fields of a number have
pub list_start : {A : Type 0} (read : Value → Result (List A) Why) (n : ℕ) (bytes : List ℕ) → noted with_found read n bytes [] 0 ≡ fields_of bytes >>= all_of read n
list_start read n bytes = go (fields_of bytes)
  where
    go : (r : Result (List Entry) Why) → r >>= (λ left. with_found [] (all_of read n left)) ≡ r >>= all_of read n
    go (Ok fields) = with_found_nil (all_of read n fields)
    go (Err why) = refl

module _ {A : Type 0} (read : Value → Result (List A) Why) (only : (v : Value) → OnlyWire (read v)) (n : ℕ) (bytes : List ℕ) (at : ℕ) (here : at ≤ length bytes) where
  pub list_step : (f : Field) → Ok (Some (entry_of f, f.next)) ≡ field_at bytes at → (before now : List A) (total : Result (List A) Why) → with_found before (if_numbered read n (entry_of f)) ≡ Ok now
      → noted with_found read n bytes before at ≡ total → noted with_found read n bytes now f.next ≡ total
  list_step f is before = slot_read with_found with_found-part read n bytes at here f is before

  pub list_stops : {X B : Type 0} (seen : X → B) (r : Result X BlockErr) (e : BlockErr) (whole : Result B Why) (f : Field) → Ok (Some (entry_of f, f.next)) ≡ field_at bytes at → (before : List A) (total : Result (List A) Why)
      → IsErrAnd r (λ x. x ≡ e) → IsStop e (with_found before (if_numbered read n (entry_of f))) → noted with_found read n bytes before at ≡ total → (total ≡ Err reasons.Wire → whole ≡ Err reasons.Wire) → Gives seen r whole
  list_stops seen r e whole f is before total h stop told rests =
      hands seen r e (with_found before (if_numbered read n (entry_of f))) whole h stop (found-only before (if_numbered read n (entry_of f)) (only-either (f.number == n) (read (entry_of f).value) (Ok []) (only (entry_of f).value) tt))
      (λ step. rests (slot_stopped with_found with_found-part read n bytes at here f is before total step told))

  pub list_refused : (f : Field) → Ok (Some (entry_of f, f.next)) ≡ field_at bytes at → (before : List A) (total : Result (List A) Why) → if_numbered read n (entry_of f) ≡ Err reasons.Wire
      → noted with_found read n bytes before at ≡ total → total ≡ Err reasons.Wire
  list_refused f is before total step told = slot_stopped with_found with_found-part read n bytes at here f is before total (ap (with_found before) step) told

  pub list_end : (before : List A) (total : Result (List A) Why) → Ok None ≡ field_at bytes at → noted with_found read n bytes before at ≡ total → total ≡ Ok before
  list_end before total is told = slot_end with_found with_found-part read n bytes at here before total (ap Ok (append-nil before)) is told

  pub list_none : (before : List A) (total : Result (List A) Why) (w : Wire) → Err w ≡ field_at bytes at → noted with_found read n bytes before at ≡ total → total ≡ Err reasons.Wire
  list_none before total w is told = slot_none with_found with_found-part read n bytes at here before total w is told

pub last_number-only : (n : ℕ) (fields : List Entry) → OnlyWire (last_number n fields)
last_number-only n fields = last-only None (all_of one_number n fields) (all_of-only one_number one_number-only n fields)

pub numbers-only : (n : ℕ) (fields : List Entry) → OnlyWire (numbers n fields)
numbers-only n fields = all_of-only some_numbers some_numbers-only n fields

pub strings-only : (n : ℕ) (fields : List Entry) → OnlyWire (all_of some_strings n fields)
strings-only n fields = all_of-only some_strings some_strings-only n fields

-- what is refused for no message alone, and then what is read behind it
after_wire : {A B : Type 0} (r : Result A Why) (f : A → Result B Why) → OnlyWire r → ((x : A) → f x ≡ Err reasons.Wire) → r >>= f ≡ Err reasons.Wire
after_wire (Ok x) f only h = h x
after_wire (Err why) f only h = ap Err only

-- four numbers of a message
module _ {A B C D : Type 0} (found : Result (List Entry) Why) (a : List Entry → Result A Why) (b : List Entry → Result B Why) (c : List Entry → Result C Why) (d : List Entry → Result D Why)
    (wa : (fields : List Entry) → OnlyWire (a fields)) (wb : (fields : List Entry) → OnlyWire (b fields)) (wc : (fields : List Entry) → OnlyWire (c fields)) where
  abbrev four_in : List Entry → Result (A × B × C × D) Why
  four_in fields = a fields >>= λ x. b fields >>= λ y. c fields >>= λ z. d fields >>= λ v. Ok (x, y, z, v)

  pub four_read : (x : A) (y : B) (z : C) (v : D) → found >>= a ≡ Ok x → found >>= b ≡ Ok y → found >>= c ≡ Ok z → found >>= d ≡ Ok v → found >>= four_in ≡ Ok (x, y, z, v)
  four_read x y z v = go found
    where
      go : (r : Result (List Entry) Why) → r >>= a ≡ Ok x → r >>= b ≡ Ok y → r >>= c ≡ Ok z → r >>= d ≡ Ok v → r >>= four_in ≡ Ok (x, y, z, v)
      go (Ok fields) p q s t = rw (p, q, s, t) refl
      go (Err why) p q s t = cc

  pub four_first : found >>= a ≡ Err reasons.Wire → found >>= four_in ≡ Err reasons.Wire
  four_first = go found
    where
      go : (r : Result (List Entry) Why) → r >>= a ≡ Err reasons.Wire → r >>= four_in ≡ Err reasons.Wire
      go (Ok fields) h = rw h refl
      go (Err why) h = cc

  pub four_second : found >>= b ≡ Err reasons.Wire → found >>= four_in ≡ Err reasons.Wire
  four_second = go found
    where
      go : (r : Result (List Entry) Why) → r >>= b ≡ Err reasons.Wire → r >>= four_in ≡ Err reasons.Wire
      go (Ok fields) h = after_wire (a fields) _ (wa fields) (λ x. rw h refl)
      go (Err why) h = cc

  pub four_third : found >>= c ≡ Err reasons.Wire → found >>= four_in ≡ Err reasons.Wire
  four_third = go found
    where
      go : (r : Result (List Entry) Why) → r >>= c ≡ Err reasons.Wire → r >>= four_in ≡ Err reasons.Wire
      go (Ok fields) h = after_wire (a fields) _ (wa fields) (λ x. after_wire (b fields) _ (wb fields) (λ y. rw h refl))
      go (Err why) h = cc

  pub four_last : found >>= d ≡ Err reasons.Wire → found >>= four_in ≡ Err reasons.Wire
  four_last = go found
    where
      go : (r : Result (List Entry) Why) → r >>= d ≡ Err reasons.Wire → r >>= four_in ≡ Err reasons.Wire
      go (Ok fields) h = after_wire (a fields) _ (wa fields) (λ x. after_wire (b fields) _ (wb fields) (λ y. after_wire (c fields) _ (wc fields) (λ z. rw h refl)))
      go (Err why) h = cc

-- five numbers of a message
module _ {A B C D E : Type 0} (found : Result (List Entry) Why) (a : List Entry → Result A Why) (b : List Entry → Result B Why) (c : List Entry → Result C Why) (d : List Entry → Result D Why) (e : List Entry → Result E Why)
    (wa : (fields : List Entry) → OnlyWire (a fields)) (wb : (fields : List Entry) → OnlyWire (b fields)) (wc : (fields : List Entry) → OnlyWire (c fields)) (wd : (fields : List Entry) → OnlyWire (d fields)) where
  abbrev five_in : List Entry → Result (A × B × C × D × E) Why
  five_in fields = a fields >>= λ x. b fields >>= λ y. c fields >>= λ z. d fields >>= λ v. e fields >>= λ w. Ok (x, y, z, v, w)

  pub five_read : (x : A) (y : B) (z : C) (v : D) (w : E) → found >>= a ≡ Ok x → found >>= b ≡ Ok y → found >>= c ≡ Ok z → found >>= d ≡ Ok v → found >>= e ≡ Ok w
      → found >>= five_in ≡ Ok (x, y, z, v, w)
  five_read x y z v w = go found
    where
      go : (r : Result (List Entry) Why) → r >>= a ≡ Ok x → r >>= b ≡ Ok y → r >>= c ≡ Ok z → r >>= d ≡ Ok v → r >>= e ≡ Ok w → r >>= five_in ≡ Ok (x, y, z, v, w)
      go (Ok fields) p q s t u = rw (p, q, s, t, u) refl
      go (Err why) p q s t u = cc

  pub five_first : found >>= a ≡ Err reasons.Wire → found >>= five_in ≡ Err reasons.Wire
  five_first = go found
    where
      go : (r : Result (List Entry) Why) → r >>= a ≡ Err reasons.Wire → r >>= five_in ≡ Err reasons.Wire
      go (Ok fields) h = rw h refl
      go (Err why) h = cc

  pub five_second : found >>= b ≡ Err reasons.Wire → found >>= five_in ≡ Err reasons.Wire
  five_second = go found
    where
      go : (r : Result (List Entry) Why) → r >>= b ≡ Err reasons.Wire → r >>= five_in ≡ Err reasons.Wire
      go (Ok fields) h = after_wire (a fields) _ (wa fields) (λ x. rw h refl)
      go (Err why) h = cc

  pub five_third : found >>= c ≡ Err reasons.Wire → found >>= five_in ≡ Err reasons.Wire
  five_third = go found
    where
      go : (r : Result (List Entry) Why) → r >>= c ≡ Err reasons.Wire → r >>= five_in ≡ Err reasons.Wire
      go (Ok fields) h = after_wire (a fields) _ (wa fields) (λ x. after_wire (b fields) _ (wb fields) (λ y. rw h refl))
      go (Err why) h = cc

  pub five_fourth : found >>= d ≡ Err reasons.Wire → found >>= five_in ≡ Err reasons.Wire
  five_fourth = go found
    where
      go : (r : Result (List Entry) Why) → r >>= d ≡ Err reasons.Wire → r >>= five_in ≡ Err reasons.Wire
      go (Ok fields) h = after_wire (a fields) _ (wa fields) (λ x. after_wire (b fields) _ (wb fields) (λ y. after_wire (c fields) _ (wc fields) (λ z. rw h refl)))
      go (Err why) h = cc

  pub five_last : found >>= e ≡ Err reasons.Wire → found >>= five_in ≡ Err reasons.Wire
  five_last = go found
    where
      go : (r : Result (List Entry) Why) → r >>= e ≡ Err reasons.Wire → r >>= five_in ≡ Err reasons.Wire
      go (Ok fields) h = after_wire (a fields) _ (wa fields) (λ x. after_wire (b fields) _ (wb fields) (λ y. after_wire (c fields) _ (wc fields) (λ z. after_wire (d fields) _ (wd fields) (λ v. rw h refl))))
      go (Err why) h = cc
