-- A message read from a place on: its next field of a number, and what is left behind it.
use Rattle.std.proofs.Common.{◌≡◌, ◌≢◌, ℕ, ◌+◌, ◌<◌, ◌≤◌, ◌==◌, Bool, true, false, if◌then◌else◌, Option, None, Some, Result, Ok, Err, List, [], ◌∷◌, ◌++◌, length, map, drop, get_or, refl, ap, sym, subst, ◌∙◌, append_assoc}
use Rattle.std.proofs.lemmas.Bool.{eq-eqb, ne_eqb}
use Rattle.std.proofs.lemmas.List.{append-nil, map-append, drop_more}
use Rattle.std.specs.Prelude.{nat_eq}
use Rattle.std.specs.Borrow.{Bor}
use Rattle.std.specs.Result.{IsErrAnd}
use Rattle.tb_types.specs.declared.damage.Why.{Why}
use Rattle.tb_types.specs.declared.damage.Why.TheVariants as reasons
use Rattle.tb_types.specs.declared.element.Kind.{Kind}
use Rattle.tb_types.specs.declared.element.Kind.TheVariants as kinds
use Rattle.tb_wire.specs.declared.varint.Wire.{Wire}
use Rattle.tb_wire.specs.declared.field.Field.{Field}
use Rattle.tb_wire.specs.Field.{Value, Entry, number, eight_bytes, text, four_bytes, entry_of, field_at}
use Rattle.tb_wire.specs.Items.{◌>>=◌ as ◌>>!◌, with_rest}
use Rattle.tb_wire.specs.Message.{message, message_at}
use Rattle.tb_wire.proofs.Messages.{message_at-step}
use Rattle.osm_elements.specs.declared.fault.BlockErr.{BlockErr}
use Rattle.osm_elements.specs.declared.fault.BlockErr.TheVariants as faults
use Rattle.osm_elements.specs.declared.taker.WalkErr.{WalkErr}
use Rattle.osm_elements.specs.declared.granularity.Granularity.{Granularity}
use Rattle.tb_types.specs.Results.{◌>>=◌}
use Rattle.osm_elements.specs.Reasons.{IsStop}
use Rattle.osm_elements.specs.Fields.{or_wire, fields_of, one_body, some_fields, if_numbered, all_of, bodies, merged_fields, with_found}
use Rattle.osm_elements.specs.Tags.{strings_of}
use Rattle.osm_elements.specs.Elements.{Element, element_of, group_field}
use Rattle.osm_elements.specs.WalkErrs.{walk_err}
use Rattle.osm_elements.specs.Heads.{some_strings}
use Rattle.osm_elements.specs.Dense.{dense_of}
use Rattle.osm_elements.specs.Block.{Found, joined, every, one, each_in, elements_in, group_of}
use Rattle.osm_elements.specs.SoFar.{Ends, Grows}
use Rattle.osm_elements.specs.declared.word.Word.{Word}
use Rattle.osm_elements.specs.Words.{seen_word, seen_words}
use Rattle.osm_elements.specs.Walks.{IsNext, bodies_at, with_body, each_from, fields_in, merged_fields_in, dense_in}
use Rattle.osm_elements.proofs.Prefixes.{with_found-part, with_found-item}
use Rattle.osm_elements.proofs.Joins.{Going, going_step, going_err, going_end, going_more, going_last_err, block_ends, joined-wire, wire-joined}

-- whatever is refused is no message
abbrev pub OnlyWire : {A : Type 0} → Result A Why → Type 0
OnlyWire (Ok x) = Unit {0}
OnlyWire (Err why) = why ≡ reasons.Wire

pub only-next : {A B : Type 0} (r : Result A Why) (f : A → Result B Why) → OnlyWire r → ((x : A) → OnlyWire (f x)) → OnlyWire (r >>= f)
only-next (Ok x) f h k = k x
only-next (Err why) f h k = h

pub only-either : {A : Type 0} (b : Bool) (r s : Result A Why) → OnlyWire r → OnlyWire s → OnlyWire (if b then r else s)
only-either true r s h k = h
only-either false r s h k = k

pub or_wire-only : {A : Type 0} (r : Result A Wire) → OnlyWire (or_wire r)
or_wire-only (Ok x) = tt
or_wire-only (Err e) = refl

pub one_body-only : (v : Value) → OnlyWire (one_body v)
one_body-only (text bytes) = tt
one_body-only (number n) = refl
one_body-only (eight_bytes n) = refl
one_body-only (four_bytes n) = refl

pub some_fields-only : (v : Value) → OnlyWire (some_fields v)
some_fields-only (text bytes) = or_wire-only (message bytes)
some_fields-only (number n) = refl
some_fields-only (eight_bytes n) = refl
some_fields-only (four_bytes n) = refl

pub all_of-only : {A : Type 0} (read : Value → Result (List A) Why) → ((v : Value) → OnlyWire (read v)) → (n : ℕ) (fields : List Entry) → OnlyWire (all_of read n fields)
all_of-only read h n [] = tt
all_of-only read h n (f ∷ fields) =
    only-next (if_numbered read n f) _ (only-either (f.number == n) _ _ (h f.value) tt) (λ these. only-next (all_of read n fields) _ (all_of-only read h n fields) (λ later. tt))

pub bodies_at-only : (n : ℕ) (bytes : List ℕ) (at : ℕ) → OnlyWire (bodies_at n bytes at)
unfolding bodies_at
bodies_at-only n bytes at = only-next (or_wire (message_at bytes at)) (bodies n) (or_wire-only (message_at bytes at)) (λ fields. all_of-only one_body one_body-only n fields)

pub fields_in-only : (bs : List (List ℕ)) → OnlyWire (fields_in bs)
fields_in-only [] = tt
fields_in-only (b ∷ bs) = only-next (fields_of b) _ (or_wire-only (message b)) (λ these. only-next (fields_in bs) _ (fields_in-only bs) (λ later. tt))

pub merged_fields_in-only : (n : ℕ) (bytes : List ℕ) → OnlyWire (merged_fields_in n bytes)
merged_fields_in-only n bytes = only-next (bodies_at n bytes 0) fields_in (bodies_at-only n bytes 0) fields_in-only

pub cons-wire : {A B : Type 0} (r : Result (List A) Wire) (x : A) (g : List A → Result B Why) → or_wire (r >>! λ rest. Ok (x ∷ rest)) >>= g ≡ or_wire r >>= λ rest. g (x ∷ rest)
cons-wire (Ok rest) x g = refl
cons-wire (Err e) x g = refl

-- a field of the message
after_field : (n : ℕ) (bytes : List ℕ) (at : ℕ) (f : Field) → at ≤ length bytes → Ok (Some (entry_of f, f.next)) ≡ field_at bytes at
    → bodies_at n bytes at ≡ or_wire (message_at bytes f.next) >>= λ rest. bodies n (entry_of f ∷ rest)
unfolding bodies_at
after_field n bytes at f h read =
    ap (λ r. or_wire r >>= bodies n) (message_at-step bytes at h ∙ ap (λ r. r >>! with_rest (message_at bytes)) (sym read))
    ∙ cons-wire (message_at bytes f.next) (entry_of f) (bodies n)

skipped : (n : ℕ) (f : Entry) (r : Result (List Entry) Wire) (b : Bool) → (f.number == n) ≡ b → b ≡ false → or_wire r >>= (λ rest. bodies n (f ∷ rest)) ≡ or_wire r >>= bodies n
skipped n f (Err e) b e1 e2 = refl
skipped n f (Ok rest) b e1 e2 = rw (e1, e2) (go (bodies n rest))
  where
    go : (s : Result (List (List ℕ)) Why) → s >>= (λ later. Ok ([] ++ later)) ≡ s
    go (Ok later) = refl
    go (Err why) = refl

pub body_skipped : (n : ℕ) (bytes : List ℕ) (at : ℕ) (f : Field) (total : Result (List (List ℕ)) Why) → at ≤ length bytes → Ok (Some (entry_of f, f.next)) ≡ field_at bytes at → f.number ≢ n
    → bodies_at n bytes at ≡ total → bodies_at n bytes f.next ≡ total
unfolding bodies_at
body_skipped n bytes at f total h read other told =
    sym (skipped n (entry_of f) (message_at bytes f.next) (f.number == n) refl (ne_eqb f.number n other)) ∙ (sym (after_field n bytes at f h read) ∙ told)

taken : (n : ℕ) (v : Value) (body : List ℕ) (r : Result (List Entry) Wire) → one_body v ≡ Ok (body ∷ []) → (nat_eq n n) ≡ true → or_wire r >>= (λ rest. bodies n (record { number = n; value = v } ∷ rest)) ≡ with_body body (or_wire r >>= bodies n)
taken n v body (Err e) same e1 = refl
taken n v body (Ok rest) same e1 = rw (e1, same) refl

pub body_found : (n : ℕ) (bytes : List ℕ) (at : ℕ) (f : Field) (body : List ℕ) (total : Result (List (List ℕ)) Why) → at ≤ length bytes → Ok (Some (entry_of f, f.next)) ≡ field_at bytes at → f.number ≡ n
    → one_body (entry_of f).value ≡ Ok (body ∷ []) → bodies_at n bytes at ≡ total → total ≡ with_body body (bodies_at n bytes f.next)
unfolding bodies_at
body_found n bytes at f body total h read same is told =
    sym told ∙ (after_field n bytes at f h read
    ∙ (ap (λ m. or_wire (message_at bytes f.next) >>= λ rest. bodies n (record { number = m; value = (entry_of f).value } ∷ rest)) same
    ∙ taken n (entry_of f).value body (message_at bytes f.next) is (eq-eqb n n refl)))

refused_value : (n : ℕ) (v : Value) (r : Result (List Entry) Wire) (why : Why) → one_body v ≡ Err why → why ≡ reasons.Wire → (nat_eq n n) ≡ true
    → or_wire r >>= (λ rest. bodies n (record { number = n; value = v } ∷ rest)) ≡ Err why
refused_value n v (Err e) why same wire e1 = ap Err (sym wire)
refused_value n v (Ok rest) why same wire e1 = rw (e1, same) refl

pub no_body : (n : ℕ) (bytes : List ℕ) (at : ℕ) (f : Field) (total : Result (List (List ℕ)) Why) (why : Why) → at ≤ length bytes → Ok (Some (entry_of f, f.next)) ≡ field_at bytes at → f.number ≡ n
    → one_body (entry_of f).value ≡ Err why → bodies_at n bytes at ≡ total → total ≡ Err why
no_body n bytes at f total why h read same is told =
    sym told ∙ (after_field n bytes at f h read
    ∙ (ap (λ m. or_wire (message_at bytes f.next) >>= λ rest. bodies n (record { number = m; value = (entry_of f).value } ∷ rest)) same
    ∙ refused_value n (entry_of f).value (message_at bytes f.next) why is (subst OnlyWire is (one_body-only (entry_of f).value)) (eq-eqb n n refl)))

pub no_field_there : (n : ℕ) (bytes : List ℕ) (at : ℕ) (e : Wire) (total : Result (List (List ℕ)) Why) → at ≤ length bytes → Err e ≡ field_at bytes at → bodies_at n bytes at ≡ total → total ≡ Err reasons.Wire
unfolding bodies_at
no_field_there n bytes at e total h read told =
    sym told ∙ ap (λ r. or_wire r >>= bodies n) (message_at-step bytes at h ∙ ap (λ r. r >>! with_rest (message_at bytes)) (sym read))

pub no_field_left : (n : ℕ) (bytes : List ℕ) (at : ℕ) (total : Result (List (List ℕ)) Why) → at ≤ length bytes → Ok None ≡ field_at bytes at → bodies_at n bytes at ≡ total → total ≡ Ok []
unfolding bodies_at
no_field_left n bytes at total h read told =
    sym told ∙ ap (λ r. or_wire r >>= bodies n) (message_at-step bytes at h ∙ ap (λ r. r >>! with_rest (message_at bytes)) (sym read))

-- what the next message says, and what those behind it say
each-joined : (read : List ℕ → Found) (b : List ℕ) (later : Result (List (List ℕ)) Why) → OnlyWire later → with_body b later >>= every read ≡ joined (read b) (later >>= every read)
each-joined read b (Ok bs) w = refl
each-joined read b (Err why) w = ap Err w ∙ (sym (joined-wire (read b)) ∙ ap (λ x. joined (read b) (Err x)) (sym w))

module _ {T Stop : Type 0} (steps : T → List Element → T → Type 0) (stops : T → List Element → T → Stop → Type 0)
    (read : List ℕ → Found) (n : ℕ) (bytes : List ℕ) (old now : T × Option Why) (at : ℕ) (all : Found) (going : Going steps stops old now (each_from read n bytes at) all) where
  next_first : (b : List ℕ) (next : ℕ) → bodies_at n bytes at ≡ with_body b (bodies_at n bytes next) → Going steps stops old now (joined (read b) (each_from read n bytes next)) all
  next_first b next is =
      subst (λ x. Going steps stops old now x all) (ap (λ r. r >>= every read) is ∙ each-joined read b (bodies_at n bytes next) (bodies_at-only n bytes next)) going

  pub each_read : (new : T × Option Why) (b : List ℕ) (next : ℕ) → bodies_at n bytes at ≡ with_body b (bodies_at n bytes next) → Grows steps stops now new (read b) → Going steps stops old new (each_from read n bytes next) all
  each_read new b next is grows = going_step steps stops old now new (read b) (each_from read n bytes next) all (next_first b next is) grows

  pub each_stops : (taker : T) (e : WalkErr Stop) (b : List ℕ) (next : ℕ) → bodies_at n bytes at ≡ with_body b (bodies_at n bytes next) → Ends steps stops now taker e (read b) → Ends steps stops old taker e all
  each_stops taker e b next is ends = going_err steps stops old now taker e (read b) (each_from read n bytes next) all (next_first b next is) ends

  pub each_end : bodies_at n bytes at ≡ Ok [] → Grows steps stops old now all
  each_end none = going_end steps stops old now all (subst (λ x. Going steps stops old now x all) (ap (λ r. r >>= every read) none) going)

  refused_left : (e : BlockErr) → IsStop e (bodies_at n bytes at) → (why : Why) → e ≡ faults.Bad why → (why ≡ reasons.Wire) × (each_from read n bytes at ≡ Err reasons.Wire)
  refused_left (faults.Bad other) stop why same =
      let wire : other ≡ reasons.Wire = subst OnlyWire stop (bodies_at-only n bytes at) in
      let is : other ≡ why = cc in
      (sym is ∙ wire, ap (λ r. r >>= every read) stop ∙ ap Err wire)
  refused_left faults.Memory stop why same = cc

  pub each_refused : (e : BlockErr) → IsStop e (bodies_at n bytes at) → Ends steps stops old now.0 (walk_err e) all
  each_refused e stop = going_last_err steps stops old now now.0 (walk_err e) (each_from read n bytes at) all going (block_ends steps stops now e (each_from read n bytes at) (refused_left e stop))

-- the fields of all messages of a number are those of its bodies
keep : {A B : Type 0} (r : Result A Why) (f : A → Result (List B) Why) (m : Result (List B) Why) → m ≡ r >>= f → m >>= (λ later. Ok ([] ++ later)) ≡ r >>= f
keep r f (Ok later) h = h
keep r f (Err why) h = h

nothing-before : (r : Result (List (List ℕ)) Why) → r >>= (λ later. Ok ([] ++ later)) >>= fields_in ≡ r >>= fields_in
nothing-before (Ok later) = refl
nothing-before (Err why) = refl

fields-before : (these : Result (List Entry) Why) (r : Result (List (List ℕ)) Why) (m : Result (List Entry) Why) (b : List ℕ) → OnlyWire these → OnlyWire r → m ≡ r >>= fields_in → these ≡ fields_of b
    → these >>= (λ xs. m >>= λ later. Ok (xs ++ later)) ≡ r >>= (λ later. Ok (b ∷ later)) >>= fields_in
fields-before these (Ok bs) m b w v h same = ap (λ s. these >>= λ xs. s >>= λ later. Ok (xs ++ later)) h ∙ ap (λ s. s >>= λ xs. fields_in bs >>= λ later. Ok (xs ++ later)) same
fields-before (Ok xs) (Err why) m b w v h same = ap (λ s. s >>= λ later. Ok (xs ++ later)) h
fields-before (Err one) (Err why) m b w v h same = ap Err (w ∙ sym v)

field-before : (n : ℕ) (r : Result (List (List ℕ)) Why) (m : Result (List Entry) Why) → OnlyWire r → m ≡ r >>= fields_in → (b : Bool) (v : Value)
    → (if b then some_fields v else Ok []) >>= (λ xs. m >>= λ later. Ok (xs ++ later)) ≡ ((if b then one_body v else Ok []) >>= λ these. r >>= λ later. Ok (these ++ later)) >>= fields_in
field-before n r m w h true (text b) = fields-before (fields_of b) r m b (or_wire-only (message b)) w h refl
field-before n r m w h true (number k) = refl
field-before n r m w h true (eight_bytes k) = refl
field-before n r m w h true (four_bytes k) = refl
field-before n r m w h false v = keep r fields_in m h ∙ sym (nothing-before r)

merged_fields-bodies : (n : ℕ) (fields : List Entry) → merged_fields n fields ≡ bodies n fields >>= fields_in
merged_fields-bodies n [] = refl
merged_fields-bodies n (f ∷ fields) = field-before n (bodies n fields) (merged_fields n fields) (all_of-only one_body one_body-only n fields) (merged_fields-bodies n fields) (f.number == n) f.value

-- a group whose parts are read one after another
refused_first : (why : Why) → why ≡ reasons.Wire → (x : Found) → Err why ≡ joined (Err why) x
refused_first why w x = ap Err w ∙ (sym (wire-joined x) ∙ ap (λ y. joined (Err y) x) (sym w))

-- no message, whatever stands behind it
pub wire_unit : (why : Why) → why ≡ reasons.Wire → (x : Found) → Err why ≡ joined (Err why) x
wire_unit why w x = refused_first why w x

refused_later : (why : Why) → why ≡ reasons.Wire → (x y : Found) → Err why ≡ y → Err why ≡ joined x y
refused_later why w x y same = ap Err w ∙ (sym (joined-wire x) ∙ ap (joined x) (ap Err (sym w) ∙ same))

module _ (strings : List (List ℕ)) (granularity : Granularity) where
  four : (nodes : Result (List (List ℕ)) Why) (dense : Result (List Entry) Why) (ways relations : Result (List (List ℕ)) Why) → OnlyWire nodes → OnlyWire dense → OnlyWire ways → OnlyWire relations
      → (nodes >>= λ nodes. dense >>= λ dense. ways >>= λ ways. relations >>= λ relations. Ok (record { nodes = nodes; dense = dense; ways = ways; relations = relations })) >>= elements_in strings granularity
      ≡ joined (nodes >>= each_in strings granularity kinds.Node) (joined (dense >>= dense_of strings granularity) (joined (ways >>= each_in strings granularity kinds.Way) (relations >>= each_in strings granularity kinds.Relation)))
  four (Err why) dense ways relations a b d e = refused_first why a _
  four (Ok nodes) (Err why) ways relations a b d e = refused_later why b _ _ (refused_first why b _)
  four (Ok nodes) (Ok dense) (Err why) relations a b d e = refused_later why d _ _ (refused_later why d _ _ (refused_first why d _))
  four (Ok nodes) (Ok dense) (Ok ways) (Err why) a b d e = refused_later why e _ _ (refused_later why e _ _ (refused_later why e _ _ refl))
  four (Ok nodes) (Ok dense) (Ok ways) (Ok relations) a b d e = refl

  parts : (r : Result (List Entry) Why) → OnlyWire r
      → (r >>= λ fields. bodies 1 fields >>= λ nodes. merged_fields 2 fields >>= λ dense. bodies 3 fields >>= λ ways. bodies 4 fields >>= λ relations. Ok (record { nodes = nodes; dense = dense; ways = ways; relations = relations })) >>= elements_in strings granularity
      ≡ joined (r >>= bodies 1 >>= each_in strings granularity kinds.Node) (joined (r >>= bodies 2 >>= fields_in >>= dense_of strings granularity) (joined (r >>= bodies 3 >>= each_in strings granularity kinds.Way) (r >>= bodies 4 >>= each_in strings granularity kinds.Relation)))
  parts (Err why) w = refused_first why w (joined (Err why) (joined (Err why) (Err why)))
  parts (Ok fields) w =
      ap (λ m. (bodies 1 fields >>= λ nodes. m >>= λ dense. bodies 3 fields >>= λ ways. bodies 4 fields >>= λ relations. Ok (record { nodes = nodes; dense = dense; ways = ways; relations = relations })) >>= elements_in strings granularity) (merged_fields-bodies 2 fields)
      ∙ four (bodies 1 fields) (bodies 2 fields >>= fields_in) (bodies 3 fields) (bodies 4 fields) (all_of-only one_body one_body-only 1 fields)
      (only-next (bodies 2 fields) fields_in (all_of-only one_body one_body-only 2 fields) fields_in-only) (all_of-only one_body one_body-only 3 fields) (all_of-only one_body one_body-only 4 fields)

-- the elements of a kind of a group
abbrev pub kind_in : List (List ℕ) → Granularity → Kind → List ℕ → Found
kind_in strings granularity kind group = each_from (λ b. one (element_of strings granularity kind b)) (group_field kind) group 0

pub group_of_walked : (strings : List (List ℕ)) (granularity : Granularity) (body : List ℕ) → group_of strings granularity body
    ≡ joined (kind_in strings granularity kinds.Node body) (joined (dense_in strings granularity body) (joined (kind_in strings granularity kinds.Way body) (kind_in strings granularity kinds.Relation body)))
unfolding group_of bodies_at
group_of_walked strings granularity body = parts strings granularity (or_wire (message body)) (or_wire-only (message body))

pub merged_wire : (n : ℕ) (bytes : List ℕ) (why : Why) → merged_fields_in n bytes ≡ Err why → why ≡ reasons.Wire
merged_wire n bytes why stop = subst OnlyWire stop (merged_fields_in-only n bytes)

-- the parts of a group, one after another
module _ {T Stop : Type 0} (steps : T → List Element → T → Type 0) (stops : T → List Element → T → Stop → Type 0)
    (strings : List (List ℕ)) (granularity : Granularity) (group : List ℕ) (start : T × Option Why) where
  abbrev nodes_part : Found
  nodes_part = kind_in strings granularity kinds.Node group

  abbrev dense_part : Found
  dense_part = dense_in strings granularity group

  abbrev ways_part : Found
  ways_part = kind_in strings granularity kinds.Way group

  abbrev relations_part : Found
  relations_part = kind_in strings granularity kinds.Relation group

  abbrev whole : Found
  whole = group_of strings granularity group

  at_nodes : Going steps stops start start (joined nodes_part (joined dense_part (joined ways_part relations_part))) whole
  at_nodes first so_far held = (so_far, held, ap (joined so_far) (sym (group_of_walked strings granularity group)))

  pub nodes_stop : (taker : T) (e : WalkErr Stop) → Ends steps stops start taker e nodes_part → Ends steps stops start taker e whole
  nodes_stop taker e ends = going_err steps stops start start taker e nodes_part (joined dense_part (joined ways_part relations_part)) whole at_nodes ends

  module _ (noded : T × Option Why) (nodes : Grows steps stops start noded nodes_part) where
    at_dense : Going steps stops start noded (joined dense_part (joined ways_part relations_part)) whole
    at_dense = going_step steps stops start start noded nodes_part (joined dense_part (joined ways_part relations_part)) whole at_nodes nodes

    pub dense_stop : (taker : T) (e : WalkErr Stop) → Ends steps stops noded taker e dense_part → Ends steps stops start taker e whole
    dense_stop taker e ends = going_err steps stops start noded taker e dense_part (joined ways_part relations_part) whole at_dense ends

    module _ (densed : T × Option Why) (dense : Grows steps stops noded densed dense_part) where
      at_ways : Going steps stops start densed (joined ways_part relations_part) whole
      at_ways = going_step steps stops start noded densed dense_part (joined ways_part relations_part) whole at_dense dense

      pub ways_stop : (taker : T) (e : WalkErr Stop) → Ends steps stops densed taker e ways_part → Ends steps stops start taker e whole
      ways_stop taker e ends = going_err steps stops start densed taker e ways_part relations_part whole at_ways ends

      module _ (wayed : T × Option Why) (ways : Grows steps stops densed wayed ways_part) where
        at_relations : Going steps stops start wayed relations_part whole
        at_relations = going_step steps stops start densed wayed ways_part relations_part whole at_ways ways

        pub relations_stop : (taker : T) (e : WalkErr Stop) → Ends steps stops wayed taker e relations_part → Ends steps stops start taker e whole
        relations_stop taker e ends = going_last_err steps stops start wayed taker e relations_part whole at_relations ends

        pub group_added : (new : T × Option Why) → Grows steps stops wayed new relations_part → Grows steps stops start new whole
        group_added new grows = going_more steps stops start wayed new relations_part whole at_relations grows

-- what `?` hands on is the error of the call
pub next_err : (n : ℕ) (bytes : List ℕ) (at : ℕ) (r : Result (Option (Bor (List ℕ) × ℕ)) BlockErr) (e : BlockErr) → IsErrAnd r (λ x. x ≡ e) → IsStop e (bodies_at n bytes at) → IsNext n bytes at r
next_err n bytes at (Ok x) e h stop = absurd h
next_err n bytes at (Err x) e h stop = subst (λ (y : BlockErr). IsStop y (bodies_at n bytes at)) (sym h) stop

-- the strings of all tables
pub all_of-append : {A : Type 0} (read : Value → Result (List A) Why) (n : ℕ) (xs ys : List Entry) → all_of read n (xs ++ ys) ≡ all_of read n xs >>= λ these. all_of read n ys >>= λ later. Ok (these ++ later)
all_of-append read n [] ys = none (all_of read n ys)
  where
    none : {B : Type 0} (r : Result (List B) Why) → r ≡ r >>= λ later. Ok ([] ++ later)
    none (Ok later) = refl
    none (Err why) = refl
all_of-append read n (x ∷ xs) ys = ap (λ r. if_numbered read n x >>= λ these. r >>= λ later. Ok (these ++ later)) (all_of-append read n xs ys) ∙ turn (if_numbered read n x) (all_of read n xs) (all_of read n ys)
  where
    turn : {B : Type 0} (a r s : Result (List B) Why) → a >>= (λ these. r >>= (λ more. s >>= λ later. Ok (more ++ later)) >>= λ later. Ok (these ++ later)) ≡ a >>= (λ these. r >>= λ later. Ok (these ++ later)) >>= λ these. s >>= λ later. Ok (these ++ later)
    turn (Err why) r s = refl
    turn (Ok these) (Err why) s = refl
    turn (Ok these) (Ok more) (Err why) = refl
    turn (Ok these) (Ok more) (Ok later) = ap Ok (sym (append_assoc these more later))

-- what the fields of a number have, in all messages
pub one-table : {A : Type 0} (read : Value → Result (List A) Why) → ((v : Value) → OnlyWire (read v)) → (m : ℕ) (r : Result (List Entry) Why) (s : Result (List Entry) Why) (t : Result (List A) Why) → OnlyWire s → s >>= all_of read m ≡ t
    → r >>= (λ these. s >>= λ later. Ok (these ++ later)) >>= all_of read m ≡ r >>= all_of read m >>= λ these. t >>= λ later. Ok (these ++ later)
one-table read only m (Err why) s t w h = refl
one-table {A = A} read only m (Ok xs) (Err why) t w h = go (all_of read m xs) (all_of-only read only m xs)
  where
    go : (u : Result (List A) Why) → OnlyWire u → Err why ≡ u >>= λ these. t >>= λ later. Ok (these ++ later)
    go (Ok these) k = ap (λ r. r >>= λ later. Ok (these ++ later)) h
    go (Err other) k = ap Err (w ∙ sym k)
one-table read only m (Ok xs) (Ok ys) t w h = all_of-append read m xs ys ∙ ap (λ r. all_of read m xs >>= λ these. r >>= λ later. Ok (these ++ later)) h

one_value : (b : Bool) (v : Value) → (if b then some_fields v else Ok []) >>= bodies 1 ≡ (if b then some_strings v else Ok [])
unfolding bodies_at
one_value true (text bytes) = refl
one_value true (number n) = refl
one_value true (eight_bytes n) = refl
one_value true (four_bytes n) = refl
one_value false v = refl

pub strings_of_walked : (fields : List Entry) → strings_of fields ≡ all_of some_strings 1 fields
strings_of_walked [] = refl
strings_of_walked (f ∷ fields) =
    one-table one_body one_body-only 1 (if_numbered some_fields 1 f) (merged_fields 1 fields) (all_of some_strings 1 fields) (all_of-only some_fields some_fields-only 1 fields) (strings_of_walked fields)
    ∙ ap (λ r. r >>= λ these. all_of some_strings 1 fields >>= λ later. Ok (these ++ later)) (one_value (f.number == 1) f.value)

-- the next of the bytes of a number joins those before it
pub body_joined : (n : ℕ) (bytes : List ℕ) (at next : ℕ) (out : List Word) (w : Word) (b : List ℕ) (total : Result (List (List ℕ)) Why) → bodies_at n bytes at ≡ with_body b (bodies_at n bytes next) → seen_word w ≡ b
    → with_found (seen_words out) (bodies_at n bytes at) ≡ total → with_found (seen_words (out ++ w ∷ [])) (bodies_at n bytes next) ≡ total
body_joined n bytes at next out w b total is same told =
    rw (map-append, same) (sym (with_found-item (seen_words out) b (bodies_at n bytes next)) ∙ (sym (ap (with_found (seen_words out)) is) ∙ told))

pub bodies_stop : (prefix : List (List ℕ)) (r total : Result (List (List ℕ)) Why) (why : Why) → with_found prefix r ≡ total → r ≡ Err why → total ≡ Err why
bodies_stop prefix r total why told stop = sym told ∙ ap (with_found prefix) stop

pub bodies_end : (prefix : List (List ℕ)) (r total : Result (List (List ℕ)) Why) → with_found prefix r ≡ total → r ≡ Ok [] → total ≡ Ok prefix
bodies_end prefix r total told none = sym told ∙ (ap (with_found prefix) none ∙ ap Ok (append-nil prefix))
