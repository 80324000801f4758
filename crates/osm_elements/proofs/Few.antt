-- A block has no more of anything than bytes: each item takes at least one.
use Rattle.std.proofs.Common.{◌≡◌, ℕ, ℤ, pos, int_lt, zero, suc, ◌+◌, ◌-◌, ◌/◌, ◌%◌, ◌^◌, ◌≤◌, ◌||◌, ◌==◌, nat_lt, Bool, true, false, if◌then◌else◌, Option, None, Some, IfOk, IfSome, Result, Ok, Err, List, [], ◌∷◌, ◌++◌, length, take, drop, refl, subst, arith, sum_by, length-drop, length-take, length-append}
use Rattle.std.proofs.lemmas.List.{length-map}
use Rattle.std.proofs.lemmas.List.Sums.{sum_by-cons}
use Rattle.std.specs.List.{All}
use Rattle.std.proofs.lemmas.List.Elements.{All-nil, All-cons}
use Rattle.tb_types.specs.Results.{◌>>=◌}
use Rattle.tb_types.specs.declared.damage.Why.{Why}
use Rattle.tb_types.specs.declared.damage.Why.TheVariants as reasons
use Rattle.tb_wire.specs.declared.varint.Wire.{Wire}
use Rattle.tb_wire.specs.Varint.{varint_at}
use Rattle.tb_wire.specs.Field.{Value, Entry, number, eight_bytes, text, four_bytes, part_at, value_at, field_at}
use Rattle.tb_wire.specs.Items.{◌>>=◌ as ◌>>!◌, with_rest, items_from}
use Rattle.tb_wire.specs.Message.{message, message_at, packed, packed_at, number_at}
use Rattle.tb_types.specs.declared.element.Kind.{Kind}
use Rattle.tb_types.specs.declared.element.Kind.TheVariants as kinds
use Rattle.osm_elements.specs.declared.fault.BlockErr.{BlockErr}
use Rattle.osm_elements.specs.declared.granularity.Granularity.{Granularity}
use Rattle.osm_elements.specs.declared.element.Block.{Block}
use Rattle.osm_elements.specs.Reasons.{Gives, require}
use Rattle.osm_elements.specs.Fields.{or_wire, fields_of, some_numbers, one_body, if_numbered, last_number, numbers, bodies, merged_fields}
use Rattle.osm_elements.specs.Tags.{Tag, tags_of, strings_of}
use Rattle.osm_elements.specs.Granularity.{next_sum, sums_from, sums, granularity_of}
use Rattle.osm_elements.specs.Elements.{Element, node, way, relation, osm_id, common_in, node_in, way_in, relation_in, node_of, way_of, relation_of, member_of, members_of, element_of}
use Rattle.osm_elements.specs.Dense.{nodes_along, lists_in, dense_of}
use Rattle.osm_elements.specs.Block.{Found, joined, one, every, each_in, Parts, parts_of, elements_in, group_of, groups_in, unit_check, elements_of, numbered, as_way, as_relation, block_if, block_of}
use Rattle.osm_elements.specs.Few.{IsShort, IsFew}
use Rattle.tb_wire.proofs.Items.{IsAfter, IfOk-either, IfOk-next}
use Rattle.tb_wire.proofs.Messages.{varint_at-within, part_at-within, number_at-within}

-- it holds of each item
abbrev Each : {A : Type 0} → (A → Type 0) → List A → Type 0
Each P [] = Unit {0}
Each P (x ∷ xs) = P x × Each P xs

-- where an item takes at least its size, the sizes of the items are at most the bytes that are left
module _ {A : Type 0} (read : ℕ → Result (Option (A × ℕ)) Wire) (n : ℕ) (size : A → ℕ)
    (takes : (at : ℕ) → at ≤ n → IfOk (read at) (λ found. IfSome found (λ item. (at + size item.0 ≤ item.1) × (item.1 ≤ n)))) where
  sized : (most at : ℕ) (r : Result (Option (A × ℕ)) Wire) → at ≤ n → IfOk r (λ found. IfSome found (λ item. (at + size item.0 ≤ item.1) × (item.1 ≤ n)))
      → ((p : ℕ) → p ≤ n → IfOk (items_from read most p) (λ items. sum_by size items ≤ n - p)) → IfOk (r >>! with_rest (items_from read most)) (λ items. sum_by size items ≤ n - at)
  sized most at (Err e) h w more = tt
  sized most at (Ok None) h w more = omega arith
  sized most at (Ok (Some item)) h w more =
      IfOk-next (λ items. sum_by size items ≤ n - item.1) (λ items. sum_by size items ≤ n - at) (items_from read most item.1) (λ rest. Ok (item.0 ∷ rest)) (more item.1 w.1)
      (λ rest fits. omega (arith, fits, w.0, w.1, sum_by-cons size item.0 rest))

  items_from-sized : (most at : ℕ) → at ≤ n → IfOk (items_from read most at) (λ items. sum_by size items ≤ n - at)
  items_from-sized zero at h = omega arith
  items_from-sized (suc most) at h = sized most at (read at) h (takes at h) (items_from-sized most)

-- the bytes of a value that are told as such
abbrev text_length : Value → ℕ
text_length (text bytes) = length bytes
text_length (number n) = 0
text_length (eight_bytes n) = 0
text_length (four_bytes n) = 0

-- what a field takes at least
abbrev pub field_size : Entry → ℕ
field_size f = 1 + text_length f.value

part_at-size : (bytes : List ℕ) (at len : ℕ) → IfOk (part_at bytes at len) (λ p. at + length p.0 ≤ p.1)
part_at-size bytes at len =
    IfOk-either (λ p. at + length p.0 ≤ p.1) (nat_lt (length bytes - at) len) _ _ (λ _. tt)
    (λ e. let short : length (take (at + len - at) (drop at bytes)) ≤ len = simp (length-take, length-drop) (omega arith) in omega (arith, short))

value_at-size : (bytes : List ℕ) (wire_type at : ℕ) → at ≤ length bytes → IfOk (value_at bytes wire_type at) (λ v. (at + text_length v.0 ≤ v.1) × (v.1 ≤ length bytes))
unfolding value_at
value_at-size bytes wire_type at h =
    let P : Value × ℕ → Type 0 = λ v. (at + text_length v.0 ≤ v.1) × (v.1 ≤ length bytes) in
    IfOk-either P (wire_type == 0) _ _
    (λ _. IfOk-next (λ n. IsAfter at (length bytes) n.1) P (varint_at bytes at) _ (varint_at-within bytes at h) (λ n w. (omega (arith, w.0), w.1)))
    (λ _. IfOk-either P (wire_type == 1) _ _
    (λ _. IfOk-next (λ p. (at ≤ p.1) × (p.1 ≤ length bytes)) P (part_at bytes at 8) _ (part_at-within bytes at 8 h) (λ p w. (omega (arith, w.0), w.1)))
    (λ _. IfOk-either P (wire_type == 2) _ _
    (λ _. IfOk-next (λ n. IsAfter at (length bytes) n.1) P (varint_at bytes at) _ (varint_at-within bytes at h)
    (λ n w. IfOk-next (λ p. (n.1 + length p.0 ≤ p.1) × (p.1 ≤ length bytes)) P (part_at bytes n.1 n.0) _ (IfOk-both n.1 (length bytes) (part_at bytes n.1 n.0) (part_at-size bytes n.1 n.0) (part_at-within bytes n.1 n.0 w.1))
    (λ p q. (omega (arith, w.0, q.0), q.1))))
    (λ _. IfOk-either P (wire_type == 5) _ _
    (λ _. IfOk-next (λ p. (at ≤ p.1) × (p.1 ≤ length bytes)) P (part_at bytes at 4) _ (part_at-within bytes at 4 h) (λ p w. (omega (arith, w.0), w.1)))
    (λ _. tt))))
  where
    IfOk-both : (n m : ℕ) (r : Result (List ℕ × ℕ) Wire) → IfOk r (λ p. n + length p.0 ≤ p.1) → IfOk r (λ p. (n ≤ p.1) × (p.1 ≤ m)) → IfOk r (λ p. (n + length p.0 ≤ p.1) × (p.1 ≤ m))
    IfOk-both n m (Ok p) h k = (h, k.1)
    IfOk-both n m (Err e) h k = tt

field_at-size : (bytes : List ℕ) (at : ℕ) → at ≤ length bytes → IfOk (field_at bytes at) (λ found. IfSome found (λ f. (at + field_size f.0 ≤ f.1) × (f.1 ≤ length bytes)))
unfolding field_at
field_at-size bytes at h =
    let P : Option (Entry × ℕ) → Type 0 = λ found. IfSome found (λ f. (at + field_size f.0 ≤ f.1) × (f.1 ≤ length bytes)) in
    IfOk-either P (length bytes == at) _ _ (λ _. tt)
    (λ _. IfOk-next (λ n. IsAfter at (length bytes) n.1) P (varint_at bytes at) _ (varint_at-within bytes at h)
    (λ n w. IfOk-either P ((n.0 / 8 == 0) || nat_lt (2 ^ 29 - 1) (n.0 / 8)) _ _ (λ _. tt)
    (λ _. IfOk-next (λ v. (n.1 + text_length v.0 ≤ v.1) × (v.1 ≤ length bytes)) P (value_at bytes (n.0 % 8) n.1) _ (value_at-size bytes (n.0 % 8) n.1 w.1)
    (λ v q. (omega (arith, w.0, q.0), q.1)))))

message-size : (bytes : List ℕ) → IfOk (message bytes) (λ fields. sum_by field_size fields ≤ length bytes)
unfolding message_at
message-size bytes = go (message_at bytes 0) (items_from-sized (field_at bytes) (length bytes) field_size (field_at-size bytes) (length bytes - 0) 0 (omega arith))
  where
    go : (r : Result (List Entry) Wire) → IfOk r (λ fields. sum_by field_size fields ≤ length bytes - 0) → IfOk r (λ fields. sum_by field_size fields ≤ length bytes)
    go (Ok fields) h = omega (arith, h)
    go (Err e) h = tt

number_at-size : (bytes : List ℕ) (at : ℕ) → at ≤ length bytes → IfOk (number_at bytes at) (λ found. IfSome found (λ n. (at + 1 ≤ n.1) × (n.1 ≤ length bytes)))
number_at-size bytes at h = more (number_at bytes at) (number_at-within bytes at h)
  where
    more : (r : Result (Option (ℕ × ℕ)) Wire) → IfOk r (λ found. IfSome found (λ n. IsAfter at (length bytes) n.1)) → IfOk r (λ found. IfSome found (λ n. (at + 1 ≤ n.1) × (n.1 ≤ length bytes)))
    more (Ok None) k = tt
    more (Ok (Some n)) k = (omega (arith, k.0), k.1)
    more (Err e) k = tt

one_each : (xs : List ℕ) → sum_by (λ x. 1) xs ≡ length xs
one_each [] = refl
one_each (x ∷ xs) = omega (arith, sum_by-cons (λ (y : ℕ). 1) x xs, one_each xs)

packed-size : (bytes : List ℕ) → IfOk (packed bytes) (λ xs. length xs ≤ length bytes)
unfolding packed_at
packed-size bytes = go (packed_at bytes 0) (items_from-sized (number_at bytes) (length bytes) (λ x. 1) (number_at-size bytes) (length bytes - 0) 0 (omega arith))
  where
    go : (r : Result (List ℕ) Wire) → IfOk r (λ xs. sum_by (λ x. 1) xs ≤ length bytes - 0) → IfOk r (λ xs. length xs ≤ length bytes)
    go (Ok xs) h = omega (arith, h, one_each xs)
    go (Err e) h = tt

-- of what is read it holds where it holds after each step
pub either : {A E : Type 0} (P : A → Type 0) (b : Bool) (x y : Result A E) → IfOk x P → IfOk y P → IfOk (if b then x else y) P
either P true x y h k = h
either P false x y h k = k

pub next : {A B E : Type 0} (P : A → Type 0) (Q : B → Type 0) (r : Result A E) (f : A → Result B E) → IfOk r P → ((x : A) → P x → IfOk (f x) Q) → IfOk (r >>= f) Q
next P Q (Ok x) f h k = k x h
next P Q (Err e) f h k = tt

-- whatever was read
pub anyway : {A B E : Type 0} (Q : B → Type 0) (r : Result A E) (f : A → Result B E) → ((x : A) → IfOk (f x) Q) → IfOk (r >>= f) Q
anyway Q (Ok x) f k = k x
anyway Q (Err e) f k = tt

weaker : {A E : Type 0} (P Q : A → Type 0) (r : Result A E) → IfOk r P → ((x : A) → P x → Q x) → IfOk r Q
weaker P Q (Ok x) h k = k x h
weaker P Q (Err e) h k = tt

fields_of-size : (bytes : List ℕ) → IfOk (fields_of bytes) (λ fields. sum_by field_size fields ≤ length bytes)
fields_of-size bytes = go (message bytes) (message-size bytes)
  where
    go : (r : Result (List Entry) Wire) → IfOk r (λ fields. sum_by field_size fields ≤ length bytes) → IfOk (or_wire r) (λ fields. sum_by field_size fields ≤ length bytes)
    go (Ok fields) h = h
    go (Err e) h = tt

-- a list of numbers has at most the bytes of its fields
some_numbers-size : (v : Value) → IfOk (some_numbers v) (λ xs. length xs ≤ 1 + text_length v)
some_numbers-size (number n) = omega arith
some_numbers-size (text bytes) = go (packed bytes) (packed-size bytes)
  where
    go : (r : Result (List ℕ) Wire) → IfOk r (λ xs. length xs ≤ length bytes) → IfOk (or_wire r) (λ xs. length xs ≤ 1 + length bytes)
    go (Ok xs) h = omega (arith, h)
    go (Err e) h = tt
some_numbers-size (eight_bytes n) = tt
some_numbers-size (four_bytes n) = tt

numbers-size : (n : ℕ) (fields : List Entry) → IfOk (numbers n fields) (λ xs. length xs ≤ sum_by field_size fields)
numbers-size n [] = omega arith
numbers-size n (f ∷ fields) =
    next (λ xs. length xs ≤ field_size f) (λ xs. length xs ≤ sum_by field_size (f ∷ fields)) (if_numbered some_numbers n f) _
    (either (λ xs. length xs ≤ field_size f) (f.number == n) (some_numbers f.value) (Ok []) (some_numbers-size f.value) (omega arith))
    (λ these h. next (λ xs. length xs ≤ sum_by field_size fields) (λ xs. length xs ≤ sum_by field_size (f ∷ fields)) (numbers n fields) _ (numbers-size n fields)
    (λ later k. omega (arith, h, k, length-append these later, sum_by-cons field_size f fields)))

-- a message has no more bytes than those it stands in
one_body-size : (v : Value) → IfOk (one_body v) (λ bs. Each (λ b. length b ≤ text_length v) bs)
one_body-size (text bytes) = (omega arith, tt)
one_body-size (number n) = tt
one_body-size (eight_bytes n) = tt
one_body-size (four_bytes n) = tt

all-weaker : {A : Type 0} (P Q : A → Type 0) (xs : List A) → Each P xs → ((x : A) → P x → Q x) → Each Q xs
all-weaker P Q [] h k = tt
all-weaker P Q (x ∷ xs) h k = (k x h.0, all-weaker P Q xs h.1 k)

all-append : {A : Type 0} (P : A → Type 0) (xs ys : List A) → Each P xs → Each P ys → Each P (xs ++ ys)
all-append P [] ys h k = k
all-append P (x ∷ xs) ys h k = (h.0, all-append P xs ys h.1 k)

bodies-size : (n : ℕ) (fields : List Entry) → IfOk (bodies n fields) (λ bs. Each (λ b. length b ≤ sum_by field_size fields) bs)
bodies-size n [] = tt
bodies-size n (f ∷ fields) =
    let P : List ℕ → Type 0 = λ b. length b ≤ sum_by field_size (f ∷ fields) in
    next (Each P) (Each P) (if_numbered one_body n f) _
    (either (Each P) (f.number == n) (one_body f.value) (Ok [])
    (weaker (Each (λ b. length b ≤ text_length f.value)) (Each P) (one_body f.value) (one_body-size f.value) (λ bs h. all-weaker (λ b. length b ≤ text_length f.value) P bs h (λ b k. omega (arith, k, sum_by-cons field_size f fields)))) tt)
    (λ these h. next (Each (λ b. length b ≤ sum_by field_size fields)) (Each P) (bodies n fields) _ (bodies-size n fields)
    (λ later k. all-append P these later h (all-weaker (λ b. length b ≤ sum_by field_size fields) P later k (λ b l. omega (arith, l, sum_by-cons field_size f fields)))))

-- single elements
pub sums-length : (ds : List ℕ) (before : ℤ) → IfOk (sums_from before ds) (λ ns. length ns ≡ length ds)
sums-length [] before = refl
sums-length (d ∷ ds) before =
    anyway (λ ns. length ns ≡ length (d ∷ ds)) (next_sum before d) _
    (λ n. next (λ ns. length ns ≡ length ds) (λ ns. length ns ≡ length (d ∷ ds)) (sums_from n ds) _ (sums-length ds n) (λ later h. omega (arith, h)))

pub members_of-length : (ids : List ℤ) (kinds : List ℕ) → IfOk (members_of ids kinds) (λ ms. length ms ≤ length ids)
members_of-length [] kinds = omega arith
members_of-length (id ∷ ids) [] = omega arith
members_of-length (id ∷ ids) (k ∷ kinds) =
    anyway (λ ms. length ms ≤ length (id ∷ ids)) (member_of id k) _
    (λ m. next (λ ms. length ms ≤ length ids) (λ ms. length ms ≤ length (id ∷ ids)) (members_of ids kinds) _ (members_of-length ids kinds) (λ later h. omega (arith, h)))

node_in-short : (strings : List (List ℕ)) (granularity : Granularity) (n : ℕ) (fields : List Entry) → IfOk (node_in strings granularity fields) (IsShort n)
node_in-short strings granularity n fields =
    anyway (IsShort n) (common_in fields) _ (λ common. anyway (IsShort n) (last_number 8 fields) _ (λ lat. anyway (IsShort n) (last_number 9 fields) _
    (λ lon. anyway (IsShort n) (require common.id) _ (λ id. anyway (IsShort n) (require lat) _ (λ lat. anyway (IsShort n) (require lon) _
    (λ lon. anyway (IsShort n) (tags_of strings common.keys common.values) _ (λ tags. tt)))))))

way_in-short : (strings : List (List ℕ)) (fields : List Entry) → IfOk (way_in strings fields) (IsShort (sum_by field_size fields))
way_in-short strings fields =
    let n : ℕ = sum_by field_size fields in
    anyway (IsShort n) (common_in fields) _ (λ common. next (λ xs. length xs ≤ n) (IsShort n) (numbers 8 fields) _ (numbers-size 8 fields)
    (λ refs h. anyway (IsShort n) (require common.id) _ (λ id. anyway (IsShort n) (tags_of strings common.keys common.values) _
    (λ tags. next (λ ns. length ns ≡ length refs) (IsShort n) (sums refs) _ (sums-length refs (pos 0)) (λ ns k. omega (arith, h, k, length-map ns osm_id))))))

relation_in-short : (strings : List (List ℕ)) (fields : List Entry) → IfOk (relation_in strings fields) (IsShort (sum_by field_size fields))
relation_in-short strings fields =
    let n : ℕ = sum_by field_size fields in
    anyway (IsShort n) (common_in fields) _ (λ common. next (λ xs. length xs ≤ n) (IsShort n) (numbers 9 fields) _ (numbers-size 9 fields)
    (λ ids h. anyway (IsShort n) (numbers 10 fields) _ (λ kinds. anyway (IsShort n) (require common.id) _
    (λ id. either (IsShort n) (length ids == length kinds) _ _
    (anyway (IsShort n) (tags_of strings common.keys common.values) _ (λ tags. next (λ ns. length ns ≡ length ids) (IsShort n) (sums ids) _ (sums-length ids (pos 0))
    (λ ns k. next (λ ms. length ms ≤ length ns) (IsShort n) (members_of ns kinds) _ (members_of-length ns kinds) (λ ms l. omega (arith, h, k, l))))) tt))))

is_short-more : (m n : ℕ) (x : Element) → m ≤ n → IsShort m x → IsShort n x
is_short-more m n (node id at tags) h k = tt
is_short-more m n (way id tags refs) h k = omega (arith, h, k)
is_short-more m n (relation id tags members) h k = omega (arith, h, k)

-- what a message of fields says, by its bytes
of_message : (n : ℕ) (body : List ℕ) (read : List Entry → Result Element Why) → ((fields : List Entry) → IfOk (read fields) (IsShort (sum_by field_size fields))) → length body ≤ n → IfOk (fields_of body >>= read) (IsShort n)
of_message n body read h k =
    next (λ fields. sum_by field_size fields ≤ length body) (IsShort n) (fields_of body) read (fields_of-size body)
    (λ fields l. weaker (IsShort (sum_by field_size fields)) (IsShort n) (read fields) (h fields) (λ x s. is_short-more (sum_by field_size fields) n x (omega (arith, k, l)) s))

element_of-short : (strings : List (List ℕ)) (granularity : Granularity) (kind : Kind) (n : ℕ) (body : List ℕ) → length body ≤ n → IfOk (element_of strings granularity kind body) (IsShort n)
unfolding node_of way_of relation_of
element_of-short strings granularity kinds.Node n body h = of_message n body (node_in strings granularity) (λ fields. node_in-short strings granularity (sum_by field_size fields) fields) h
element_of-short strings granularity kinds.Way n body h = of_message n body (way_in strings) (way_in-short strings) h
element_of-short strings granularity kinds.Relation n body h = of_message n body (relation_in strings) (relation_in-short strings) h

-- all elements
joined-all : (P : Element → Type 0) (a b : Found) → IfOk a (Each P) → IfOk b (Each P) → IfOk (joined a b) (Each P)
joined-all P (Ok xs) (Ok ys) h k = all-append P xs ys h k
joined-all P (Ok xs) (Err e) h k = tt
joined-all P (Err e) (Ok ys) h k = tt
joined-all P (Err e) (Err f) h k = tt

one-all : (P : Element → Type 0) (r : Result Element Why) → IfOk r P → IfOk (one r) (Each P)
one-all P (Ok x) h = (h, tt)
one-all P (Err e) h = tt

every-all : (P : Element → Type 0) (n : ℕ) (read : List ℕ → Found) → ((body : List ℕ) → length body ≤ n → IfOk (read body) (Each P)) → (bodies : List (List ℕ)) → Each (λ b. length b ≤ n) bodies → IfOk (every read bodies) (Each P)
every-all P n read h [] k = tt
every-all P n read h (b ∷ bs) k = joined-all P (read b) (every read bs) (h b k.0) (every-all P n read h bs k.1)

each_in-short : (strings : List (List ℕ)) (granularity : Granularity) (kind : Kind) (n : ℕ) (bodies : List (List ℕ)) → Each (λ b. length b ≤ n) bodies → IfOk (each_in strings granularity kind bodies) (Each (IsShort n))
each_in-short strings granularity kind n bodies h =
    every-all (IsShort n) n (λ body. one (element_of strings granularity kind body))
    (λ body k. one-all (IsShort n) (element_of strings granularity kind body) (element_of-short strings granularity kind n body k)) bodies h

along-short : (granularity : Granularity) (n : ℕ) (ids lats lons : List ℤ) (tags : List (List Tag)) → Each (IsShort n) (nodes_along granularity ids lats lons tags)
along-short granularity n [] lats lons tags = tt
along-short granularity n (id ∷ ids) [] lons tags = tt
along-short granularity n (id ∷ ids) (lat ∷ lats) [] tags = tt
along-short granularity n (id ∷ ids) (lat ∷ lats) (lon ∷ lons) [] = tt
along-short granularity n (id ∷ ids) (lat ∷ lats) (lon ∷ lons) (t ∷ tags) = (tt, along-short granularity n ids lats lons tags)

dense_of-short : (strings : List (List ℕ)) (granularity : Granularity) (n : ℕ) (fields : List Entry) → IfOk (dense_of strings granularity fields) (Each (IsShort n))
unfolding dense_of
dense_of-short strings granularity n fields = anyway (Each (IsShort n)) (lists_in strings fields) _ (λ l. along-short granularity n l.0 l.1 l.2 l.3)

-- the parts of a group are no longer than it
ArePartsShort : ℕ → Parts → Type 0
ArePartsShort n parts = Each (λ b. length b ≤ n) parts.nodes × Each (λ b. length b ≤ n) parts.ways × Each (λ b. length b ≤ n) parts.relations

group_of-short : (strings : List (List ℕ)) (granularity : Granularity) (n : ℕ) (body : List ℕ) → length body ≤ n → IfOk (group_of strings granularity body) (Each (IsShort n))
unfolding group_of ArePartsShort
group_of-short strings granularity n body h =
    next (ArePartsShort n) (Each (IsShort n)) (parts_of body) (elements_in strings granularity)
    (next (λ fields. sum_by field_size fields ≤ length body) (ArePartsShort n) (fields_of body) _ (fields_of-size body)
    (λ fields k. let few : (m : ℕ) → IfOk (bodies m fields) (Each (λ b. length b ≤ n)) = λ m. weaker (Each (λ b. length b ≤ sum_by field_size fields)) (Each (λ b. length b ≤ n)) (bodies m fields) (bodies-size m fields)
    (λ bs l. all-weaker (λ b. length b ≤ sum_by field_size fields) (λ b. length b ≤ n) bs l (λ b s. omega (arith, h, k, s))) in
    next (Each (λ b. length b ≤ n)) (ArePartsShort n) (bodies 1 fields) _ (few 1) (λ nodes p. anyway (ArePartsShort n) (merged_fields 2 fields) _
    (λ dense. next (Each (λ b. length b ≤ n)) (ArePartsShort n) (bodies 3 fields) _ (few 3) (λ ways q. next (Each (λ b. length b ≤ n)) (ArePartsShort n) (bodies 4 fields) _ (few 4) (λ relations r. (p, q, r)))))))
    (λ parts k. joined-all (IsShort n) (each_in strings granularity kinds.Node parts.nodes) _ (each_in-short strings granularity kinds.Node n parts.nodes k.0)
    (joined-all (IsShort n) (dense_of strings granularity parts.dense) _ (dense_of-short strings granularity n parts.dense)
    (joined-all (IsShort n) (each_in strings granularity kinds.Way parts.ways) _ (each_in-short strings granularity kinds.Way n parts.ways k.1) (each_in-short strings granularity kinds.Relation n parts.relations k.2))))

elements_of-short : (raw : List ℕ) → IfOk (elements_of raw) (Each (IsShort (length raw)))
unfolding elements_of
elements_of-short raw =
    let P : List Element → Type 0 = Each (IsShort (length raw)) in
    next (λ fields. sum_by field_size fields ≤ length raw) P (fields_of raw) _ (fields_of-size raw)
    (λ fields h. anyway P (strings_of fields) _ (λ strings. anyway P (granularity_of fields) _
    (λ granularity. next (Each (λ b. length b ≤ sum_by field_size fields)) P (bodies 2 fields) _ (bodies-size 2 fields)
    (λ groups k. joined-all (IsShort (length raw)) (groups_in strings granularity groups) (unit_check granularity)
    (every-all (IsShort (length raw)) (sum_by field_size fields) (group_of strings granularity) (λ body l. group_of-short strings granularity (length raw) body (omega (arith, h, l))) groups k)
    (either P (int_lt granularity.unit (pos 1)) (Err reasons.Range) (Ok []) tt tt)))))

-- the elements of a kind
ways-few : (n index : ℕ) (xs : List Element) → Each (IsShort n) xs → All (λ w. length w.refs ≤ n) (numbered as_way index xs)
ways-few n index [] h = All-nil (λ w. length w.refs ≤ n)
ways-few n index (node id at tags ∷ xs) h = ways-few n (suc index) xs h.1
ways-few n index (way id tags refs ∷ xs) h = All-cons (λ w. length w.refs ≤ n) _ (numbered as_way (suc index) xs) h.0 (ways-few n (suc index) xs h.1)
ways-few n index (relation id tags members ∷ xs) h = ways-few n (suc index) xs h.1

relations-few : (n index : ℕ) (xs : List Element) → Each (IsShort n) xs → All (λ r. length r.members ≤ n) (numbered as_relation index xs)
relations-few n index [] h = All-nil (λ r. length r.members ≤ n)
relations-few n index (node id at tags ∷ xs) h = relations-few n (suc index) xs h.1
relations-few n index (way id tags refs ∷ xs) h = relations-few n (suc index) xs h.1
relations-few n index (relation id tags members ∷ xs) h = All-cons (λ r. length r.members ≤ n) _ (numbered as_relation (suc index) xs) h.0 (relations-few n (suc index) xs h.1)

block-few : (n : ℕ) (found : Found) → IfOk found (Each (IsShort n)) → IfOk (block_if found) (IsFew n)
block-few n (Ok xs) h = record { refs = ways-few n 0 xs h; members = relations-few n 0 xs h }
block-few n (Err e) h = tt

-- what is read is no more than the bytes
pub few : (raw : List ℕ) (r : Result Block BlockErr) → Gives (λ b. b) r (block_of raw) → IfOk r (λ b. IsFew (length raw) b)
unfolding block_of
few raw (Ok b) h = subst (λ (r : Result Block Why). IfOk r (IsFew (length raw))) h (block-few (length raw) (elements_of raw) (elements_of-short raw))
few raw (Err e) h = tt
