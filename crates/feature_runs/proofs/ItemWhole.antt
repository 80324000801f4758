-- Whole items go both ways.
use Rattle.std.proofs.Common.{◌≡◌, ℕ, zero, suc, ◌+◌, ◌-◌, ◌*◌, ◌^◌, ◌<◌, ◌≤◌, Bool, true, false, ◌&&◌, ◌==◌, nat_le, nat_lt, if◌then◌else◌, ℤ, pos, negsuc, List, [], ◌∷◌, ◌++◌, length, take, drop, flat_map, Option, Some, None, refl, sym, ap, subst, ◌∙◌, append_assoc, arith, true≢false}
use Rattle.std.specs.Prelude.{⊤}
use Rattle.std.specs.List.{AllByRecursion}
use Rattle.std.specs.Int.{w16, w32, w64}
use Rattle.std.proofs.lemmas.Bool.{ltb-true, ltb-false, lt-ltb, le-ltb, leb-true, le-leb, eqb-true, eq-eqb}
use Rattle.std.proofs.lemmas.List.{length-append, length-take, length-drop, take-append-drop, take_at, drop_at, append-nil, nil_from_length}
use Rattle.std.proofs.lemmas.List.Concat.{flat_map-cons}
use Rattle.std.proofs.Math.Seq.{drop-append_seam}
use Rattle.tb_wire.specs.Varint.{encoding}
use Rattle.tb_wire.proofs.Again.{encoding-some}
use Rattle.tb_types.specs.declared.attribute.Attr.{Attr}
use Rattle.tb_types.specs.declared.element.Kind.{Kind}
use Rattle.tb_types.specs.declared.element.Kind.TheVariants.{Node, Way, Relation}
use Rattle.mvt_codec.specs.declared.row.TileRow.{TileRow}
use Rattle.mvt_codec.specs.declared.item.ItemKey.{ItemKey}
use Rattle.mvt_codec.specs.declared.item.RunItem.{RunItem}
use Rattle.mvt_codec.specs.Value.{value_text}
use Rattle.mvt_geom.specs.Commands.{is_move, are_paths, has_form}
use Rattle.mvt_codec.specs.Again.{FitsAttribute}
use Rattle.mvt_codec.specs.Order.{order_number, kind_number, FitsOrder, FitsKey}
use Rattle.mvt_codec.specs.Items.{fixed, key_text, sized, attribute_text, row_text, item_text, tiles_end, IsNamed, IsItem, Fits, StandsAt}
use Rattle.feature_runs.specs.Apart.{ItemsStandApart}
use Rattle.mvt_geom.specs.Options.{◌>>=◌}
use Rattle.feature_runs.specs.ItemReading.{only_if, number_at, byte_at, varint_at, split_off, parts_at, int_at, ints_at, whole, attribute_at, attributes_at, row_of, order_of, kind_of, key_at, head_at, item_at}
use Rattle.feature_runs.proofs.ItemParts.{IsBytes, IsBytes-drop, some_next, some_if, some_is, Takes, Takes-then, Reads, varints, numbers, wide16, wide32, wide64, bytes_one, taken, parts_back, parts_again}
use Rattle.feature_runs.proofs.ItemLaws.{both_true, ints_both, attributes_both, nothing_left, IsSizedAttribute}
use Rattle.mvt_codec.proofs.ItemLengths.{item_len, row_len, attribute_len}

-- ---- rows

-- a list behind its number
abbrev counted : {A : Type 0} → (A → List ℕ) → List A → List ℕ
counted text xs = encoding (length xs) ++ flat_map text xs

module _ {A : Type 0} (read : List ℕ → Option (A × List ℕ)) (text : A → List ℕ) (Is : A → Type 0) (both : Reads read text Is) where
  counted_back : (bytes : List ℕ) (x : List A × List ℕ) → IsBytes bytes → (varint_at bytes >>= λ n. parts_at read n.0 n.1) ≡ Some x → Takes bytes (counted text x.0) x.1 × AllByRecursion Is x.0
  counted_back bytes x fits e =
      let n = some_next (varint_at bytes) (λ n. parts_at read n.0 n.1) x e in
      let t = varints.back bytes n.0 fits n.1 in
      let p = parts_back read text Is both n.0.0 n.0.1 x t.0.rest_fits n.2 in
      let joined = Takes-then bytes (encoding n.0.0) n.0.1 (flat_map text x.0) x.1 t.0 p.0 in
      (subst (λ (k : ℕ). Takes bytes (encoding k ++ flat_map text x.0) x.1) (sym p.1) joined, p.2)

  counted_again : (xs : List A) (rest : List ℕ) → length xs < 2 ^ 64 → AllByRecursion Is xs → (varint_at (counted text xs ++ rest) >>= λ n. parts_at read n.0 n.1) ≡ Some (xs, rest)
  counted_again xs rest lt is =
      ap (λ (b : List ℕ). varint_at b >>= λ n. parts_at read n.0 n.1) (append_assoc (encoding (length xs)) (flat_map text xs) rest)
      ∙ ap (λ (o : Option (ℕ × List ℕ)). o >>= λ n. parts_at read n.0 n.1) (varints.again (length xs) (flat_map text xs ++ rest) lt)
      ∙ parts_again read text Is both xs rest is

-- what a row is
pub record IsRow (row : TileRow) : Type 0 where
  pub id : row.id < 2 ^ 64
  pub form : row.form < 256
  pub ints : AllByRecursion (λ n. n < 2 ^ 32) row.ints
  pub attributes : AllByRecursion IsSizedAttribute row.attributes
  pub known : 1 ≤ row.form
  pub commands : has_form row.form row.ints ≡ true

-- the text of a row, bracketed to the right
row_parts : (row : TileRow) → row_text row ≡ encoding row.id ++ (row.form ∷ (counted encoding row.ints ++ counted attribute_text row.attributes))
unfolding row_text
row_parts row = simp append_assoc

row_back : (bytes : List ℕ) (row : TileRow) → IsBytes bytes → row_of bytes ≡ Some row → (bytes ≡ row_text row) × IsRow row
unfolding row_of ints_at attributes_at
row_back bytes row fits e =
    let a = some_next (varint_at bytes) (λ id. byte_at id.1 >>= λ form. ints_at form.1 >>= λ ints. attributes_at ints.1 >>= λ attributes. whole attributes >>= λ only. only_if (nat_le 1 form.0 && has_form form.0 ints.0) (record { id = id.0; form = form.0; ints = ints.0; attributes = only })) row e in
    let b = some_next (byte_at a.0.1) (λ form. ints_at form.1 >>= λ ints. attributes_at ints.1 >>= λ attributes. whole attributes >>= λ only. only_if (nat_le 1 form.0 && has_form form.0 ints.0) (record { id = a.0.0; form = form.0; ints = ints.0; attributes = only })) row a.2 in
    let c = some_next (ints_at b.0.1) (λ ints. attributes_at ints.1 >>= λ attributes. whole attributes >>= λ only. only_if (nat_le 1 b.0.0 && has_form b.0.0 ints.0) (record { id = a.0.0; form = b.0.0; ints = ints.0; attributes = only })) row b.2 in
    let d = some_next (attributes_at c.0.1) (λ attributes. whole attributes >>= λ only. only_if (nat_le 1 b.0.0 && has_form b.0.0 c.0.0) (record { id = a.0.0; form = b.0.0; ints = c.0.0; attributes = only })) row c.2 in
    let f = some_next (whole d.0) (λ only. only_if (nat_le 1 b.0.0 && has_form b.0.0 c.0.0) (record { id = a.0.0; form = b.0.0; ints = c.0.0; attributes = only })) row d.2 in
    let none = nothing_left d.0 f.0 f.1 in
    let made : TileRow = record { id = a.0.0; form = b.0.0; ints = c.0.0; attributes = f.0 } in
    let g = some_if (nat_le 1 b.0.0 && has_form b.0.0 c.0.0) made row f.2 in
    let tests = both_true (nat_le 1 b.0.0) (has_form b.0.0 c.0.0) g.0 in
    let ta = varints.back bytes a.0 fits a.1 in
    let tb = bytes_one.back a.0.1 b.0 ta.0.rest_fits b.1 in
    let tc = counted_back int_at encoding (λ n. n < 2 ^ 32) ints_both b.0.1 c.0 tb.0.rest_fits c.1 in
    let td = counted_back attribute_at attribute_text IsSizedAttribute attributes_both c.0.1 d.0 tc.0.rest_fits d.1 in
    let cd = Takes-then b.0.1 (counted encoding c.0.0) c.0.1 (counted attribute_text d.0.0) d.0.1 tc.0 td.0 in
    let bd = Takes-then a.0.1 (b.0.0 ∷ []) b.0.1 (counted encoding c.0.0 ++ counted attribute_text d.0.0) d.0.1 tb.0 cd in
    let ad = Takes-then bytes (encoding a.0.0) a.0.1 (b.0.0 ∷ (counted encoding c.0.0 ++ counted attribute_text d.0.0)) d.0.1 ta.0 bd in
    let text = encoding a.0.0 ++ (b.0.0 ∷ (counted encoding c.0.0 ++ counted attribute_text d.0.0)) in
    let all : bytes ≡ row_text made = ad.parts ∙ ap (λ (r : List ℕ). text ++ r) none.0 ∙ append-nil text
    ∙ ap (λ (xs : List Attr). encoding a.0.0 ++ (b.0.0 ∷ (counted encoding c.0.0 ++ counted attribute_text xs))) none.1 ∙ sym (row_parts made) in
    let only : AllByRecursion IsSizedAttribute f.0 = subst (AllByRecursion IsSizedAttribute) none.1 td.1 in
    subst (λ (r : TileRow). (bytes ≡ row_text r) × IsRow r) g.1 (all, record { id = ta.1; form = tb.1; ints = tc.1; attributes = only; known = leb-true _ _ tests.0; commands = tests.1 })

row_again : (row : TileRow) → IsRow row → length row.ints < 2 ^ 64 → length row.attributes < 2 ^ 64 → row_of (row_text row) ≡ Some row
unfolding row_of ints_at attributes_at
row_again row is few_ints few =
    let attributes = counted attribute_text row.attributes in
    let ints = counted encoding row.ints in
    let known : nat_le 1 row.form ≡ true = le-leb _ _ is.known in
    let last : (varint_at attributes >>= λ n. parts_at attribute_at n.0 n.1) ≡ Some (row.attributes, []) =
    ap (λ (b : List ℕ). varint_at b >>= λ n. parts_at attribute_at n.0 n.1) (sym (append-nil attributes)) ∙ counted_again attribute_at attribute_text IsSizedAttribute attributes_both row.attributes [] few is.attributes in
    ap row_of (row_parts row)
    ∙ rw (varints.again row.id (row.form ∷ (ints ++ attributes)) is.id, counted_again int_at encoding (λ n. n < 2 ^ 32) ints_both row.ints attributes few_ints is.ints, last, known, is.commands) refl

-- ---- keys

order_back : (n : ℕ) → n < 2 ^ 16 → (order_number (order_of n) ≡ n) × FitsOrder (order_of n)
order_back n lt = by (nat_lt n 32768) refl
  where
    by : (t : Bool) → nat_lt n 32768 ≡ t → (order_number (if t then negsuc (32767 - n) else pos (n - 32768)) ≡ n) × FitsOrder (if t then negsuc (32767 - n) else pos (n - 32768))
    by true h = let low : n < 32768 = ltb-true _ _ h in (omega (arith, low), omega (arith, low))
    by false h = let up : 32768 ≤ n = ltb-false _ _ h in (omega (arith, up), omega (arith, up, lt))

order_again : (z : ℤ) → FitsOrder z → (order_of (order_number z) ≡ z) × (order_number z < 2 ^ 16)
order_again (pos n) is =
    let above : nat_lt (32768 + n) 32768 ≡ false = le-ltb _ _ (omega arith) in
    let back : 32768 + n - 32768 ≡ n = omega arith in
    (rw (above, back) refl, omega (arith, is))
order_again (negsuc n) is =
    let below : nat_lt (32767 - n) 32768 ≡ true = lt-ltb _ _ (omega arith) in
    let back : 32767 - (32767 - n) ≡ n = omega (arith, is) in
    (rw (below, back) refl, omega arith)

kind_back : (n : ℕ) (k : Kind) → kind_of n ≡ Some k → n ≡ kind_number k
kind_back zero k e = ap kind_number (some_is Node k e)
kind_back (suc zero) k e = ap kind_number (some_is Way k e)
kind_back (suc (suc zero)) k e = ap kind_number (some_is Relation k e)
kind_back (suc (suc (suc n))) k e = absurd cc

kind_again : (k : Kind) → (kind_of (kind_number k) ≡ Some k) × (kind_number k < 256)
kind_again Node = (refl, omega arith)
kind_again Way = (refl, omega arith)
kind_again Relation = (refl, omega arith)

-- what a key is
pub record IsKey (key : ItemKey) : Type 0 where
  pub tile : key.tile < tiles_end
  pub layer : key.layer ≤ 63
  pub order : FitsOrder key.order
  pub block : key.place.block < 2 ^ 32
  pub index : key.place.index < 2 ^ 32
  pub rule : key.rule < 2 ^ 16

key_parts : (key : ItemKey) → key_text key ≡ fixed w64 key.tile ++ (key.layer ∷ (fixed w16 (order_number key.order) ++ (kind_number key.kind ∷ (fixed w32 key.place.block ++ (fixed w32 key.place.index ++ fixed w16 key.rule)))))
unfolding key_text
key_parts key = simp append_assoc

-- what stands behind the tile, the layer, the order and the kind
abbrev tail_of : ItemKey → List ℕ
tail_of key = fixed w32 key.place.block ++ (fixed w32 key.place.index ++ fixed w16 key.rule)

key_back : (bytes : List ℕ) (x : ItemKey × List ℕ) → IsBytes bytes → key_at bytes ≡ Some x → Takes bytes (key_text x.0) x.1 × IsKey x.0
unfolding key_at
key_back bytes x fits e =
    let a = some_next (number_at w64 bytes) _ x e in
    let b = some_next (byte_at a.0.1) _ x a.2 in
    let c = some_next (number_at w16 b.0.1) _ x b.2 in
    let d = some_next (byte_at c.0.1) _ x c.2 in
    let k = some_next (kind_of d.0.0) _ x d.2 in
    let f = some_next (number_at w32 d.0.1) _ x k.2 in
    let g = some_next (number_at w32 f.0.1) _ x f.2 in
    let h = some_next (number_at w16 g.0.1) _ x g.2 in
    let made : ItemKey = record { tile = a.0.0; layer = b.0.0; order = order_of c.0.0; kind = k.0; place = record { block = f.0.0; index = g.0.0 }; rule = h.0.0 } in
    let t = some_if (nat_lt a.0.0 tiles_end && nat_le b.0.0 63) (made, h.0.1) x h.2 in
    let both = both_true _ _ t.0 in
    let ta = (numbers w64 (2 ^ 64) wide64).back bytes a.0 fits a.1 in
    let tb = bytes_one.back a.0.1 b.0 ta.0.rest_fits b.1 in
    let tc = (numbers w16 (2 ^ 16) wide16).back b.0.1 c.0 tb.0.rest_fits c.1 in
    let td = bytes_one.back c.0.1 d.0 tc.0.rest_fits d.1 in
    let tf = (numbers w32 (2 ^ 32) wide32).back d.0.1 f.0 td.0.rest_fits f.1 in
    let tg = (numbers w32 (2 ^ 32) wide32).back f.0.1 g.0 tf.0.rest_fits g.1 in
    let th = (numbers w16 (2 ^ 16) wide16).back g.0.1 h.0 tg.0.rest_fits h.1 in
    let order = order_back c.0.0 tc.1 in
    let kind : d.0.0 ≡ kind_number k.0 = kind_back d.0.0 k.0 k.1 in
    let ug = Takes-then f.0.1 (fixed w32 g.0.0) g.0.1 (fixed w16 h.0.0) h.0.1 tg.0 th.0 in
    let uf = Takes-then d.0.1 (fixed w32 f.0.0) f.0.1 (fixed w32 g.0.0 ++ fixed w16 h.0.0) h.0.1 tf.0 ug in
    let ud = Takes-then c.0.1 (d.0.0 ∷ []) d.0.1 (tail_of made) h.0.1 td.0 uf in
    let vd : Takes c.0.1 (kind_number k.0 ∷ tail_of made) h.0.1 = subst (λ (n : ℕ). Takes c.0.1 (n ∷ tail_of made) h.0.1) kind ud in
    let uc = Takes-then b.0.1 (fixed w16 c.0.0) c.0.1 (kind_number k.0 ∷ tail_of made) h.0.1 tc.0 vd in
    let vc : Takes b.0.1 (fixed w16 (order_number (order_of c.0.0)) ++ (kind_number k.0 ∷ tail_of made)) h.0.1 = subst (λ (n : ℕ). Takes b.0.1 (fixed w16 n ++ (kind_number k.0 ∷ tail_of made)) h.0.1) (sym order.0) uc in
    let ub = Takes-then a.0.1 (b.0.0 ∷ []) b.0.1 (fixed w16 (order_number (order_of c.0.0)) ++ (kind_number k.0 ∷ tail_of made)) h.0.1 tb.0 vc in
    let ua = Takes-then bytes (fixed w64 a.0.0) a.0.1 (b.0.0 ∷ (fixed w16 (order_number (order_of c.0.0)) ++ (kind_number k.0 ∷ tail_of made))) h.0.1 ta.0 ub in
    let whole_key : Takes bytes (key_text made) h.0.1 = subst (λ (t : List ℕ). Takes bytes t h.0.1) (sym (key_parts made)) ua in
    subst (λ (y : ItemKey × List ℕ). Takes bytes (key_text y.0) y.1 × IsKey y.0) t.1
    (whole_key, record { tile = ltb-true _ _ both.0; layer = leb-true _ _ both.1; order = order.1; block = tf.1; index = tg.1; rule = th.1 })

key_again : (key : ItemKey) (rest : List ℕ) → IsKey key → key_at (key_text key ++ rest) ≡ Some (key, rest)
unfolding key_at
key_again key rest is =
    let order = order_again key.order is.order in
    let kind = kind_again key.kind in
    let r6 = fixed w16 key.rule ++ rest in
    let r5 = fixed w32 key.place.index ++ r6 in
    let r4 = fixed w32 key.place.block ++ r5 in
    let r2 = fixed w16 (order_number key.order) ++ (kind_number key.kind ∷ r4) in
    let whole_key : key_text key ++ rest ≡ fixed w64 key.tile ++ (key.layer ∷ r2) = ap (λ (t : List ℕ). t ++ rest) (key_parts key) ∙ simp append_assoc in
    let small : nat_lt key.tile tiles_end ≡ true = lt-ltb _ _ is.tile in
    let low : nat_le key.layer 63 ≡ true = le-leb _ _ is.layer in
    let wide : key.tile < 2 ^ 64 = omega (arith, is.tile) in
    ap key_at whole_key
    ∙ rw (
      (numbers w64 (2 ^ 64) wide64).again key.tile (key.layer ∷ r2) wide,
      (numbers w16 (2 ^ 16) wide16).again (order_number key.order) (kind_number key.kind ∷ r4) order.1,
      kind.0,
      (numbers w32 (2 ^ 32) wide32).again key.place.block r5 is.block,
      (numbers w32 (2 ^ 32) wide32).again key.place.index r6 is.index,
      (numbers w16 (2 ^ 16) wide16).again key.rule rest is.rule,
      small,
      low,
      order.0,
    ) refl

-- ---- items

-- a type that has a form is at most 3
form_of : (form : ℕ) (ints : List ℕ) → 1 ≤ form → has_form form ints ≡ true → form ≤ 3
unfolding has_form
form_of form ints known e = by_points (form == 1) refl e
  where
    by_none : (t : Bool) → (form == 0) ≡ t → t ≡ true → form ≤ 3
    by_none t h e = let is : form ≡ 0 = eqb-true _ _ (h ∙ e) in omega (arith, is)

    by_areas : (t : Bool) → (form == 3) ≡ t → (if t then are_paths true ints else form == 0) ≡ true → form ≤ 3
    by_areas true h e = let is : form ≡ 3 = eqb-true _ _ h in omega (arith, is)
    by_areas false h e = by_none (form == 0) refl e

    by_lines : (t : Bool) → (form == 2) ≡ t → (if t then are_paths false ints else if form == 3 then are_paths true ints else form == 0) ≡ true → form ≤ 3
    by_lines true h e = let is : form ≡ 2 = eqb-true _ _ h in omega (arith, is)
    by_lines false h e = by_areas (form == 3) refl e

    by_points : (t : Bool) → (form == 1) ≡ t → (if t then is_move ints else if form == 2 then are_paths false ints else if form == 3 then are_paths true ints else form == 0) ≡ true → form ≤ 3
    by_points true h e = let is : form ≡ 1 = eqb-true _ _ h in omega (arith, is)
    by_points false h e = by_lines (form == 2) refl e

-- attributes with their lengths, and without
unsized : (attributes : List Attr) → AllByRecursion IsSizedAttribute attributes → AllByRecursion IsNamed attributes × AllByRecursion FitsAttribute attributes
unsized [] is = (tt, tt)
unsized (a ∷ attributes) is =
    let rest = unsized attributes is.1 in
    (((is.0.0.0, is.0.1.0.0), rest.0), (record { name = is.0.0.1; value = is.0.1.0.1 }, rest.1))

with_lengths : (attributes : List Attr) → AllByRecursion IsNamed attributes → AllByRecursion FitsAttribute attributes → length (flat_map attribute_text attributes) < 2 ^ 64 → AllByRecursion IsSizedAttribute attributes
with_lengths [] is fits lt = tt
with_lengths (a ∷ attributes) is fits lt =
    let joined : length (flat_map attribute_text (a ∷ attributes)) ≡ length (attribute_text a) + length (flat_map attribute_text attributes) =
    ap length (flat_map-cons attribute_text a attributes) ∙ length-append (attribute_text a) (flat_map attribute_text attributes) in
    let len = attribute_len a in
    let name : length a.name < 2 ^ 64 = omega (arith, lt, joined, len) in
    let value : length (value_text a.value) < 2 ^ 64 = omega (arith, lt, joined, len) in
    let rest : length (flat_map attribute_text attributes) < 2 ^ 64 = omega (arith, lt, joined) in
    (((is.0.0, fits.0.name, name), ((is.0.1, fits.0.value), value)), with_lengths attributes is.1 fits.1 rest)

-- there are no more parts than bytes
few_parts : {A : Type 0} (text : A → List ℕ) → ((x : A) → 0 < length (text x)) → (xs : List A) → length xs ≤ length (flat_map text xs)
few_parts text some [] = omega arith
few_parts text some (x ∷ xs) =
    let joined : length (flat_map text (x ∷ xs)) ≡ length (text x) + length (flat_map text xs) = ap length (flat_map-cons text x xs) ∙ length-append (text x) (flat_map text xs) in
    let here = some x in
    let rest = few_parts text some xs in
    omega (arith, joined, here, rest)

attribute_some : (a : Attr) → 0 < length (attribute_text a)
attribute_some a = omega (arith, attribute_len a, encoding-some (length a.name))

-- a row and a key of an item
row_is : (item : RunItem) → IsItem item → Fits item → IsRow item.row × (length item.row.ints < 2 ^ 64) × (length item.row.attributes < 2 ^ 64) × (length (row_text item.row) < 2 ^ 64)
row_is item is fits =
    let row = item.row in
    let total : 30 + length (row_text row) < 2 ^ 64 = rw item_len at is.len in
    let len = row_len row in
    let texts : length (flat_map attribute_text row.attributes) < 2 ^ 64 = omega (arith, total, len) in
    let few_ints = few_parts encoding encoding-some row.ints in
    let few = few_parts attribute_text attribute_some row.attributes in (
      record { id = fits.id; form = omega (arith, is.known.1); ints = fits.ints; attributes = with_lengths row.attributes is.attributes fits.attributes texts; known = is.known.0; commands = is.form },
      omega (arith, total, len, few_ints),
      omega (arith, total, len, few),
      omega (arith, total),
    )

key_is : (item : RunItem) → IsItem item → Fits item → IsKey item.key
key_is item is fits = record { tile = is.tile; layer = is.layer; order = fits.key.order; block = fits.key.block; index = fits.key.index; rule = fits.key.rule }

item_parts : (item : RunItem) → item_text item ≡ key_text item.key ++ (fixed w64 (length (row_text item.row)) ++ row_text item.row)
unfolding item_text
item_parts item = append_assoc (key_text item.key) (fixed w64 (length (row_text item.row))) (row_text item.row)

pub item_back : (bytes : List ℕ) (x : RunItem × List ℕ) → IsBytes bytes → length bytes < 2 ^ 64 → item_at bytes ≡ Some x → (bytes ≡ item_text x.0 ++ x.1) × IsItem x.0 × Fits x.0
unfolding item_at
item_back bytes x fits short e =
    let a = some_next (key_at bytes) (λ key. number_at w64 key.1 >>= λ len. split_off len.0 len.1 >>= λ text. row_of text.0 >>= λ row. Some (record { key = key.0; row = row }, text.1)) x e in
    let b = some_next (number_at w64 a.0.1) (λ len. split_off len.0 len.1 >>= λ text. row_of text.0 >>= λ row. Some (record { key = a.0.0; row = row }, text.1)) x a.2 in
    let c = some_next (split_off b.0.0 b.0.1) (λ text. row_of text.0 >>= λ row. Some (record { key = a.0.0; row = row }, text.1)) x b.2 in
    let d = some_next (row_of c.0.0) (λ row. Some (record { key = a.0.0; row = row }, c.0.1)) x c.2 in
    let g = some_if (nat_le b.0.0 (length b.0.1)) (take b.0.0 b.0.1, drop b.0.0 b.0.1) c.0 c.1 in
    let ta = key_back bytes a.0 fits a.1 in
    let tb = (numbers w64 (2 ^ 64) wide64).back a.0.1 b.0 ta.0.rest_fits b.1 in
    let cut : Takes b.0.1 c.0.0 c.0.1 = subst (λ (y : List ℕ × List ℕ). Takes b.0.1 y.0 y.1) g.1 (taken b.0.0 b.0.1 tb.0.rest_fits) in
    let row = row_back c.0.0 d.0 cut.text_fits d.1 in
    let long : b.0.0 ≤ length b.0.1 = leb-true _ _ g.0 in
    let len : length (row_text d.0) ≡ b.0.0 = ap length (sym row.0) ∙ ap (λ (y : List ℕ × List ℕ). length y.0) (sym g.1) ∙ omega (arith, long, length-take b.0.0 b.0.1) in
    let tc : Takes b.0.1 (row_text d.0) c.0.1 = subst (λ (t : List ℕ). Takes b.0.1 t c.0.1) row.0 cut in
    let ub = Takes-then a.0.1 (fixed w64 b.0.0) b.0.1 (row_text d.0) c.0.1 tb.0 tc in
    let vb : Takes a.0.1 (fixed w64 (length (row_text d.0)) ++ row_text d.0) c.0.1 = subst (λ (n : ℕ). Takes a.0.1 (fixed w64 n ++ row_text d.0) c.0.1) (sym len) ub in
    let ua = Takes-then bytes (key_text a.0.0) a.0.1 (fixed w64 (length (row_text d.0)) ++ row_text d.0) c.0.1 ta.0 vb in
    let made : RunItem = record { key = a.0.0; row = d.0 } in
    let parts : bytes ≡ item_text made ++ c.0.1 = ua.parts ∙ ap (λ (t : List ℕ). t ++ c.0.1) (sym (item_parts made)) in
    let total : length (item_text made) < 2 ^ 64 = omega (arith, short, ap length parts, length-append (item_text made) c.0.1) in
    let attributes = unsized d.0.attributes row.1.attributes in
    let is : IsItem made = record { tile = ta.1.tile; layer = ta.1.layer; known = (row.1.known, form_of d.0.form d.0.ints row.1.known row.1.commands); form = row.1.commands; attributes = attributes.0; len = total } in
    let key : FitsKey made.key = record { tile = omega (arith, ta.1.tile); layer = omega (arith, ta.1.layer); order = ta.1.order; block = ta.1.block; index = ta.1.index; rule = ta.1.rule } in
    let types : Fits made = record { key = key; id = row.1.id; ints = row.1.ints; attributes = attributes.1 } in
    subst (λ (y : RunItem × List ℕ). (bytes ≡ item_text y.0 ++ y.1) × IsItem y.0 × Fits y.0) (some_is (made, c.0.1) x d.2) (parts, is, types)

pub item_again : (item : RunItem) (rest : List ℕ) → IsItem item → Fits item → item_at (item_text item ++ rest) ≡ Some (item, rest)
unfolding item_at
item_again item rest is fits =
    let row = row_is item is fits in
    let text = row_text item.row in
    let len = fixed w64 (length text) in
    let regrouped : item_text item ++ rest ≡ key_text item.key ++ (len ++ (text ++ rest)) = ap (λ (t : List ℕ). t ++ rest) (item_parts item) ∙ simp append_assoc in
    let long : nat_le (length text) (length (text ++ rest)) ≡ true = le-leb _ _ (omega (arith, length-append text rest)) in
    ap item_at regrouped
    ∙ rw (key_again item.key (len ++ (text ++ rest)) (key_is item is fits), (numbers w64 (2 ^ 64) wide64).again (length text) (text ++ rest) row.3, long, take_at text rest (length text) refl, drop_at text rest (length text) refl, row_again item.row row.0 row.1 row.2) refl

-- the first 30 bytes of an item are its head
pub head_again : (item : RunItem) (bytes rest : List ℕ) → IsItem item → Fits item → bytes ++ rest ≡ item_text item → length bytes ≡ 30 → head_at bytes ≡ Some (item.key, length (row_text item.row))
unfolding head_at
head_again item bytes rest is fits e thirty =
    let row = row_text item.row in
    let len = fixed w64 (length row) in
    let parts : bytes ++ rest ≡ (key_text item.key ++ len) ++ row = e ∙ item_parts item ∙ sym (append_assoc (key_text item.key) len row) in
    let size : length (key_text item.key ++ len) ≡ 30 = omega (arith, item_len item, ap length (item_parts item), length-append (key_text item.key) (len ++ row), length-append len row, length-append (key_text item.key) len) in
    let front : bytes ≡ key_text item.key ++ len = sym (take_at bytes rest 30 thirty) ∙ ap (take 30) parts ∙ take_at (key_text item.key ++ len) row 30 size in
    let number : number_at w64 len ≡ Some (length row, []) = ap (number_at w64) (sym (append-nil len)) ∙ (numbers w64 (2 ^ 64) wide64).again (length row) [] (row_is item is fits).3 in
    ap head_at front ∙ rw (key_again item.key len (key_is item is fits), number) refl

-- an item that was read stands at its place
pub found_at : (bytes : List ℕ) (at : ℕ) (item : RunItem) (rest : List ℕ) → at ≤ length bytes → IsBytes bytes → length bytes < 2 ^ 64 → item_at (drop at bytes) ≡ Some (item, rest)
    → StandsAt bytes at item (length bytes - length rest) × IsItem item × Fits item
found_at bytes at item rest le fits short e =
    let back = item_back (drop at bytes) (item, rest) (IsBytes-drop at bytes fits) (omega (arith, short, length-drop at bytes)) e in
    let whole_bytes : bytes ≡ take at bytes ++ (item_text item ++ rest) = sym (take-append-drop at bytes) ∙ ap (λ (t : List ℕ). take at bytes ++ t) back.0 in
    let front : at ≡ length (take at bytes) = omega (arith, le, length-take at bytes) in
    let next : length bytes - length rest ≡ at + length (item_text item) =
    omega (arith, le, length-drop at bytes, ap length back.0, length-append (item_text item) rest) in
    ((take at bytes, rest, whole_bytes, front, next), back.1, back.2)

-- and what stands there is read
pub read_there : (bytes : List ℕ) (at : ℕ) (item : RunItem) (next : ℕ) → IsItem item → Fits item → StandsAt bytes at item next → (rest : List ℕ) × (item_at (drop at bytes) ≡ Some (item, rest)) × (length bytes ≡ next + length rest)
read_there bytes at item next is fits (front, behind, parts, place, end) =
    let dropped : drop at bytes ≡ item_text item ++ behind = rw (place, parts) (drop-append_seam front (item_text item ++ behind)) in (
      behind,
      ap item_at dropped ∙ item_again item behind is fits,
      omega (arith, end, place, ap length parts, length-append front (item_text item ++ behind), length-append (item_text item) behind),
    )

-- an item is read in one way
abbrev nothing : Option (RunItem × List ℕ)
nothing = None

abbrev given : RunItem × List ℕ → Option (RunItem × List ℕ)
given y = Some y

abbrev is_nothing : Option (RunItem × List ℕ) → Type 0
is_nothing None = ⊤
is_nothing (Some y) = ⊥

none_is_not_some : (y : RunItem × List ℕ) → nothing ≡ given y → ⊥
none_is_not_some y e = subst (λ (o : Option (RunItem × List ℕ)). is_nothing o) e tt

abbrev pub Found : Type 0
Found = RunItem × ℕ

abbrev pub found_is : Found → Found → Type 0
found_is x y = x ≡ y

pub one_item : (a b : RunItem) (r s : List ℕ) (len n : ℕ) (read : Option (RunItem × List ℕ)) → read ≡ Some (a, r) → read ≡ Some (b, s) → len ≡ n + length s → found_is (a, len - length r) (b, n)
one_item a b r s len n read first second total =
    let number : len - length s ≡ n = omega (arith, total) in
    ap (λ (p : RunItem × List ℕ). (p.0, len - length p.1)) (some_is (a, r) (b, s) (sym first ∙ second)) ∙ ap (λ (k : ℕ). (b, k)) number

-- where nothing is read nothing stands
pub nothing_read : (x : Found) (y : RunItem × List ℕ) (read : Option (RunItem × List ℕ)) (found : Option Found) → read ≡ None → read ≡ Some y → found ≡ Some x
nothing_read x y read found none some = absurd (apart read none some)
  where
    apart : (r : Option (RunItem × List ℕ)) → r ≡ None → r ≡ Some y → ⊥
    apart None none some = none_is_not_some y some
    apart (Some z) none some = none_is_not_some z (sym none)

pub stand_apart : ItemsStandApart
stand_apart a b x y ia fa ib fb e =
    let same = some_is (a, x) (b, y) (sym (item_again a x ia fa) ∙ ap item_at e ∙ item_again b y ib fb) in
    (ap (λ (p : RunItem × List ℕ). p.0) same, ap (λ (p : RunItem × List ℕ). p.1) same)
