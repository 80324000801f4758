-- Rows are counted where they could be read.
use Rattle.std.proofs.Common.{◌≡◌, ℕ, zero, suc, ◌+◌, ◌<◌, ◌==◌, ◌||◌, ◌&&◌, nat_lt, Bool, true, false, not, cond, Option, None, Some, is_some, Result, Ok, List, [], ◌∷◌, ◌++◌, length, drop, get_or, refl, sym, ap, subst, ◌∙◌, arith, true≢false, ◌≤◌, inl, inr}
use Rattle.std.specs.Prelude.{slice_get}
use Rattle.std.specs.List.{list_any}
use Rattle.std.specs.Str.{bytes_eq}
use Rattle.std.proofs.lemmas.Bool.{lt-ltb, le-ltb, cases_lt}
use Rattle.std.proofs.lemmas.List.{drop_more, map-append, length-map}
use Rattle.std.proofs.lemmas.List.Sums.{sum_by-append}
use Rattle.std.proofs.Math.ListN.{drop_of_length-le}
use Rattle.tb_types.specs.declared.attribute.Attr.{Attr}
use Rattle.tb_types.specs.declared.attribute.AttrValue.{AttrValue}
use Rattle.mvt_geom.specs.Options.{◌>>=◌}
use Rattle.mvt_geom.specs.Commands.{has_form}
use Rattle.tb_wire.specs.Field.{Entry}
use Rattle.mvt_codec.specs.declared.row.TileRow.{TileRow}
use Rattle.mvt_codec.specs.declared.row.LayerRows.{LayerRows}
use Rattle.mvt_codec.specs.declared.fault.Fault.{Fault}
use Rattle.mvt_codec.specs.declared.fault.Fault.TheVariants as faults
use Rattle.mvt_codec.specs.Messages.{said_from, bytes_in}
use Rattle.mvt_codec.specs.Grammar.{Feature, Layer, no_layer, note_layer, attributes_at, row_with, row_of, row_in, rows_in, rows_of, layer_in, names_of, has_name, behind_others, note_tile}
use Rattle.mvt_codec.specs.Growth.{with_use}
use Rattle.mvt_codec.specs.Reading.{IsFault}
use Rattle.mvt_codec.specs.Counting.{are_tags, rows_in_all, HasCount, AreCounted, IsCount}

-- tags two at a time
two_more : (tags : List ℕ) (at : ℕ) → at + 1 < length tags → drop at tags ≡ get_or tags at 0 ∷ get_or tags (at + 1) 0 ∷ drop (at + 2) tags
two_more tags at h =
    let place : at + 1 + 1 ≡ at + 2 = omega arith in
    drop_more tags at 0 (omega (arith, h)) ∙ ap (λ l. get_or tags at 0 ∷ l) (drop_more tags (at + 1) 0 h ∙ ap (λ n. get_or tags (at + 1) 0 ∷ drop n tags) place)

pub tags-step : (keys values : ℕ) (tags : List ℕ) (at : ℕ) → at + 1 < length tags → nat_lt (get_or tags at 0) keys ≡ true → nat_lt (get_or tags (at + 1) 0) values ≡ true
    → are_tags keys values (drop at tags) ≡ are_tags keys values (drop (at + 2) tags)
tags-step keys values tags at h key value =
    ap (are_tags keys values) (two_more tags at h) ∙ ap (λ b. b && (nat_lt (get_or tags (at + 1) 0) values && are_tags keys values (drop (at + 2) tags))) key
    ∙ ap (λ b. b && are_tags keys values (drop (at + 2) tags)) value

pub tags-key : (keys values : ℕ) (tags : List ℕ) (at : ℕ) → at + 1 < length tags → nat_lt (get_or tags at 0) keys ≡ false → are_tags keys values (drop at tags) ≡ false
tags-key keys values tags at h key = ap (are_tags keys values) (two_more tags at h) ∙ ap (λ b. b && (nat_lt (get_or tags (at + 1) 0) values && are_tags keys values (drop (at + 2) tags))) key

both-false : (a : Bool) → (a && false) ≡ false
both-false true = refl
both-false false = refl

pub tags-value : (keys values : ℕ) (tags : List ℕ) (at : ℕ) → at + 1 < length tags → nat_lt (get_or tags (at + 1) 0) values ≡ false → are_tags keys values (drop at tags) ≡ false
tags-value keys values tags at h value =
    ap (are_tags keys values) (two_more tags at h) ∙ ap (λ b. nat_lt (get_or tags at 0) keys && (b && are_tags keys values (drop (at + 2) tags))) value ∙ both-false (nat_lt (get_or tags at 0) keys)

pub tags-odd : (keys values : ℕ) (tags : List ℕ) (at : ℕ) → at + 1 ≡ length tags → are_tags keys values (drop at tags) ≡ false
tags-odd keys values tags at h =
    let one : drop at tags ≡ get_or tags at 0 ∷ [] = drop_more tags at 0 (omega (arith, h)) ∙ ap (λ l. get_or tags at 0 ∷ l) (drop_of_length-le tags (omega (arith, h))) in
    ap (are_tags keys values) one

-- a place is there below the length
below : {A : Type 0} (xs : List A) (i : ℕ) → i < length xs → is_some (slice_get xs i) ≡ true
below [] i h = absurd (omega (arith, h))
below (x ∷ xs) zero h = refl
below (x ∷ xs) (suc i) h = below xs i (omega (arith, h))

past : {A : Type 0} (xs : List A) (i : ℕ) → length xs ≤ i → is_some (slice_get xs i) ≡ false
past [] i h = refl
past (x ∷ xs) zero h = absurd (omega (arith, h))
past (x ∷ xs) (suc i) h = past xs i (omega (arith, h))

there : {A : Type 0} (xs : List A) (i : ℕ) → is_some (slice_get xs i) ≡ nat_lt i (length xs)
there xs i = elim (cases_lt i (length xs)) [ inl lt ↦ below xs i lt ∙ sym (lt-ltb _ _ lt) | inr ge ↦ past xs i ge ∙ sym (le-ltb _ _ ge) ]

module _ (keys : List (List ℕ)) (values : List AttrValue) where
  -- tags that lie inside have attributes
  either : (name : Option (List ℕ)) (value : Option AttrValue) (tags : List ℕ) → is_some (attributes_at keys values tags) ≡ are_tags (length keys) (length values) tags
      → is_some ((name >>= λ n. value >>= λ v. Some (record { name = n; value = v })) >>= λ a. attributes_at keys values tags >>= λ later. Some (a ∷ later))
      ≡ (is_some name && (is_some value && are_tags (length keys) (length values) tags))
  either None value tags rest = refl
  either (Some n) None tags rest = refl
  either (Some n) (Some v) tags rest = more (record { name = n; value = v }) (attributes_at keys values tags) ∙ rest
    where
      more : {A : Type 0} (a : A) (r : Option (List A)) → is_some (r >>= λ later. Some (a ∷ later)) ≡ is_some r
      more a None = refl
      more a (Some later) = refl

  pub tags-there : (tags : List ℕ) → is_some (attributes_at keys values tags) ≡ are_tags (length keys) (length values) tags
  tags-there [] = refl
  tags-there (key ∷ []) = refl
  tags-there (key ∷ value ∷ tags) =
      either (slice_get keys key) (slice_get values value) tags (tags-there tags) ∙ (λ i. there keys key i && (there values value i && are_tags (length keys) (length values) tags))

  -- a feature is a row where its integers have their form and its tags lie inside
  if_form : (b : Bool) (f : Feature) → is_some {T = TileRow} (cond b (attributes_at keys values f.tags >>= λ attributes. Some (row_with f attributes)) None)
      ≡ (b && are_tags (length keys) (length values) f.tags)
  if_form true f = one (attributes_at keys values f.tags) ∙ tags-there f.tags
    where
      one : (r : Option (List Attr)) → is_some {T = TileRow} (r >>= λ attributes. Some (row_with f attributes)) ≡ is_some r
      one None = refl
      one (Some attributes) = refl
  if_form false f = refl

  pub row-there : (f : Feature) (b : Bool) → b ≡ (has_form f.form f.ints && are_tags (length keys) (length values) f.tags) → b ≡ is_some (row_of keys values f)
  row-there f b e = e ∙ sym (if_form (has_form f.form f.ints) f)

  -- rows one after another
  rows-found : (r : Option TileRow) (features : List (List ℕ)) → is_some r ≡ true → is_some (r >>= λ row. rows_in keys values features >>= λ later. Some (row ∷ later)) ≡ is_some (rows_in keys values features)
  rows-found None features e = absurd (true≢false (sym e))
  rows-found (Some row) features e = more (rows_in keys values features)
    where
      more : (r : Option (List TileRow)) → is_some (r >>= λ later. Some (row ∷ later)) ≡ is_some r
      more None = refl
      more (Some later) = refl

  pub rows-step : (bytes : List ℕ) (features : List (List ℕ)) → is_some (row_in keys values bytes) ≡ true → is_some (rows_in keys values (bytes ∷ features)) ≡ is_some (rows_in keys values features)
  rows-step bytes features e = rows-found (row_in keys values bytes) features e

  pub none : {A : Type 0} (r : Option A) → is_some r ≡ false → r ≡ None
  none None e = refl
  none (Some x) e = absurd (true≢false e)

  pub rows-bad : (bytes : List ℕ) (features all : List (List ℕ)) (e : Fault) → is_some (rows_in keys values (bytes ∷ features)) ≡ is_some (rows_in keys values all) → IsFault e (row_in keys values bytes)
      → IsFault e (rows_in keys values all)
  rows-bad bytes features all faults.Bad same h = none (rows_in keys values all) (sym same ∙ ap (λ r. is_some (r >>= λ row. rows_in keys values features >>= λ later. Some (row ∷ later))) h)
  rows-bad bytes features all faults.Memory same h = tt

  -- they are as many as the features
  counted-in : (features : List (List ℕ)) (rows : List TileRow) → rows_in keys values features ≡ Some rows → length rows ≡ length features
  counted-in [] rows e = let same : rows ≡ [] = cc in ap length same
  counted-in (bytes ∷ features) rows e = with_first (row_in keys values bytes) (rows_in keys values features) rows (counted-in features) e
    where
      with_first : (r : Option TileRow) (later : Option (List TileRow)) (rows : List TileRow) → ((rest : List TileRow) → later ≡ Some rest → length rest ≡ length features)
          → (r >>= λ row. later >>= λ rest. Some (row ∷ rest)) ≡ Some rows → length rows ≡ suc (length features)
      with_first None later rows more e = absurd (cc)
      with_first (Some row) None rows more e = absurd (cc)
      with_first (Some row) (Some rest) rows more e = let same : row ∷ rest ≡ rows = cc in ap length (sym same) ∙ ap suc (more rest refl)

  pub rows-counted : (features : List (List ℕ)) → is_some (rows_in keys values features) ≡ true → (rows : List TileRow) × (rows_in keys values features ≡ Some rows) × (length rows ≡ length features)
  rows-counted features e = found (rows_in keys values features) refl e
    where
      found : (r : Option (List TileRow)) → rows_in keys values features ≡ r → is_some r ≡ true → (rows : List TileRow) × (rows_in keys values features ≡ Some rows) × (length rows ≡ length features)
      found None same e = absurd (true≢false (sym e))
      found (Some rows) same e = (rows, same, counted-in features rows same)

-- a layer whose features are rows
pub layer-counted : (bytes : List ℕ) (l : Layer) (name : List ℕ) (n : ℕ) → said_from note_layer no_layer bytes 0 ≡ Some l → ((l.version == 1) || (l.version == 2)) ≡ true → l.name ≡ Some name
    → is_some (rows_in l.keys l.values l.features) ≡ true → n ≡ length l.features → (layer : LayerRows) × (layer_in bytes ≡ Some layer) × HasCount layer name n
layer-counted bytes l name n said known named rows many =
    let found = rows-counted l.keys l.values l.features rows in
    let layer : LayerRows = record { name = name; extent = l.extent; rows = found.0 } in
    let read : rows_of l ≡ Some layer = rw (known, named, found.1) refl in
    (layer, ap (λ r. r >>= rows_of) said ∙ read, record { named = refl; counted = found.2 ∙ sym many })

pub layer-bad : (bytes : List ℕ) (l : Layer) → said_from note_layer no_layer bytes 0 ≡ Some l → rows_of l ≡ None → layer_in bytes ≡ None
layer-bad bytes l said bad = ap (λ r. r >>= rows_of) said ∙ bad

pub layer-fault : (bytes : List ℕ) (l : Layer) (name : List ℕ) (e : Fault) → said_from note_layer no_layer bytes 0 ≡ Some l → ((l.version == 1) || (l.version == 2)) ≡ true → l.name ≡ Some name
    → IsFault e (rows_in l.keys l.values l.features) → IsFault e (layer_in bytes)
layer-fault bytes l name faults.Bad said known named bad = layer-bad bytes l said (rw (known, named, bad) refl)
layer-fault bytes l name faults.Memory said known named bad = tt

pub layer-unsaid : (bytes : List ℕ) (e : Fault) → IsFault e (said_from note_layer no_layer bytes 0) → IsFault e (layer_in bytes)
layer-unsaid bytes faults.Bad bad = ap (λ r. r >>= rows_of) bad
layer-unsaid bytes faults.Memory bad = tt

-- a layer of a new name behind others
pub tile-counted : (layers : List LayerRows) (f : Entry) (bytes name : List ℕ) (names : List (List ℕ)) (n : ℕ) (layer : LayerRows) → (f.number == 3) ≡ true → bytes_in f.value ≡ Some bytes
    → layer_in bytes ≡ Some layer → HasCount layer name n → list_any (bytes_eq name) (names_of layers) ≡ false → names ≡ names_of layers ++ name ∷ []
    → (now : List LayerRows) × (note_tile layers f ≡ Some now) × AreCounted now names (rows_in_all layers + n)
tile-counted layers f bytes name names n layer is_layer has read count new added =
    let fresh : has_name layer.name layers ≡ false = ap (λ x. list_any (bytes_eq x) (names_of layers)) count.named ∙ new in
    let behind : behind_others layers layer ≡ Some (layers ++ layer ∷ []) = rw fresh refl in (
      layers ++ layer ∷ [],
      rw is_layer (ap (λ r. r >>= layer_in >>= behind_others layers) has ∙ ap (λ r. r >>= behind_others layers) read ∙ behind),
      record {
        named = added ∙ ap (λ x. names_of layers ++ x ∷ []) (sym count.named) ∙ sym (map-append (λ (l : LayerRows). l.name) layers (layer ∷ []));
        counted = ap (λ x. rows_in_all layers + x) (sym count.counted) ∙ sym (sum_by-append (λ (l : LayerRows). length l.rows) layers (layer ∷ []) ∙ omega arith);
      },
    )

pub tile-known : (layers : List LayerRows) (f : Entry) (bytes name : List ℕ) (n : ℕ) (layer : LayerRows) → (f.number == 3) ≡ true → bytes_in f.value ≡ Some bytes
    → layer_in bytes ≡ Some layer → HasCount layer name n → list_any (bytes_eq name) (names_of layers) ≡ true → note_tile layers f ≡ None
tile-known layers f bytes name n layer is_layer has read count known =
    let old : has_name layer.name layers ≡ true = ap (λ x. list_any (bytes_eq x) (names_of layers)) count.named ∙ known in
    let behind : behind_others layers layer ≡ None = rw old refl in
    rw is_layer (ap (λ r. r >>= layer_in >>= behind_others layers) has ∙ ap (λ r. r >>= behind_others layers) read ∙ behind)

pub tile-fault : (layers : List LayerRows) (f : Entry) (bytes : List ℕ) (e : Fault) → (f.number == 3) ≡ true → bytes_in f.value ≡ Some bytes → IsFault e (layer_in bytes) → IsFault e (note_tile layers f)
tile-fault layers f bytes faults.Bad is_layer has bad = rw is_layer (ap (λ r. r >>= layer_in >>= behind_others layers) has ∙ ap (λ r. r >>= behind_others layers) bad)
tile-fault layers f bytes faults.Memory is_layer has bad = tt

pub tile-number : (layers : List LayerRows) (f : Entry) (e : Fault) → (f.number == 3) ≡ true → IsFault e (bytes_in f.value) → IsFault e (note_tile layers f)
tile-number layers f faults.Bad is_layer bad = rw is_layer (ap (λ r. r >>= layer_in >>= behind_others layers) bad)
tile-number layers f faults.Memory is_layer bad = tt

-- the layers so far, their names and rows, after a field
pub counted-more : (layers now : List LayerRows) (names : List (List ℕ)) (rows n sum : ℕ) → rows ≡ rows_in_all layers → AreCounted now names (rows_in_all layers + n) → sum ≡ rows + n → AreCounted now names sum
counted-more layers now names rows n sum so_far counted e = record { named = counted.named; counted = e ∙ ap (λ m. m + n) so_far ∙ counted.counted }

-- a name that is new is added as the last one
pub added-new : (names now : List (List ℕ)) (name : List ℕ) → now ≡ with_use names name → list_any (bytes_eq name) names ≡ false → now ≡ names ++ name ∷ []
added-new names now name e new = e ∙ ap (λ b. cond b names (names ++ name ∷ [])) new

pub not-old : (b : Bool) → true ≡ not b → b ≡ false
not-old true e = absurd (true≢false e)
not-old false e = refl

pub is-count : (rows : ℕ) (layers : List LayerRows) (found : Result (List LayerRows) ℕ) → found ≡ Ok layers → rows ≡ rows_in_all layers → IsCount (Ok rows) found
is-count rows layers found e h = subst (IsCount (Ok rows)) (sym e) h

-- there are as many names as layers
pub names-many : (layers : List LayerRows) (names : List (List ℕ)) (rows : ℕ) → AreCounted layers names rows → length names ≡ length layers
names-many layers names rows h = ap length h.named ∙ length-map layers (λ (l : LayerRows). l.name)
