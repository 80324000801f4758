-- A layer that is written is read again.
use Rattle.std.proofs.Common.{◌≡◌, ℕ, All, zero, suc, ◌^◌, ◌<◌, ◌||◌, Bool, true, false, Some, List, [], ◌∷◌, ◌++◌, map, flat_map, length, refl, sym, ap, subst, ◌∙◌, arith, length-append, true≢false}
use Rattle.std.specs.Prelude.{slice_get, option_map, unwrap_or}
use Rattle.std.specs.List.{list_any}
use Rattle.std.specs.Str.{bytes_eq, is_utf8}
use Rattle.std.proofs.lemmas.List.Elements.{All-nil, All-cons, All-head, All-tail, All-append, All-map}
use Rattle.std.proofs.lemmas.Slice.Eq.{bytes_eq-Decides}
use Rattle.tb_types.specs.declared.attribute.Attr.{Attr}
use Rattle.tb_types.specs.declared.attribute.AttrValue.{AttrValue}
use Rattle.tb_types.specs.declared.attribute.AttrValue.TheVariants.{Truth}
use Rattle.tb_wire.specs.Field.{number, text}
use Rattle.tb_wire.specs.Message.{len_text}
use Rattle.mvt_geom.specs.Options.{◌>>=◌}
use Rattle.mvt_codec.specs.declared.row.TileRow.{TileRow}
use Rattle.mvt_codec.specs.declared.row.LayerRows.{LayerRows}
use Rattle.mvt_codec.specs.Value.{number_text, value_text}
use Rattle.mvt_codec.specs.Uses.{place_in}
use Rattle.mvt_codec.specs.Tile.{attributes_of, names_of, values_of, layer_keys, layer_values, feature_text, features_text, items_text, layer_text, HasRoom}
use Rattle.mvt_codec.specs.Messages.{low_32}
use Rattle.mvt_codec.specs.Grammar.{value_said, Layer, no_layer, note_layer, rows_in, rows_of, layer_in}
use Rattle.mvt_codec.specs.Again.{FitsAttribute, FitsRow, FitsLayer}
use Rattle.mvt_codec.proofs.AgainFields.{field, len-field, number-field, within_len, Says, says-field, says-both, says-items, says-all}
use Rattle.mvt_codec.proofs.AgainRows.{value-again, row-again}
use Rattle.mvt_codec.proofs.AgainPlaces.{Among, found, first-used, IsUsed, all-used, tags-small, named, all-first}

-- the value of a text that is one
abbrev pub decoded : List ℕ → AttrValue
decoded t = unwrap_or (value_said t) (Truth true)

abbrev pub IsDecoded : List ℕ → Type 0
IsDecoded t = value_said t ≡ Some (decoded t)

decoded-of : (t : List ℕ) (v : AttrValue) → value_said t ≡ Some v → IsDecoded t
decoded-of t v e = e ∙ ap Some (sym (ap (λ r. unwrap_or r (Truth true)) e))

all-apply : {A : Type 0} (P Q : A → Type 0) (xs : List A) → All (λ x. P x → Q x) xs → All P xs → All Q xs
all-apply P Q [] h k = All-nil Q
all-apply P Q (x ∷ xs) h k = All-cons Q x xs (All-head (λ y. P y → Q y) x xs h (All-head P x xs k)) (all-apply P Q xs (All-tail (λ y. P y → Q y) x xs h) (All-tail P x xs k))

all-weaker : {A : Type 0} (P Q : A → Type 0) → ((x : A) → P x → Q x) → (xs : List A) → All P xs → All Q xs
all-weaker P Q f [] h = All-nil Q
all-weaker P Q f (x ∷ xs) h = All-cons Q x xs (f x (All-head P x xs h)) (all-weaker P Q f xs (All-tail P x xs h))

among-all : (P : List ℕ → Type 0) (items : List (List ℕ)) (x : List ℕ) → All P items → Among items x → P x
among-all P [] x h there = absurd (true≢false (sym there))
among-all P (i ∷ items) x h there = by (λ k. among-all P items x (All-tail P i items h) k) (bytes_eq x i) refl there
  where
    by : (Among items x → P x) → (b : Bool) → bytes_eq x i ≡ b → (b || list_any (bytes_eq x) items) ≡ true → P x
    by more true e k = subst P (sym ((bytes_eq-Decides x i).0 e)) (All-head P i items h)
    by more false e k = more k

-- the parts of a text are no longer than it
parts-fit : {A : Type 0} (put : A → List ℕ) (xs : List A) (n : ℕ) → length (flat_map put xs) < n → All (λ x. length (put x) < n) xs
parts-fit put [] n h = All-nil (λ x. length (put x) < n)
parts-fit put (x ∷ xs) n h =
    let both = length-append (put x) (flat_map put xs) in
    All-cons (λ y. length (put y) < n) x xs (omega (arith, h, both)) (parts-fit put xs n (omega (arith, h, both)))

bodies-fit : {A : Type 0} (k : ℕ) (put : A → List ℕ) (xs : List A) (n : ℕ) → length (flat_map (λ x. len_text k (put x)) xs) < n → All (λ x. length (put x) < n) xs
bodies-fit k put xs n h =
    all-weaker (λ x. length (len_text k (put x)) < n) (λ x. length (put x) < n) (λ x l. omega (arith, l, within_len k (put x))) xs (parts-fit (λ x. len_text k (put x)) xs n h)

slice_get-map : {A B : Type 0} (f : A → B) (xs : List A) (i : ℕ) → slice_get (map f xs) i ≡ option_map f (slice_get xs i)
slice_get-map f [] i = refl
slice_get-map f (x ∷ xs) zero = refl
slice_get-map f (x ∷ xs) (suc i) = slice_get-map f xs i

map-same : {A : Type 0} (xs : List A) → map (λ x. x) xs ≡ xs
map-same [] = refl
map-same (x ∷ xs) = ap (λ l. x ∷ l) (map-same xs)

sound-rows : (rows : List TileRow) → All FitsRow rows → All FitsAttribute (attributes_of rows)
sound-rows [] is = All-nil FitsAttribute
sound-rows (row ∷ rows) is =
    let one = All-head FitsRow row rows is in
    All-append FitsAttribute row.attributes (attributes_of rows) one.attributes (sound-rows rows (All-tail FitsRow row rows is))

-- a layer whose parts are sound and short enough
module _ (layer : LayerRows) (is : FitsLayer layer) (room : HasRoom layer) (fits : length (layer_text layer) < 2 ^ 64) where
  attributes-sound : All FitsAttribute (attributes_of layer.rows)
  attributes-sound = sound-rows layer.rows is.rows

  short : (length (features_text (layer_keys layer.rows) (layer_values layer.rows) layer.rows) < 2 ^ 64) × (length (items_text 4 (layer_values layer.rows)) < 2 ^ 64)
  unfolding layer_text
  short =
      let a = len_text 1 layer.name in
      let b = features_text (layer_keys layer.rows) (layer_values layer.rows) layer.rows in
      let c = items_text 3 (layer_keys layer.rows) in
      let d = items_text 4 (layer_values layer.rows) in
      let e = number_text 5 layer.extent in
      let f = number_text 15 2 in
      let one = length-append (a ++ b ++ c ++ d ++ e) f in
      let two = length-append (a ++ b ++ c ++ d) e in
      let three = length-append (a ++ b ++ c) d in
      let four = length-append (a ++ b) c in
      let five = length-append a b in
      (omega (arith, fits, one, two, three, four, five), omega (arith, fits, one, two, three, four, five))

  values-short : All (λ t. length t < 2 ^ 64) (layer_values layer.rows)
  values-short = bodies-fit 4 (λ t. t) (layer_values layer.rows) (2 ^ 64) short.1

  values-decoded : All IsDecoded (layer_values layer.rows)
  values-decoded =
      let each : All (λ a. length (value_text a.value) < 2 ^ 64 → IsDecoded (value_text a.value)) (attributes_of layer.rows) =
      all-weaker FitsAttribute (λ a. length (value_text a.value) < 2 ^ 64 → IsDecoded (value_text a.value)) (λ a one short. decoded-of (value_text a.value) a.value (value-again a.value short one.value)) (attributes_of layer.rows) attributes-sound in
      all-apply (λ t. length t < 2 ^ 64) IsDecoded (layer_values layer.rows)
      (all-first (λ t. length t < 2 ^ 64 → IsDecoded t) (values_of (attributes_of layer.rows)) (All-map (λ t. length t < 2 ^ 64 → IsDecoded t) (λ (a : Attr). value_text a.value) (attributes_of layer.rows) each)) values-short

  keys-text : All (λ k. is_utf8 k ≡ true) (layer_keys layer.rows)
  keys-text =
      all-first (λ k. is_utf8 k ≡ true) (names_of (attributes_of layer.rows)) (All-map (λ k. is_utf8 k ≡ true) (λ (a : Attr). a.name) (attributes_of layer.rows) (all-weaker FitsAttribute (λ a. is_utf8 a.name ≡ true) (λ a one. one.name) (attributes_of layer.rows) attributes-sound))

  abbrev IsThere : Attr → Type 0
  IsThere a = slice_get (map decoded (layer_values layer.rows)) (place_in (layer_values layer.rows) (value_text a.value)) ≡ Some a.value

  there-one : (a : Attr) → IsUsed (attributes_of layer.rows) a → FitsAttribute a → IsThere a
  there-one a one sound =
      let vt = value_text a.value in
      let among = first-used (values_of (attributes_of layer.rows)) vt one.value in
      let short_one : length vt < 2 ^ 64 = among-all (λ t. length t < 2 ^ 64) (layer_values layer.rows) vt values-short among in
      let is_value : value_said vt ≡ Some a.value = value-again a.value short_one sound.value in
      let same : Some (decoded vt) ≡ Some a.value = sym (decoded-of vt a.value is_value) ∙ is_value in
      slice_get-map decoded (layer_values layer.rows) (place_in (layer_values layer.rows) vt) ∙ ap (option_map decoded) (found (layer_values layer.rows) vt among) ∙ same

  there-all : (attributes : List Attr) → All (IsUsed (attributes_of layer.rows)) attributes → All FitsAttribute attributes → All IsThere attributes
  there-all [] used sound = All-nil IsThere
  there-all (a ∷ attributes) used sound =
      All-cons IsThere a attributes (there-one a (All-head (IsUsed (attributes_of layer.rows)) a attributes used) (All-head FitsAttribute a attributes sound))
      (there-all attributes (All-tail (IsUsed (attributes_of layer.rows)) a attributes used) (All-tail FitsAttribute a attributes sound))

  rows-again : (rows : List TileRow) → All (λ row. All (IsUsed (attributes_of layer.rows)) row.attributes) rows → All FitsRow rows → All (λ row. length (feature_text (layer_keys layer.rows) (layer_values layer.rows) row) < 2 ^ 64) rows
      → rows_in (layer_keys layer.rows) (map decoded (layer_values layer.rows)) (map (feature_text (layer_keys layer.rows) (layer_values layer.rows)) rows) ≡ Some rows
  rows-again [] used sound fit = refl
  rows-again (row ∷ rows) used sound fit =
      let uses : All (IsUsed (attributes_of layer.rows)) row.attributes = All-head (λ r. All (IsUsed (attributes_of layer.rows)) r.attributes) row rows used in
      let one = All-head FitsRow row rows sound in
      let small = tags-small (attributes_of layer.rows) row.attributes uses room.0 room.1 in
      let names = named (attributes_of layer.rows) (map decoded (layer_values layer.rows)) row.attributes uses (there-all row.attributes uses one.attributes) in
      let first = row-again (layer_keys layer.rows) (layer_values layer.rows) (map decoded (layer_values layer.rows)) row (All-head (λ r. length (feature_text (layer_keys layer.rows) (layer_values layer.rows) r) < 2 ^ 64) row rows fit) one small names in
      let rest = rows-again rows (All-tail (λ r. All (IsUsed (attributes_of layer.rows)) r.attributes) row rows used) (All-tail FitsRow row rows sound) (All-tail (λ r. length (feature_text (layer_keys layer.rows) (layer_values layer.rows) r) < 2 ^ 64) row rows fit) in
      rw (first, rest) refl

  -- the parts of a layer, one after another
  abbrev with_features : List (List ℕ) → Layer
  with_features features = record { name = Some layer.name; features = features; keys = []; values = []; extent = 4096; version = 0 }

  abbrev features_of : List (List ℕ)
  features_of = map (feature_text (layer_keys layer.rows) (layer_values layer.rows)) layer.rows

  abbrev with_keys : List (List ℕ) → Layer
  with_keys keys = record { name = Some layer.name; features = features_of; keys = keys; values = []; extent = 4096; version = 0 }

  abbrev with_values : List AttrValue → Layer
  with_values values = record { name = Some layer.name; features = features_of; keys = layer_keys layer.rows; values = values; extent = 4096; version = 0 }

  abbrev with_extent : ℕ → Layer
  with_extent extent = record { name = Some layer.name; features = features_of; keys = layer_keys layer.rows; values = map decoded (layer_values layer.rows); extent = extent; version = 0 }

  abbrev whole : Layer
  whole = record { name = Some layer.name; features = features_of; keys = layer_keys layer.rows; values = map decoded (layer_values layer.rows); extent = layer.extent; version = 2 }

  name-says : Says note_layer no_layer (len_text 1 layer.name) (with_features [])
  unfolding note_layer
  name-says = let utf8 = is.name in says-field note_layer no_layer (with_features []) _ (field 1 (text layer.name)) (len-field 1 layer.name (omega arith) (omega arith)) (λ _. rw utf8 refl)

  feature-says : (features : List (List ℕ)) (row : TileRow) → FitsRow row
      → Says note_layer (with_features features) (len_text 2 (feature_text (layer_keys layer.rows) (layer_values layer.rows) row)) (with_features (features ++ feature_text (layer_keys layer.rows) (layer_values layer.rows) row ∷ []))
  unfolding note_layer
  feature-says features row one =
      let t = feature_text (layer_keys layer.rows) (layer_values layer.rows) row in
      says-field note_layer (with_features features) (with_features (features ++ t ∷ [])) _ (field 2 (text t)) (len-field 2 t (omega arith) (omega arith)) (λ _. refl)

  features-say : Says note_layer (with_features []) (features_text (layer_keys layer.rows) (layer_values layer.rows) layer.rows) (with_features features_of)
  features-say =
      says-items note_layer FitsRow (λ features. with_features features) (λ row. len_text 2 (feature_text (layer_keys layer.rows) (layer_values layer.rows) row)) (feature_text (layer_keys layer.rows) (layer_values layer.rows)) feature-says layer.rows [] is.rows

  key-says : (keys : List (List ℕ)) (k : List ℕ) → is_utf8 k ≡ true → Says note_layer (with_keys keys) (len_text 3 k) (with_keys (keys ++ k ∷ []))
  unfolding note_layer
  key-says keys k utf8 = says-field note_layer (with_keys keys) (with_keys (keys ++ k ∷ [])) _ (field 3 (text k)) (len-field 3 k (omega arith) (omega arith)) (λ _. rw utf8 refl)

  keys-say : Says note_layer (with_keys []) (items_text 3 (layer_keys layer.rows)) (with_keys (layer_keys layer.rows))
  keys-say =
      subst (λ keys. Says note_layer (with_keys []) (items_text 3 (layer_keys layer.rows)) (with_keys keys)) (map-same (layer_keys layer.rows))
      (says-items note_layer (λ k. is_utf8 k ≡ true) (λ keys. with_keys keys) (len_text 3) (λ k. k) key-says (layer_keys layer.rows) [] keys-text)

  value-says : (values : List AttrValue) (t : List ℕ) → IsDecoded t → Says note_layer (with_values values) (len_text 4 t) (with_values (values ++ decoded t ∷ []))
  unfolding note_layer
  value-says values t e =
      says-field note_layer (with_values values) (with_values (values ++ decoded t ∷ [])) _ (field 4 (text t)) (len-field 4 t (omega arith) (omega arith)) (λ _. ap (λ r. r >>= λ v. Some (with_values (values ++ v ∷ []))) e)

  values-say : Says note_layer (with_values []) (items_text 4 (layer_values layer.rows)) (with_values (map decoded (layer_values layer.rows)))
  values-say = says-items note_layer IsDecoded (λ values. with_values values) (len_text 4) decoded value-says (layer_values layer.rows) [] values-decoded

  extent-says : Says note_layer (with_extent 4096) (number_text 5 layer.extent) (with_extent layer.extent)
  unfolding note_layer
  extent-says =
      let small = is.extent in
      let same : low_32 layer.extent ≡ layer.extent = omega (arith, small) in
      says-field note_layer (with_extent 4096) (with_extent layer.extent) _ (field 5 (number layer.extent)) (number-field 5 layer.extent (omega arith) (omega arith) (omega (arith, small))) (λ _. ap (λ n. Some (with_extent n)) same)

  version-says : Says note_layer (with_extent layer.extent) (number_text 15 2) whole
  unfolding note_layer
  version-says = says-field note_layer (with_extent layer.extent) whole _ (field 15 (number 2)) (number-field 15 2 (omega arith) (omega arith) (omega arith)) (λ _. refl)

  layer-says : Says note_layer no_layer (layer_text layer) whole
  unfolding layer_text
  layer-says =
      let a = len_text 1 layer.name in
      let b = features_text (layer_keys layer.rows) (layer_values layer.rows) layer.rows in
      let c = items_text 3 (layer_keys layer.rows) in
      let d = items_text 4 (layer_values layer.rows) in
      let e = number_text 5 layer.extent in
      says-both note_layer no_layer (with_extent layer.extent) whole (a ++ b ++ c ++ d ++ e) (number_text 15 2)
      (says-both note_layer no_layer (with_values (map decoded (layer_values layer.rows))) (with_extent layer.extent) (a ++ b ++ c ++ d) e
      (says-both note_layer no_layer (with_keys (layer_keys layer.rows)) (with_values (map decoded (layer_values layer.rows))) (a ++ b ++ c) d
      (says-both note_layer no_layer (with_features features_of) (with_keys (layer_keys layer.rows)) (a ++ b) c
      (says-both note_layer no_layer (with_features []) (with_features features_of) a b name-says features-say) keys-say) values-say) extent-says) version-says

  pub layer-again : layer_in (layer_text layer) ≡ Some layer
  layer-again =
      let said = says-all note_layer no_layer whole (layer_text layer) fits layer-says in
      let rows = rows-again layer.rows (all-used layer.rows) is.rows (bodies-fit 2 (feature_text (layer_keys layer.rows) (layer_values layer.rows)) layer.rows (2 ^ 64) short.0) in
      ap (λ r. r >>= rows_of) said ∙ rw rows refl
