-- A tile is at most four times as long as its items, and 1,100 bytes a layer.
use Rattle.std.proofs.Common.{◌≡◌, ℕ, zero, suc, ◌+◌, ◌*◌, ◌^◌, ◌<◌, ◌≤◌, ◌==◌, nat_le, cond, Bool, true, false, List, [], ◌∷◌, ◌++◌, length, filter, map, flat_map, sum_by, refl, sym, ap, ◌∙◌, arith, inl, inr}
use Rattle.std.specs.List.{AllByRecursion}
use Rattle.std.proofs.lemmas.Bool.{cases_lt}
use Rattle.std.proofs.lemmas.Bool.Decides.{nat_tests}
use Rattle.std.proofs.lemmas.List.{length-append, length-map}
use Rattle.std.proofs.lemmas.List.Concat.{flat_map-cons, flat_map-append}
use Rattle.std.proofs.lemmas.List.Elements.{recursion_from_All}
use Rattle.std.proofs.lemmas.List.Sums.{sum_by-cons}
use Rattle.tb_wire.specs.Message.{len_text}
use Rattle.tb_wire.specs.Varint.{encoding}
use Rattle.tb_types.specs.declared.attribute.Attr.{Attr}
use Rattle.mvt_codec.specs.declared.row.TileRow.{TileRow}
use Rattle.mvt_codec.specs.declared.row.LayerRows.{LayerRows}
use Rattle.mvt_codec.specs.declared.item.RunItem.{RunItem}
use Rattle.mvt_codec.specs.Uses.{first_uses}
use Rattle.mvt_codec.specs.Value.{number_text, value_text}
use Rattle.mvt_codec.specs.Tile.{attributes_of, names_of, values_of, layer_keys, layer_values, numbers_text, id_text, tags_text, ints_text, feature_text, features_text, items_text, layer_text, written, tile_text}
use Rattle.mvt_codec.specs.Groups.{rows_of_layer, slots, layer_of, named, layers_of}
use Rattle.mvt_codec.specs.Items.{attribute_text, row_text, item_text, IsNamed, IsItem}
use Rattle.mvt_codec.specs.Sizes.{TilesAreSmall}
use Rattle.mvt_codec.proofs.ItemLengths.{item_len, row_len}
use Rattle.mvt_codec.proofs.Shorts.{len-cons, ten, one, tags, bytes_len, number_len, attributes_some, uses_len, uses_few, dictionary_len, tags_len, id_len}

-- what a row of an item is
abbrev IsRow : TileRow → Type 0
IsRow row = (row.form ≤ 3) × AllByRecursion IsNamed row.attributes

-- how long the item of a row is
abbrev weight : TileRow → ℕ
weight row = 30 + length (row_text row)

-- ---- features

feature_len : (keys values : List (List ℕ)) → length keys < 2 ^ 32 → length values < 2 ^ 32 → (row : TileRow) → IsRow row
    → length (len_text 2 (feature_text keys values row)) + (length (flat_map attribute_text row.attributes) + 2 * length row.attributes) ≤ 4 * weight row
unfolding feature_text
feature_len keys values few_keys few_values row is =
    let a = id_text row.id in
    let b = tags_text keys values row.attributes in
    let c = number_text 3 row.form in
    let d = ints_text row.ints in
    let form : row.form < 128 = omega (arith, is.0) in
    let text = ((a ++ b) ++ c) ++ d in
    omega (
      arith,
      bytes_len 2 text,
      tags.1,
      ten (length text),
      length-append ((a ++ b) ++ c) d,
      length-append (a ++ b) c,
      length-append a b,
      id_len row.id,
      tags_len keys values few_keys few_values row.attributes,
      number_len 3 row.form,
      tags.5,
      one row.form form,
      bytes_len 4 (numbers_text row.ints),
      tags.3,
      ten (length (numbers_text row.ints)),
      row_len row,
      attributes_some row.attributes is.1,
    )

abbrev more_attributes : TileRow → List TileRow → List Attr
more_attributes row rows = row.attributes ++ attributes_of rows

attributes-cons : (row : TileRow) (rows : List TileRow) → attributes_of (row ∷ rows) ≡ more_attributes row rows
attributes-cons row rows = flat_map-cons (λ (r : TileRow). r.attributes) row rows

attributes_len : (row : TileRow) (rows : List TileRow) → length (flat_map attribute_text (attributes_of (row ∷ rows))) ≡ length (flat_map attribute_text row.attributes) + length (flat_map attribute_text (attributes_of rows))
attributes_len row rows =
    ap (λ (attributes : List Attr). length (flat_map attribute_text attributes)) (attributes-cons row rows)
    ∙ ap length (flat_map-append attribute_text row.attributes (attributes_of rows))
    ∙ length-append (flat_map attribute_text row.attributes) (flat_map attribute_text (attributes_of rows))

attributes_count : (row : TileRow) (rows : List TileRow) → length (attributes_of (row ∷ rows)) ≡ length row.attributes + length (attributes_of rows)
attributes_count row rows = ap length (attributes-cons row rows) ∙ length-append row.attributes (attributes_of rows)

rows_len : (keys values : List (List ℕ)) → length keys < 2 ^ 32 → length values < 2 ^ 32 → (rows : List TileRow) → AllByRecursion IsRow rows
    → length (features_text keys values rows) + (length (flat_map attribute_text (attributes_of rows)) + 2 * length (attributes_of rows)) ≤ 4 * sum_by weight rows
rows_len keys values few_keys few_values [] is = omega arith
rows_len keys values few_keys few_values (row ∷ rows) is =
    let here = feature_len keys values few_keys few_values row is.0 in
    let rest = rows_len keys values few_keys few_values rows is.1 in
    omega (arith, len-cons (λ (r : TileRow). len_text 2 (feature_text keys values r)) row rows, attributes_len row rows, attributes_count row rows, sum_by-cons weight row rows, here, rest)

few_attributes : (rows : List TileRow) → AllByRecursion IsRow rows → length (attributes_of rows) ≤ sum_by weight rows
few_attributes [] is = omega arith
few_attributes (row ∷ rows) is =
    let rest = few_attributes rows is.1 in
    omega (arith, attributes_count row rows, sum_by-cons weight row rows, attributes_some row.attributes is.0.1, row_len row, rest)

-- ---- layers

layer_len : (layer : LayerRows) → length layer.name ≤ 1024 → AllByRecursion IsRow layer.rows → sum_by weight layer.rows < 2 ^ 32 → length (len_text 3 (layer_text layer)) ≤ 1100 + 4 * sum_by weight layer.rows
unfolding layer_text
layer_len layer short is small =
    let attributes = attributes_of layer.rows in
    let few = few_attributes layer.rows is in
    let keys = layer_keys layer.rows in
    let values = layer_values layer.rows in
    let few_keys : length keys < 2 ^ 32 = omega (arith, uses_few (names_of attributes), length-map attributes (λ (a : Attr). a.name), few, small) in
    let few_values : length values < 2 ^ 32 = omega (arith, uses_few (values_of attributes), length-map attributes (λ (a : Attr). value_text a.value), few, small) in
    let a = len_text 1 layer.name in
    let b = features_text keys values layer.rows in
    let c = items_text 3 keys in
    let d = items_text 4 values in
    let e = number_text 5 layer.extent in
    let f = number_text 15 2 in
    let text = ((((a ++ b) ++ c) ++ d) ++ e) ++ f in
    omega (
      arith,
      bytes_len 3 text,
      tags.2,
      ten (length text),
      length-append ((((a ++ b) ++ c) ++ d) ++ e) f,
      length-append (((a ++ b) ++ c) ++ d) e,
      length-append ((a ++ b) ++ c) d,
      length-append (a ++ b) c,
      length-append a b,
      bytes_len 1 layer.name,
      tags.0,
      ten (length layer.name),
      short,
      rows_len keys values few_keys few_values layer.rows is,
      uses_len (len_text 3) (names_of attributes),
      uses_len (len_text 4) (values_of attributes),
      dictionary_len attributes,
      number_len 5 layer.extent,
      ten (5 * 8),
      ten layer.extent,
      number_len 15 2,
      ten (15 * 8),
      ten 2,
    )

one_layer : (name : List ℕ) (rows : List TileRow) → length name ≤ 1024 → AllByRecursion IsRow rows → sum_by weight rows < 2 ^ 32 → length (tile_text (layer_of name rows)) ≤ 1100 + 4 * sum_by weight rows
one_layer name [] short is small = omega arith
one_layer name (row ∷ rows) short is small =
    let layer : LayerRows = record { name = name; extent = 4096; rows = row ∷ rows } in
    omega (arith, len-cons (λ (l : LayerRows). written l l.rows) layer [], layer_len layer short is small)

-- ---- items

abbrev item_weight : RunItem → ℕ
item_weight item = weight item.row

-- those of the layers from one on
abbrev later : ℕ → List RunItem → List RunItem
later number items = filter (λ item. nat_le number item.key.layer) items

-- those of one layer and those of the layers behind it
parted : (number : ℕ) (items : List RunItem) → sum_by weight (rows_of_layer number items) + sum_by item_weight (later (number + 1) items) ≤ sum_by item_weight (later number items)
parted number [] = omega arith
parted number (item ∷ items) =
    let rest = parted number items in
    elim (cases_lt item.key.layer number) [
      | inl below ↦
          let e : (item.key.layer == number) ≡ false = grind (arith, nat_tests) in
          let f : nat_le (number + 1) item.key.layer ≡ false = grind (arith, nat_tests) in
          let g : nat_le number item.key.layer ≡ false = grind (arith, nat_tests) in
          rw (e, f, g) rest
      | inr from ↦
          elim (cases_lt number item.key.layer) [
            | inl above ↦
                let e : (item.key.layer == number) ≡ false = grind (arith, nat_tests) in
                let f : nat_le (number + 1) item.key.layer ≡ true = grind (arith, nat_tests) in
                let g : nat_le number item.key.layer ≡ true = grind (arith, nat_tests) in
                rw (e, f, g) (omega (arith, sum_by-cons item_weight item (later (number + 1) items), sum_by-cons item_weight item (later number items), rest))
            | inr upto ↦
                let e : (item.key.layer == number) ≡ true = grind (arith, nat_tests) in
                let f : nat_le (number + 1) item.key.layer ≡ false = grind (arith, nat_tests) in
                let g : nat_le number item.key.layer ≡ true = grind (arith, nat_tests) in
                rw (e, f, g) (omega (arith, sum_by-cons weight item.row (rows_of_layer number items), sum_by-cons item_weight item (later number items), rest))
          ]
    ]

later_len : (number : ℕ) (items : List RunItem) → sum_by item_weight (later number items) ≤ sum_by item_weight items
later_len number [] = omega arith
later_len number (item ∷ items) = by (nat_le number item.key.layer) (later_len number items)
  where
    by : (t : Bool) → sum_by item_weight (later number items) ≤ sum_by item_weight items → sum_by item_weight (cond t (item ∷ later number items) (later number items)) ≤ sum_by item_weight (item ∷ items)
    by true rest = omega (arith, sum_by-cons item_weight item (later number items), sum_by-cons item_weight item items, rest)
    by false rest = omega (arith, sum_by-cons item_weight item items, rest)

rows_are : (number : ℕ) (items : List RunItem) → AllByRecursion IsItem items → AllByRecursion IsRow (rows_of_layer number items)
rows_are number [] is = tt
rows_are number (item ∷ items) is = by (item.key.layer == number) (rows_are number items is.1)
  where
    by : (t : Bool) → AllByRecursion IsRow (rows_of_layer number items) → AllByRecursion IsRow (map (λ (x : RunItem). x.row) (cond t (item ∷ filter (λ x. x.key.layer == number) items) (filter (λ x. x.key.layer == number) items)))
    by true rest = ((is.0.known.1, is.0.attributes), rest)
    by false rest = rest

layers_len : (names : List (List ℕ)) (number : ℕ) (items : List RunItem) → AllByRecursion (λ (name : List ℕ). length name ≤ 1024) names → AllByRecursion IsItem items → sum_by item_weight items < 2 ^ 32
    → length (tile_text (named names (slots number (length names) items))) ≤ 1100 * length names + 4 * sum_by item_weight (later number items)
layers_len [] number items short is small = omega arith
layers_len (name ∷ names) number items short is small =
    let rows = rows_of_layer number items in
    let others = named names (slots (number + 1) (length names) items) in
    let parts = parted number items in
    let all = later_len number items in
    let few : sum_by weight rows < 2 ^ 32 = omega (arith, parts, all, small) in
    let here = one_layer name rows short.0 (rows_are number items is) few in
    let rest = layers_len names (number + 1) items short.1 is small in
    let joined : length (tile_text (layer_of name rows ++ others)) ≡ length (tile_text (layer_of name rows)) + length (tile_text others) =
    ap length (flat_map-append (λ (l : LayerRows). written l l.rows) (layer_of name rows) others) ∙ length-append (tile_text (layer_of name rows)) (tile_text others) in
    omega (arith, joined, here, rest, parts)

bytes_sum : (items : List RunItem) → length (flat_map item_text items) ≡ sum_by item_weight items
bytes_sum [] = refl
bytes_sum (item ∷ items) = omega (arith, len-cons item_text item items, sum_by-cons item_weight item items, item_len item, bytes_sum items)

pub tiles_are_small : TilesAreSmall
unfolding layers_of
tiles_are_small names items is short small =
    let sum = bytes_sum items in
    let few : sum_by item_weight items < 2 ^ 32 = omega (arith, sum, small) in
    omega (arith, sum, later_len 0 items, layers_len names 0 items (recursion_from_All _ names short) (recursion_from_All _ items is) few)
