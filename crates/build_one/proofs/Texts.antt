-- The tile of items has bytes.
use Rattle.std.proofs.Common.{◌≡◌, ℕ, ◌+◌, ◌*◌, ◌-◌, ◌^◌, ◌<◌, ◌≤◌, min, List, [], ◌∷◌, ◌++◌, length, map, All, sym, ap, subst, ◌∙◌, arith, inl, inr}
use Rattle.std.proofs.lemmas.Bool.{cases_eq, cond-true, eq-eqb}
use Rattle.std.proofs.lemmas.List.{length-append}
use Rattle.std.proofs.lemmas.Grind.{flat_map-append}
use Rattle.std.proofs.lemmas.List.Elements.{recursion_from_All, All-from_recursion, All-weaker}
use Rattle.tb_types.specs.Needs.{group_need}
use Rattle.tb_types.specs.declared.attribute.Attr.{Attr}
use Rattle.mvt_codec.specs.Items.{items_bytes, IsItem, IsNamed, Fits}
use Rattle.mvt_codec.specs.Value.{IsWritable}
use Rattle.mvt_codec.proofs.TileSizes.{tiles_are_small}
use Rattle.run_merge.specs.Items.{IsItemOf}
use Rattle.std.specs.List.{AllByRecursion}
use Rattle.mvt_codec.specs.declared.row.TileRow.{TileRow}
use Rattle.mvt_codec.specs.declared.row.LayerRows.{LayerRows}
use Rattle.mvt_codec.specs.declared.item.RunItem.{RunItem}
use Rattle.build_one.specs.Writing.{AreShort}
use Rattle.mvt_codec.specs.Groups.{IsWritableItem, rows_of_layer, slots, layer_of, named, layers_of, text_of_items}
use Rattle.mvt_codec.specs.Tile.{tile_text, written, layer_text}
use Rattle.tb_wire.specs.Message.{len_text}
use Rattle.tb_wire.specs.Varint.{encoding}
use Rattle.tb_wire.proofs.Again.{encoding-some}

-- a field begins with its key
len-size : (n : ℕ) (body : List ℕ) → length (len_text n body) ≡ length (encoding (n * 8 + 2)) + length (encoding (length body)) + length body
unfolding len_text
len-size n body = length-append (encoding (n * 8 + 2) ++ encoding (length body)) body ∙ ap (λ m. m + length body) (length-append (encoding (n * 8 + 2)) (encoding (length body)))

some-field : (n : ℕ) (body more : List ℕ) → 1 ≤ length (len_text n body ++ more)
some-field n body more =
    let whole : length (len_text n body ++ more) ≡ length (len_text n body) + length more = length-append (len_text n body) more in
    let field = len-size n body in
    let key = encoding-some (n * 8 + 2) in
    omega (arith, whole, field, key)

-- rows make a layer with bytes
some-layer : (name : List ℕ) (row : TileRow) (rows : List TileRow) (more : List LayerRows) → 1 ≤ length (tile_text (layer_of name (row ∷ rows) ++ more))
some-layer name row rows more = some-field 3 (layer_text (record { name = name; extent = 4096; rows = row ∷ rows })) (tile_text more)

first-row : (number : ℕ) (x : RunItem) (xs : List RunItem) → x.key.layer ≡ number → rows_of_layer number (x ∷ xs) ≡ x.row ∷ rows_of_layer number xs
first-row number x xs h = ap (map (λ (item : RunItem). item.row)) (cond-true _ _ _ (eq-eqb _ _ h))

behind : (one other : List LayerRows) → 1 ≤ length (tile_text other) → 1 ≤ length (tile_text (one ++ other))
behind one other h =
    let parts : tile_text (one ++ other) ≡ tile_text one ++ tile_text other = flat_map-append (λ (layer : LayerRows). written layer layer.rows) one other in
    let sizes : length (tile_text (one ++ other)) ≡ length (tile_text one) + length (tile_text other) = ap length parts ∙ length-append (tile_text one) (tile_text other) in
    omega (arith, h, sizes)

some-from : (number : ℕ) (names : List (List ℕ)) (x : RunItem) (xs : List RunItem) → number ≤ x.key.layer → x.key.layer < number + length names
    → 1 ≤ length (tile_text (named names (slots number (length names) (x ∷ xs))))
some-from number [] x xs low high = absurd (omega (arith, low, high))
some-from number (name ∷ names) x xs low high =
    elim (cases_eq x.key.layer number) [
      | inl here ↦
          subst (λ rows. 1 ≤ length (tile_text (layer_of name rows ++ named names (slots (number + 1) (length names) (x ∷ xs))))) (sym (first-row number x xs here))
          (some-layer name x.row (rows_of_layer number xs) (named names (slots (number + 1) (length names) (x ∷ xs))))
      | inr later ↦
          behind (layer_of name (rows_of_layer number (x ∷ xs))) (named names (slots (number + 1) (length names) (x ∷ xs)))
          (some-from (number + 1) names x xs (omega (arith, low, later)) (omega (arith, high)))
    ]

pub some-text : (names : List (List ℕ)) (x : RunItem) (xs : List RunItem) → x.key.layer < length names → 1 ≤ length (text_of_items names (x ∷ xs))
unfolding layers_of
some-text names x xs h = some-from 0 names x xs (omega arith) (omega (arith, h))

pub some-group : (names : List (List ℕ)) (items : List RunItem) → 0 < length items → All (IsItemOf (length names)) items → 1 ≤ length (text_of_items names items)
some-group names [] some each = absurd (omega (arith, some))
some-group names (x ∷ xs) some each = some-text names x xs (recursion_from_All (IsItemOf (length names)) (x ∷ xs) each).0.layer

-- the tile of a group whose need is below 2 ^ 32 is shorter than that
pub short-group : (names : List (List ℕ)) (part bytes : ℕ) (items : List RunItem) → AreShort names → part < 2 ^ 32 → All (IsItemOf (length names)) items → bytes ≡ min (length (items_bytes items)) (2 ^ 64 - 1) → group_need bytes ≤ part
    → length (text_of_items names items) < 2 ^ 32
short-group names part bytes items short small each is fits =
    let sum : length (items_bytes items) < 2 ^ 32 = omega (arith, small, is, fits) in
    let text = tiles_are_small names items (All-weaker (IsItemOf (length names)) IsItem (λ item h. h.is) items each) short.each sum in
    let few = short.few in
    omega (arith, small, is, fits, text, few)

-- what the encoder asks for
pub in-layers : (names : List (List ℕ)) (items : List RunItem) → All (IsItemOf (length names)) items → All (λ item. item.key.layer < length names) items
in-layers names items each = All-weaker (IsItemOf (length names)) (λ item. item.key.layer < length names) (λ item h. h.layer) items each

pub items-are : (names : List (List ℕ)) (items : List RunItem) → All (IsItemOf (length names)) items → All IsItem items
items-are names items each = All-weaker (IsItemOf (length names)) IsItem (λ item h. h.is) items each

pub items-fit : (names : List (List ℕ)) (items : List RunItem) → All (IsItemOf (length names)) items → All Fits items
items-fit names items each = All-weaker (IsItemOf (length names)) Fits (λ item h. h.types) items each

named-writable : (attributes : List Attr) → AllByRecursion IsNamed attributes → AllByRecursion (λ (a : Attr). IsWritable a.value) attributes
named-writable [] h = tt
named-writable (a ∷ attributes) h = (h.0.1, named-writable attributes h.1)

pub writable-group : (names : List (List ℕ)) (items : List RunItem) → All (IsItemOf (length names)) items → All IsWritableItem items
writable-group names items each =
    All-weaker (IsItemOf (length names)) IsWritableItem (λ item h. All-from_recursion (λ (a : Attr). IsWritable a.value) item.row.attributes (named-writable item.row.attributes h.is.attributes)) items each
