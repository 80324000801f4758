-- The rows of each layer, item after item.
use Rattle.std.proofs.Common.{◌≡◌, ℕ, zero, suc, ◌+◌, ◌<◌, ◌==◌, false, List, [], ◌∷◌, ◌++◌, length, get_or, filter, map, All, refl, sym, ap, subst, ◌∙◌, arith, suc-le-suc, zero-le, add-one}
use Rattle.std.proofs.lemmas.Bool.{cond-true, cond-false, eq-eqb}
use Rattle.std.proofs.lemmas.Bool.Decides.{nat_tests}
use Rattle.std.proofs.lemmas.List.{map-append, append-nil}
use Rattle.std.proofs.lemmas.List.Elements.{All-nil, All-cons, All-append, All-filter, All-map, filter-append}
use Rattle.std.proofs.Math.ListN.{set}
use Rattle.mvt_codec.specs.declared.row.TileRow.{TileRow}
use Rattle.mvt_codec.specs.declared.row.LayerRows.{LayerRows}
use Rattle.mvt_codec.specs.declared.item.RunItem.{RunItem}
use Rattle.mvt_codec.specs.Value.{IsWritable}
use Rattle.mvt_codec.specs.Tile.{AreWritable}
use Rattle.mvt_codec.specs.Groups.{rows_of_layer, slots, layer_of, named, layers_of, IsWritableItem}

-- one more item adds its row to the rows of its layer
rows-more : (number : ℕ) (items : List RunItem) (item : RunItem) → item.key.layer ≡ number → rows_of_layer number (items ++ item ∷ []) ≡ rows_of_layer number items ++ item.row ∷ []
rows-more number items item h =
    ap (map (λ x. x.row)) (filter-append (λ x. x.key.layer == number) items (item ∷ []) ∙ ap (λ l. filter (λ x. x.key.layer == number) items ++ l) (cond-true _ _ _ (eq-eqb _ _ h)))
    ∙ map-append (λ x. x.row) (filter (λ x. x.key.layer == number) items) (item ∷ [])

-- and none to the rows of another
rows-same : (number : ℕ) (items : List RunItem) (item : RunItem) → (item.key.layer == number) ≡ false → rows_of_layer number (items ++ item ∷ []) ≡ rows_of_layer number items
rows-same number items item h =
    ap (map (λ x. x.row)) (filter-append (λ x. x.key.layer == number) items (item ∷ []) ∙ ap (λ l. filter (λ x. x.key.layer == number) items ++ l) (cond-false _ _ _ h))
    ∙ map-append (λ x. x.row) (filter (λ x. x.key.layer == number) items) [] ∙ append-nil (rows_of_layer number items)

slots-above : (number count : ℕ) (items : List RunItem) (item : RunItem) → item.key.layer < number → slots number count (items ++ item ∷ []) ≡ slots number count items
slots-above number zero items item h = refl
slots-above number (suc count) items item h =
    ap (λ rows. rows ∷ slots (number + 1) count (items ++ item ∷ [])) (rows-same number items item (grind (arith, nat_tests)))
    ∙ ap (λ l. rows_of_layer number items ∷ l) (slots-above (number + 1) count items item (omega (arith, h)))

slots-more : (number count i : ℕ) (items : List RunItem) (item : RunItem) (d : List TileRow) → number + i ≡ item.key.layer → i < count
    → set (slots number count items) i (get_or (slots number count items) i d ++ item.row ∷ []) ≡ slots number count (items ++ item ∷ [])
slots-more number zero i items item d at within = absurd (omega (arith, within))
slots-more number (suc count) zero items item d at within =
    ap (λ rows. rows ∷ slots (number + 1) count items) (sym (rows-more number items item (omega (arith, at))))
    ∙ ap (λ l. rows_of_layer number (items ++ item ∷ []) ∷ l) (sym (slots-above (number + 1) count items item (omega (arith, at))))
slots-more number (suc count) (suc i) items item d at within =
    ap (λ rows. rows ∷ set (slots (number + 1) count items) i (get_or (slots (number + 1) count items) i d ++ item.row ∷ [])) (sym (rows-same number items item (grind (arith, nat_tests))))
    ∙ ap (λ l. rows_of_layer number (items ++ item ∷ []) ∷ l) (slots-more (number + 1) count i items item d (omega (arith, at)) (omega (arith, within)))

pub length-slots : (number count : ℕ) (items : List RunItem) → length (slots number count items) ≡ count
length-slots number zero items = refl
length-slots number (suc count) items = ap suc (length-slots (number + 1) count items)

-- a row that is pushed behind those of its item's layer
pub slots-pushed : (count : ℕ) (now : List (List TileRow)) (items : List RunItem) (item : RunItem) (i : ℕ) (rows more : List TileRow)
    → now ≡ slots 0 count items → i ≡ item.key.layer → i < count → rows ≡ get_or now i rows → more ≡ rows ++ item.row ∷ [] → set now i more ≡ slots 0 count (items ++ item ∷ [])
slots-pushed count now items item i rows more view at within is push =
    ap (set now i) push
    ∙ ap (λ r. set now i (r ++ item.row ∷ [])) is
    ∙ ap (λ l. set l i (get_or l i rows ++ item.row ∷ [])) view
    ∙ slots-more 0 count i items item rows (omega (arith, at)) within

-- without items all are empty
slots-one : (number count : ℕ) → slots number count [] ++ [] ∷ [] ≡ slots number (suc count) []
slots-one number zero = refl
slots-one number (suc count) = ap (λ l. [] ∷ l) (slots-one (number + 1) count)

pub slots-empty : (count : ℕ) (now next : List (List TileRow)) → now ≡ slots 0 count [] → next ≡ now ++ [] ∷ [] → next ≡ slots 0 (count + 1) []
slots-empty count now next e f = f ∙ ap (λ l. l ++ [] ∷ []) e ∙ slots-one 0 count ∙ ap (λ n. slots 0 n []) (sym (add-one count))

All-between : (P : RunItem → Type 0) (before after : List RunItem) (item : RunItem) → All P (before ++ item ∷ after) → P item
All-between P [] after item h = h zero item (suc-le-suc zero-le)
All-between P (x ∷ before) after item h = All-between P before after item (λ k d lt. h (suc k) d (suc-le-suc lt))

-- the next item has a layer, as each item has
pub layer-within : (n : ℕ) (items before left after : List RunItem) (item : RunItem) → All (λ x. x.key.layer < n) items → items ≡ before ++ left → left ≡ item ∷ after → item.key.layer < n
layer-within n items before left after item h parts next =
    All-between (λ x. x.key.layer < n) before after item (subst (All (λ x. x.key.layer < n)) (parts ∙ ap (λ l. before ++ l) next) h)

abbrev IsWritableRow : TileRow → Type 0
IsWritableRow row = All (λ a. IsWritable a.value) row.attributes

one-writable : (name : List ℕ) (rows : List TileRow) → All IsWritableRow rows → AreWritable (layer_of name rows)
one-writable name [] h = All-nil _
one-writable name (row ∷ rows) h = All-cons (λ l. All IsWritableRow l.rows) (record { name = name; extent = 4096; rows = row ∷ rows }) [] h (All-nil _)

named-writable : (names : List (List ℕ)) (number count : ℕ) (items : List RunItem) → All IsWritableItem items → AreWritable (named names (slots number count items))
named-writable [] number count items h = All-nil _
named-writable (name ∷ names) number zero items h = All-nil _
named-writable (name ∷ names) number (suc count) items h =
    All-append (λ l. All IsWritableRow l.rows) (layer_of name (rows_of_layer number items)) (named names (slots (number + 1) count items))
    (one-writable name _ (All-map IsWritableRow (λ x. x.row) _ (All-filter (λ x. x.key.layer == number) IsWritableItem items h)))
    (named-writable names (number + 1) count items h)

pub layers-writable : (names : List (List ℕ)) (items : List RunItem) → All IsWritableItem items → AreWritable (layers_of names items)
unfolding layers_of
layers-writable names items h = named-writable names 0 (length names) items h

pub layers-are : (names : List (List ℕ)) (items : List RunItem) (rows : List (List TileRow)) (layers : List LayerRows)
    → rows ≡ slots 0 (length names) items → layers ≡ named names rows → layers ≡ layers_of names items
unfolding layers_of
layers-are names items rows layers e f = f ∙ ap (named names) e

-- where no list of rows is left, all layers are there
pub named-end : (names : List (List ℕ)) (rest : List (List TileRow)) (layers all : List LayerRows) → length rest ≡ 0 → layers ++ named names rest ≡ all → layers ≡ all
named-end [] rest layers all e h = sym (append-nil layers) ∙ h
named-end (name ∷ names) [] layers all e h = sym (append-nil layers) ∙ h
named-end (name ∷ names) (rows ∷ rest) layers all e h = absurd (omega (arith, e))
