-- What is written of items is read again.
use Rattle.std.proofs.Common.{◌≡◌, ℕ, zero, suc, ◌+◌, ◌^◌, ◌<◌, ◌==◌, true, false, not, cond, Bool, Ok, List, [], ◌∷◌, ◌++◌, length, All, refl, sym, ap, ◌∙◌, arith, true≢false}
use Rattle.std.specs.List.{AllByRecursion, IsDistinct, list_any}
use Rattle.std.specs.Str.{IsUtf8, bytes_eq}
use Rattle.std.proofs.lemmas.Bool.{ne_eqb}
use Rattle.std.proofs.lemmas.Slice.Eq.{bytes_eq-Decides}
use Rattle.std.proofs.lemmas.Str.{is_utf8-from_IsUtf8}
use Rattle.std.proofs.lemmas.List.{map-append}
use Rattle.std.proofs.lemmas.List.Elements.{All-nil, All-cons, All-append, All-filter, All-map, All-from_recursion, filter-append}
use Rattle.std.proofs.lemmas.List.Folds.{list_any-append}
use Rattle.mvt_codec.specs.declared.row.TileRow.{TileRow}
use Rattle.mvt_codec.specs.declared.row.LayerRows.{LayerRows}
use Rattle.mvt_codec.specs.declared.item.RunItem.{RunItem}
use Rattle.mvt_codec.specs.Again.{FitsAttribute, FitsRow, with_rows, NamesDiffer, AreReadable}
use Rattle.mvt_codec.specs.Grammar.{names_of, has_name, tile_of}
use Rattle.mvt_codec.specs.Items.{IsItem, Fits}
use Rattle.mvt_codec.specs.Groups.{rows_of_layer, slots, layer_of, named, layers_of, AreNames}

-- ---- names

flipped : (a b : List ℕ) → bytes_eq a b ≡ false → bytes_eq b a ≡ false
flipped a b differ = by (bytes_eq b a) refl
  where
    by : (x : Bool) → bytes_eq b a ≡ x → bytes_eq b a ≡ false
    by false e = e
    by true e = absurd (true≢false (sym ((bytes_eq-Decides a b).1 (sym ((bytes_eq-Decides b a).0 e))) ∙ differ))

-- a name that is new among some layers is new behind one more of another name
new_behind : (name : List ℕ) (before : List LayerRows) (layer : LayerRows) → has_name name before ≡ false → bytes_eq layer.name name ≡ false → has_name name (before ++ layer ∷ []) ≡ false
new_behind name before layer new differ =
    ap (list_any (bytes_eq name)) (map-append (λ (l : LayerRows). l.name) before (layer ∷ [])) ∙ list_any-append (bytes_eq name) (names_of before) (layer.name ∷ [])
    ∙ rw (new, flipped layer.name name differ) refl

all_new : (before : List LayerRows) (layer : LayerRows) (names : List (List ℕ)) → AllByRecursion (λ name. has_name name before ≡ false) names → AllByRecursion (λ name. bytes_eq layer.name name ≡ false) names
    → AllByRecursion (λ name. has_name name (before ++ layer ∷ []) ≡ false) names
all_new before layer [] new differ = tt
all_new before layer (name ∷ names) new differ = (new_behind name before layer new.0 differ.0, all_new before layer names new.1 differ.1)

names_differ : (names : List (List ℕ)) (rows : List (List TileRow)) (before : List LayerRows) → AreNames names → AllByRecursion (λ name. has_name name before ≡ false) names → NamesDiffer before (named names rows)
unfolding IsDistinct
names_differ [] rows before differ new = tt
names_differ (name ∷ names) [] before differ new = tt
names_differ (name ∷ names) ([] ∷ later) before differ new = names_differ names later before differ.1 new.1
names_differ (name ∷ names) ((row ∷ rows) ∷ later) before differ new =
    let layer : LayerRows = record { name = name; extent = 4096; rows = row ∷ rows } in
    (new.0, names_differ names later (before ++ layer ∷ []) differ.1 (all_new before layer names new.1 differ.0))

none_before : (names : List (List ℕ)) → AllByRecursion (λ name. has_name name [] ≡ false) names
none_before [] = tt
none_before (name ∷ names) = (refl, none_before names)

-- ---- rows

-- each layer has rows
one_kept : (name : List ℕ) (rows : List TileRow) → with_rows (layer_of name rows) ≡ layer_of name rows
one_kept name [] = refl
one_kept name (row ∷ rows) =
    let layer : LayerRows = record { name = name; extent = 4096; rows = row ∷ rows } in
    let some : (length (row ∷ rows) == 0) ≡ false = ne_eqb _ 0 (λ same. absurd (omega (arith, same))) in
    ap (λ (b : Bool). cond (not b) (layer ∷ []) []) some

all_kept : (names : List (List ℕ)) (rows : List (List TileRow)) → with_rows (named names rows) ≡ named names rows
all_kept [] rows = refl
all_kept (name ∷ names) [] = refl
all_kept (name ∷ names) (rows ∷ later) =
    filter-append (λ (layer : LayerRows). not (length layer.rows == 0)) (layer_of name rows) (named names later)
    ∙ ap (λ (ls : List LayerRows). ls ++ with_rows (named names later)) (one_kept name rows)
    ∙ ap (λ (ls : List LayerRows). layer_of name rows ++ ls) (all_kept names later)

-- the row of an item is within its types
row_fits : (item : RunItem) → IsItem item → Fits item → FitsRow item.row
row_fits item is fits = record {
  id = fits.id;
  small = omega (arith, is.known.1);
  ints = All-from_recursion (λ n. n < 2 ^ 32) item.row.ints fits.ints;
  form = is.form;
  attributes = All-from_recursion FitsAttribute item.row.attributes fits.attributes;
}

-- a layer's extent and its rows are within their types
record FitsInside (layer : LayerRows) : Type 0 where
  pub extent : layer.extent < 2 ^ 32
  pub rows : All FitsRow layer.rows

one_fits : (name : List ℕ) (rows : List TileRow) → All FitsRow rows → All FitsInside (layer_of name rows)
one_fits name [] fit = All-nil FitsInside
one_fits name (row ∷ rows) fit =
    let layer : LayerRows = record { name = name; extent = 4096; rows = row ∷ rows } in
    All-cons FitsInside layer [] (record { extent = omega arith; rows = fit }) (All-nil FitsInside)

all_fit : (names : List (List ℕ)) (number count : ℕ) (items : List RunItem) → All (λ item. FitsRow item.row) items → All FitsInside (named names (slots number count items))
all_fit [] number count items fit = All-nil FitsInside
all_fit (name ∷ names) number zero items fit = All-nil FitsInside
all_fit (name ∷ names) number (suc count) items fit =
    All-append FitsInside (layer_of name (rows_of_layer number items)) (named names (slots (number + 1) count items))
    (one_fits name (rows_of_layer number items) (All-map FitsRow (λ item. item.row) _ (All-filter (λ item. item.key.layer == number) (λ item. FitsRow item.row) items fit)))
    (all_fit names (number + 1) count items fit)

-- ---- the whole

kept : (names : List (List ℕ)) (items : List RunItem) → with_rows (layers_of names items) ≡ layers_of names items
unfolding layers_of
kept names items = all_kept names (slots 0 (length names) items)

pub readable : (names : List (List ℕ)) (items : List RunItem) → AreNames names → All IsItem items → All Fits items → All (λ layer. IsUtf8 layer.name) (layers_of names items) → AreReadable (layers_of names items)
unfolding layers_of
readable names items differ are fit texts =
    let layers = named names (slots 0 (length names) items) in
    let inside = all_fit names 0 (length names) items (λ k d lt. row_fits _ (are k d lt) (fit k d lt)) in
    record {
      sound = λ k d lt. record { name = is_utf8-from_IsUtf8 _ (texts k d lt); extent = (inside k d lt).extent; rows = (inside k d lt).rows };
      names = rw (all_kept names (slots 0 (length names) items)) (names_differ names (slots 0 (length names) items) [] differ (none_before names));
    }

-- bytes that are read as the layers that have rows are read as the layers of items
pub read_as : (names : List (List ℕ)) (items : List RunItem) (layers : List LayerRows) (bytes : List ℕ) → layers ≡ layers_of names items → tile_of bytes ≡ Ok (with_rows layers) → tile_of bytes ≡ Ok (layers_of names items)
read_as names items layers bytes are read = read ∙ ap (λ (ls : List LayerRows). Ok (with_rows ls)) are ∙ ap (λ (ls : List LayerRows). Ok ls) (kept names items)

-- one layer more whose name is UTF-8
pub texts-more : (layers more : List LayerRows) (layer : LayerRows) → more ≡ layers ++ layer ∷ [] → IsUtf8 layer.name → All (λ l. IsUtf8 l.name) layers → All (λ l. IsUtf8 l.name) more
texts-more layers more layer is text texts = rw is (All-append (λ (l : LayerRows). IsUtf8 l.name) layers (layer ∷ []) texts (All-cons (λ (l : LayerRows). IsUtf8 l.name) layer [] text (All-nil _)))
