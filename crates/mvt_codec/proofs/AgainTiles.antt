-- A tile that is written is read again.
use Rattle.std.proofs.Common.{◌≡◌, ℕ, All, zero, suc, ◌+◌, ◌-◌, ◌*◌, ◌^◌, ◌<◌, ◌≤◌, ◌==◌, false, not, cond, Some, Ok, List, [], ◌∷◌, ◌++◌, length, refl, sym, ap, subst, ◌∙◌, arith, append_assoc, length-append}
use Rattle.std.proofs.lemmas.Bool.{ne_eqb}
use Rattle.std.proofs.lemmas.List.{append-nil}
use Rattle.std.proofs.lemmas.List.Elements.{All-head, All-tail}
use Rattle.tb_wire.specs.Varint.{encoding}
use Rattle.tb_wire.specs.Field.{text}
use Rattle.tb_wire.proofs.Again.{encoding-some}
use Rattle.tb_wire.specs.Message.{len_text}
use Rattle.tb_wire.proofs.Messages.{field_at-end}
use Rattle.mvt_geom.specs.Options.{◌>>=◌}
use Rattle.mvt_codec.specs.declared.row.TileRow.{TileRow}
use Rattle.mvt_codec.specs.declared.row.LayerRows.{LayerRows}
use Rattle.mvt_codec.specs.Tile.{layer_text, written, tile_text, HasRoom}
use Rattle.mvt_codec.specs.Grammar.{has_name, behind_others, note_tile, tile_after, tile_from, tile_of}
use Rattle.mvt_codec.specs.Again.{FitsLayer, with_rows, NamesDiffer, TilesAreReadAgain}
use Rattle.mvt_codec.proofs.AgainFields.{field, len-field, within_len}
use Rattle.mvt_codec.proofs.AgainLayers.{layer-again}

-- the layers of a tile that is read from a place on
abbrev pub IsReadFrom : List ℕ → List LayerRows → List LayerRows → ℕ → Type 0
IsReadFrom before seen layers most =
    length (tile_text layers) ≤ most → length (before ++ tile_text layers) < 2 ^ 64 → All FitsLayer layers → All HasRoom layers → NamesDiffer seen (with_rows layers)
    → tile_from (before ++ tile_text layers) most seen (length before) ≡ Ok (seen ++ with_rows layers)

at-end : (before : List ℕ) (seen : List LayerRows) (most : ℕ) → tile_from (before ++ []) most seen (length before) ≡ Ok (seen ++ [])
at-end before seen zero = ap Ok (sym (append-nil seen))
at-end before seen (suc most) =
    let end : length (before ++ []) ≡ length before = ap length (append-nil before) in
    ap (tile_after (tile_from (before ++ []) most) seen) (field_at-end (before ++ []) (length before) end) ∙ ap Ok (sym (append-nil seen))

noted : (seen : List LayerRows) (layer : LayerRows) → FitsLayer layer → HasRoom layer → length (layer_text layer) < 2 ^ 64 → has_name layer.name seen ≡ false → note_tile seen (field 3 (text (layer_text layer))) ≡ Some (seen ++ layer ∷ [])
noted seen layer is room fits new = ap (λ r. r >>= behind_others seen) (layer-again layer is room fits) ∙ rw new refl

-- a layer with rows
one-layer : (before later : List ℕ) (seen : List LayerRows) (layer : LayerRows) (m : ℕ) → length (before ++ (len_text 3 (layer_text layer) ++ later)) < 2 ^ 64 → FitsLayer layer → HasRoom layer → has_name layer.name seen ≡ false
    → tile_from (before ++ (len_text 3 (layer_text layer) ++ later)) (suc m) seen (length before) ≡ tile_from (before ++ (len_text 3 (layer_text layer) ++ later)) m (seen ++ layer ∷ []) (length before + length (len_text 3 (layer_text layer)))
one-layer before later seen layer m fits is room new =
    let t = len_text 3 (layer_text layer) in
    let bytes = before ++ (t ++ later) in
    let short : length (layer_text layer) < 2 ^ 64 = omega (arith, fits, within_len 3 (layer_text layer), length-append before (t ++ later), length-append t later) in
    let read = len-field 3 (layer_text layer) (omega arith) (omega arith) before later fits in
    ap (tile_after (tile_from bytes m) seen) read ∙ rw (noted seen layer is room short new) refl

some_text : (t : List ℕ) → 0 < length (len_text 3 t)
unfolding len_text
some_text t = omega (arith, length-append (encoding (3 * 8 + 2) ++ encoding (length t)) t, length-append (encoding (3 * 8 + 2)) (encoding (length t)), encoding-some (3 * 8 + 2))

-- a layer and those after it, where those after it are read whatever stands before
layer-case : (before : List ℕ) (seen : List LayerRows) (layer : LayerRows) (layers : List LayerRows) (most : ℕ) → ((b : List ℕ) (s : List LayerRows) (m : ℕ) → IsReadFrom b s layers m)
    → (rows : List TileRow) → layer.rows ≡ rows → IsReadFrom before seen (layer ∷ layers) most
layer-case before seen layer layers most more [] e long fits sound room names =
    let text_is : tile_text (layer ∷ layers) ≡ tile_text layers = ap (λ r. written layer r ++ tile_text layers) e in
    let rows_are : with_rows (layer ∷ layers) ≡ with_rows layers = ap (λ (r : List TileRow). cond (not (length r == 0)) (layer ∷ with_rows layers) (with_rows layers)) e in
    let rest = more before seen most (subst (λ l. length l ≤ most) text_is long) (subst (λ l. length (before ++ l) < 2 ^ 64) text_is fits) (All-tail FitsLayer layer layers sound) (All-tail HasRoom layer layers room) (subst (NamesDiffer seen) rows_are names) in
    ap (λ l. tile_from (before ++ l) most seen (length before)) text_is ∙ rest ∙ ap (λ l. Ok (seen ++ l)) (sym rows_are)
layer-case before seen layer layers most more (row ∷ rows) e long fits sound room names =
    let t = len_text 3 (layer_text layer) in
    let later = tile_text layers in
    let after = seen ++ layer ∷ [] in
    let text_is : tile_text (layer ∷ layers) ≡ t ++ later = ap (λ r. written layer r ++ tile_text layers) e in
    let some : (length (row ∷ rows) == 0) ≡ false = ne_eqb _ 0 (λ same. absurd (omega (arith, same))) in
    let rows_are : with_rows (layer ∷ layers) ≡ layer ∷ with_rows layers =
    ap (λ (r : List TileRow). cond (not (length r == 0)) (layer ∷ with_rows layers) (with_rows layers)) e ∙ ap (λ b. cond (not b) (layer ∷ with_rows layers) (with_rows layers)) some in
    let both = subst (NamesDiffer seen) rows_are names in
    let within : length (t ++ later) ≤ most = subst (λ l. length l ≤ most) text_is long in
    let whole : length (before ++ (t ++ later)) < 2 ^ 64 = subst (λ l. length (before ++ l) < 2 ^ 64) text_is fits in
    let sizes = length-append t later in
    let one : most ≡ suc (most - 1) = omega (arith, within, sizes, some_text (layer_text layer)) in
    let left : length later ≤ most - 1 = omega (arith, within, sizes, some_text (layer_text layer)) in
    let joined : (before ++ t) ++ later ≡ before ++ (t ++ later) = append_assoc before t later in
    let rest = more (before ++ t) after (most - 1) left (subst (λ l. length l < 2 ^ 64) (sym joined) whole) (All-tail FitsLayer layer layers sound) (All-tail HasRoom layer layers room) both.1 in
    ap (λ l. tile_from (before ++ l) most seen (length before)) text_is ∙ ap (λ n. tile_from (before ++ (t ++ later)) n seen (length before)) one
    ∙ one-layer before later seen layer (most - 1) whole (All-head FitsLayer layer layers sound) (All-head HasRoom layer layers room) both.0 ∙ (λ i. tile_from (sym joined i) (most - 1) after (sym (length-append before t) i)) ∙ rest
    ∙ ap Ok (append_assoc seen (layer ∷ []) (with_rows layers) ∙ ap (λ l. seen ++ l) (sym rows_are))

read_from : (before : List ℕ) (seen layers : List LayerRows) (most : ℕ) → IsReadFrom before seen layers most
read_from before seen [] most long fits sound room names = at-end before seen most
read_from before seen (layer ∷ layers) most long fits sound room names = layer-case before seen layer layers most (λ b s m. read_from b s layers m) layer.rows refl long fits sound room names

pub tiles_are_read_again : TilesAreReadAgain
unfolding tile_of
tiles_are_read_again layers is = read_from [] [] layers (length (tile_text layers)) (omega arith) is.size is.sound is.room is.names
