-- The text of `show`: the layers of a tile, and under each its features.
use Rattle.std.specs.Prelude.{ℕ, ◌==◌, if◌then◌else◌, Option, None, Some, Result, Ok, Err, List, [], ◌∷◌, ◌++◌, length, flat_map, codes, decimal}
use Rattle.std.specs.List.{concat}
use Rattle.tb_types.specs.declared.tile.TileXyz.{TileXyz}
use Rattle.hilbert_ids.specs.Ids.{number_of}
use Rattle.mvt_codec.specs.declared.row.TileRow.{TileRow}
use Rattle.mvt_codec.specs.declared.row.LayerRows.{LayerRows}
use Rattle.mvt_codec.specs.Grammar.{tile_of}
use Rattle.pmtiles_dirs.specs.Contents.{Tile}
use Rattle.pmtiles_dirs.specs.Back.{read_back, tile_at}
use Rattle.archive_text.specs.Attributes.{attributes_text}

-- a feature's type
abbrev pub form_text : ℕ → List ℕ
form_text form =
    if form == 1 then codes "point"
    else if form == 2 then codes "line"
    else if form == 3 then codes "polygon"
    else codes "unknown"

-- an id of 0 stands for none
abbrev pub id_text : ℕ → List ℕ
id_text id = if id == 0 then codes "-" else decimal id

-- integers with commas between them
abbrev pub ints_text : List ℕ → List ℕ
ints_text [] = []
ints_text (n ∷ ints) = decimal n ++ flat_map (λ m. codes "," ++ decimal m) ints

-- a feature's type and id
unfoldable pub shape_text : TileRow → List ℕ
shape_text row = concat (form_text row.form ∷ codes " " ∷ id_text row.id ∷ codes " " ∷ [])

-- a text that ends a line
unfoldable pub last_text : List ℕ → List ℕ
last_text text = concat (codes " " ∷ text ∷ codes "\n" ∷ [])

-- a feature: its type, its id, its geometry integers and its attributes
unfoldable pub row_text : TileRow → List ℕ
row_text row = concat (shape_text row ∷ ints_text row.ints ∷ last_text (attributes_text row.attributes) ∷ [])

unfoldable pub head_text : LayerRows → List ℕ
head_text layer = concat (codes "layer " ∷ layer.name ∷ codes " " ∷ decimal (length layer.rows) ∷ codes "\n" ∷ [])

abbrev pub layer_text : LayerRows → List ℕ
layer_text layer = head_text layer ++ flat_map row_text layer.rows

abbrev pub layers_text : List LayerRows → List ℕ
layers_text layers = flat_map layer_text layers

abbrev pub layers_in : Result (List LayerRows) ℕ → List ℕ
layers_in (Ok layers) = layers_text layers
layers_in (Err at) = []

unfoldable pub no_tile_text : List ℕ
no_tile_text = codes "no tile\n"

-- the text of a tile's bytes, if there is one
abbrev pub found_text : Option (List ℕ) → List ℕ
found_text None = no_tile_text
found_text (Some bytes) = layers_in (tile_of bytes)

-- the text of an id among all tiles
abbrev pub text_in : ℕ → Option (List Tile) → List ℕ
text_in id None = []
text_in id (Some tiles) = found_text (tile_at tiles id)

-- the text of `show` for an archive without a fault
unfoldable pub show_text : TileXyz → List ℕ → List ℕ
show_text tile archive = text_in (number_of tile) (read_back archive)
