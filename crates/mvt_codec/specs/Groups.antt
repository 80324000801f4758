-- The tile of some items: their rows, each in the layer of its key's number.
use Rattle.std.specs.Prelude.{◌≡◌, ℕ, zero, suc, ◌+◌, ◌==◌, Ok, List, [], ◌∷◌, ◌++◌, map, filter, length, All}
use Rattle.std.specs.List.{IsDistinct}
use Rattle.std.specs.Str.{bytes_eq}
use Rattle.mvt_codec.specs.declared.row.TileRow.{TileRow}
use Rattle.mvt_codec.specs.declared.row.LayerRows.{LayerRows}
use Rattle.mvt_codec.specs.declared.item.RunItem.{RunItem}
use Rattle.mvt_codec.specs.Value.{IsWritable}
use Rattle.mvt_codec.specs.Tile.{tile_text}
use Rattle.mvt_codec.specs.Grammar.{tile_of}

-- the rows that are written of a layer of this name: all of them, as they are
abbrev pub post : List ℕ → List TileRow → List TileRow
post name rows = rows

-- the rows of the layer of this number, as their items stand
abbrev pub rows_of_layer : ℕ → List RunItem → List TileRow
rows_of_layer number items = map (λ item. item.row) (filter (λ item. item.key.layer == number) items)

-- those of so many layers, from this number on
abbrev pub slots : ℕ → ℕ → List RunItem → List (List TileRow)
slots number zero items = []
slots number (suc count) items = rows_of_layer number items ∷ slots (number + 1) count items

-- a layer of this name, if it has rows
abbrev pub layer_of : List ℕ → List TileRow → List LayerRows
layer_of name [] = []
layer_of name (row ∷ rows) = record { name = name; extent = 4096; rows = post name (row ∷ rows) } ∷ []

-- layers of these names, of which each that has rows is there
abbrev pub named : List (List ℕ) → List (List TileRow) → List LayerRows
named [] rows = []
named (name ∷ names) [] = []
named (name ∷ names) (rows ∷ later) = layer_of name rows ++ named names later

-- the layers of a tile that have rows, in the order of their names; a name's number is its place, counted from 0
unfoldable pub layers_of : List (List ℕ) → List RunItem → List LayerRows
layers_of names items = named names (slots 0 (length names) items)

-- the bytes of the tile
abbrev pub text_of_items : List (List ℕ) → List RunItem → List ℕ
text_of_items names items = tile_text (layers_of names items)

-- each whole number among the values of an item's row is within its range
abbrev pub IsWritableItem : RunItem → Type 0
IsWritableItem item = All (λ a. IsWritable a.value) item.row.attributes

-- names that layers of one tile may have: no two are the same
abbrev pub AreNames : List (List ℕ) → Type 0
AreNames names = IsDistinct bytes_eq names

-- the bytes are read as these layers: each that has rows, with its name and its rows as their items stand
abbrev pub IsReadAgain : List (List ℕ) → List RunItem → List ℕ → Type 0
IsReadAgain names items bytes = tile_of bytes ≡ Ok (layers_of names items)
