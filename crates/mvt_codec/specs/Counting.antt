-- How many rows a tile has.
use Rattle.std.specs.Prelude.{◌≡◌, ℕ, ◌+◌, Bool, true, false, ◌&&◌, nat_lt, is_some, Option, Some, Result, Ok, Err, List, [], ◌∷◌, length, sum_by}
use Rattle.tb_wire.specs.Field.{Entry}
use Rattle.mvt_codec.specs.declared.row.LayerRows.{LayerRows}
use Rattle.mvt_codec.specs.declared.fault.Fault.{Fault}
use Rattle.mvt_codec.specs.declared.fault.TileErr.{TileErr}
use Rattle.mvt_codec.specs.declared.fault.TileErr.TheVariants as errors
use Rattle.mvt_codec.specs.Grammar.{names_of, note_tile}
use Rattle.mvt_codec.specs.Reading.{IsFault}

-- the number of rows of all layers
abbrev pub rows_in_all : List LayerRows → ℕ
rows_in_all layers = sum_by (λ layer. length layer.rows) layers

-- the number of rows of the layers of a tile, or the number of the first bad one
abbrev pub IsCount : Result ℕ TileErr → Result (List LayerRows) ℕ → Type 0
IsCount (Ok n) (Ok layers) = n ≡ rows_in_all layers
IsCount (Ok n) (Err at) = ⊥
IsCount (Err (errors.Bad at)) found = found ≡ Err at
IsCount (Err errors.Memory) found = Unit {0}

-- it is told that something is there, or what is wrong with it
abbrev pub Finds : {A : Type 0} → Result (Unit {0}) Fault → Option A → Type 0
Finds (Ok u) found = is_some found ≡ true
Finds (Err e) found = IsFault e found

-- tags are pairs, and lie inside dictionaries of so many keys and values
abbrev pub are_tags : ℕ → ℕ → List ℕ → Bool
are_tags keys values [] = true
are_tags keys values (key ∷ []) = false
are_tags keys values (key ∷ value ∷ tags) = nat_lt key keys && (nat_lt value values && are_tags keys values tags)

-- a layer of this name and so many rows
pub record HasCount (layer : LayerRows) (name : List ℕ) (rows : ℕ) : Type 0 where
  pub named : layer.name ≡ name
  pub counted : length layer.rows ≡ rows

-- a layer is read as one of this name and so many rows, or it is told what is wrong with it
abbrev pub CountsLayer : {N : Type 0} → (N → List ℕ) → Result (N × ℕ) Fault → Option LayerRows → Type 0
CountsLayer see (Ok n) found = (layer : LayerRows) × (found ≡ Some layer) × HasCount layer (see n.0) n.1
CountsLayer see (Err e) found = IsFault e found

-- layers that have these names and so many rows
pub record AreCounted (layers : List LayerRows) (names : List (List ℕ)) (rows : ℕ) : Type 0 where
  pub named : names ≡ names_of layers
  pub counted : rows ≡ rows_in_all layers

-- after a field of a tile there are layers of these names and of so many rows more, or it is told what is wrong with it
abbrev pub CountsOn : List LayerRows → Entry → List (List ℕ) → Result ℕ Fault → Type 0
CountsOn layers f names (Ok n) = (now : List LayerRows) × (note_tile layers f ≡ Some now) × AreCounted now names (rows_in_all layers + n)
CountsOn layers f names (Err e) = IsFault e (note_tile layers f)
