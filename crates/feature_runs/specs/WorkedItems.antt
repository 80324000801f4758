-- Worked items that the definitions were checked on.
use Rattle.std.specs.Prelude.{◌≡◌, ℕ, negsuc, pos, Option, None, Some, List, [], ◌∷◌, ◌++◌, length, codes}
use Rattle.tb_types.specs.declared.attribute.AttrValue.TheVariants.{Whole}
use Rattle.tb_types.specs.declared.element.Kind.TheVariants.{Node}
use Rattle.mvt_codec.specs.declared.item.RunItem.{RunItem}
use Rattle.mvt_codec.specs.Items.{item_text}
use Rattle.mvt_codec.specs.Worked.{cafe}
use Rattle.mvt_codec.specs.WorkedKeys.{key}
use Rattle.feature_runs.specs.ItemReading.{item_at, value_of}

-- a cafe in layer 2, made by rule 3 of order -1 of the first node of block 1
abbrev pub cafe_item : RunItem
cafe_item = record { key = key 258 2 (negsuc 0) Node 1 0 3; row = cafe }

abbrev pub tile_bytes : List ℕ
tile_bytes = 0 ∷ 0 ∷ 0 ∷ 0 ∷ 0 ∷ 0 ∷ 1 ∷ 2 ∷ []

-- a key of order -1, block 1, index 0 and rule 3
abbrev pub key_bytes : List ℕ → ℕ → ℕ → List ℕ
key_bytes tile layer kind = tile ++ (layer ∷ 127 ∷ 255 ∷ kind ∷ 0 ∷ 0 ∷ 0 ∷ 1 ∷ 0 ∷ 0 ∷ 0 ∷ 0 ∷ 0 ∷ 3 ∷ [])

abbrev pub len_bytes : ℕ → List ℕ
len_bytes n = 0 ∷ 0 ∷ 0 ∷ 0 ∷ 0 ∷ 0 ∷ 0 ∷ n ∷ []

-- a row of this id and type, MoveTo of one point, and one attribute of this name and value
abbrev pub row_bytes : List ℕ → ℕ → List ℕ → List ℕ → List ℕ
row_bytes id form name value = id ++ (form ∷ 3 ∷ 9 ∷ 128 ∷ 32 ∷ 128 ∷ 32 ∷ 1 ∷ (length name ∷ name) ++ (length value ∷ value))

abbrev pub cafe_bytes : List ℕ
cafe_bytes = row_bytes (11 ∷ []) 1 (codes "amenity") (10 ∷ 4 ∷ codes "cafe")

abbrev pub with_key : List ℕ → List ℕ
with_key row = key_bytes tile_bytes 2 0 ++ (len_bytes (length row) ++ row)

abbrev pub with_row : List ℕ → List ℕ
with_row key = key ++ (len_bytes 24 ++ cafe_bytes)

pub record WorkedItems : Type 0 where
  pub written : item_text cafe_item ≡ with_row (key_bytes tile_bytes 2 0)
  -- it is read, whatever stands behind it
  pub read : item_at (with_row (key_bytes tile_bytes 2 0) ++ 7 ∷ []) ≡ Some (cafe_item, 7 ∷ [])
  -- a row that is shorter than its length says, and one that is longer
  pub short : item_at (key_bytes tile_bytes 2 0 ++ (len_bytes 25 ++ cafe_bytes)) ≡ None
  pub long : item_at (key_bytes tile_bytes 2 0 ++ (len_bytes 24 ++ (0 ∷ cafe_bytes))) ≡ None
  -- the first number that is no tile, layer 64, and a kind of 3
  pub no_tile : item_at (with_row (key_bytes (0 ∷ 21 ∷ 85 ∷ 85 ∷ 85 ∷ 85 ∷ 85 ∷ 85 ∷ []) 2 0)) ≡ None
  pub no_layer : item_at (with_row (key_bytes tile_bytes 64 0)) ≡ None
  pub no_kind : item_at (with_row (key_bytes tile_bytes 2 3)) ≡ None
  -- an id in two bytes where one does, no type, a type of other commands, a name of no bytes
  pub longer : item_at (with_key (row_bytes (139 ∷ 0 ∷ []) 1 (codes "amenity") (10 ∷ 4 ∷ codes "cafe"))) ≡ None
  pub no_type : item_at (with_key (row_bytes (11 ∷ []) 0 (codes "amenity") (10 ∷ 4 ∷ codes "cafe"))) ≡ None
  pub other_type : item_at (with_key (row_bytes (11 ∷ []) 2 (codes "amenity") (10 ∷ 4 ∷ codes "cafe"))) ≡ None
  pub no_name : item_at (with_key (row_bytes (11 ∷ []) 1 [] (10 ∷ 4 ∷ codes "cafe"))) ≡ None
  -- a value is written in one way: -3 as a sint, 2 as a uint; no int, no sint from 0 on, no bool but 0 and 1, and nothing behind it
  pub a_sint : value_of (48 ∷ 5 ∷ []) ≡ Some (Whole (negsuc 2))
  pub a_uint : value_of (40 ∷ 2 ∷ []) ≡ Some (Whole (pos 2))
  pub an_int : value_of (32 ∷ 2 ∷ []) ≡ None
  pub a_positive_sint : value_of (48 ∷ 4 ∷ []) ≡ None
  pub no_bool : value_of (56 ∷ 2 ∷ []) ≡ None
  pub two_fields : value_of (40 ∷ 2 ∷ 40 ∷ 2 ∷ []) ≡ None
  pub no_field : value_of [] ≡ None
