-- How long a tile is, against the items that it is made of.
use Rattle.std.specs.Prelude.{ℕ, ◌+◌, ◌*◌, ◌^◌, ◌<◌, ◌≤◌, List, length, All}
use Rattle.mvt_codec.specs.declared.item.RunItem.{RunItem}
use Rattle.mvt_codec.specs.Groups.{text_of_items}
use Rattle.mvt_codec.specs.Items.{items_bytes, IsItem}

-- The tile of items is at most four times as long as they, and 1,100 bytes a layer. Items have fewer than 2 ^ 32 bytes together, and
-- a layer's name has at most 1,024.
abbrev pub TilesAreSmall : Type 0
TilesAreSmall = (names : List (List ℕ)) (items : List RunItem) → All IsItem items → All (λ name. length name ≤ 1024) names → length (items_bytes items) < 2 ^ 32
    → length (text_of_items names items) ≤ 4 * length (items_bytes items) + 1100 * length names
