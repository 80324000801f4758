-- The ids of tiles: those of all lower zooms come first, then the places on the zoom's own curve.
use Rattle.std.specs.Prelude.{◌≡◌, ℕ, ◌+◌, ◌-◌, ◌/◌, ◌^◌, ◌<◌, ◌≤◌}
use Rattle.tb_types.specs.declared.tile.TileXyz.{TileXyz}
use Rattle.hilbert_ids.specs.Curve.{place}

-- the first id of a zoom, which is the number of tiles of all lower zooms
abbrev pub first_id_of : ℕ → ℕ
first_id_of zoom = (4 ^ zoom - 1) / 3

-- the greatest zoom whose tiles have ids
abbrev pub last_zoom : ℕ
last_zoom = 26

-- the first number that is no id
abbrev pub ids_end : ℕ
ids_end = first_id_of (last_zoom + 1)

-- the id of a tile
unfoldable pub number_of : TileXyz → ℕ
number_of tile = first_id_of tile.z + place tile.z tile.x tile.y

-- a tile of a zoom that has ids, within the zoom's square
pub record IsTile (tile : TileXyz) : Type 0 where
  pub zoom : tile.z ≤ last_zoom
  pub column : tile.x < 2 ^ tile.z
  pub row : tile.y < 2 ^ tile.z

-- Tiles and ids stand one to one: two tiles have two ids, each number below the end is the id of a tile, and the id of
-- each tile is below the end.
pub record OneToOne : Type 0 where
  pub apart : (a b : TileXyz) → IsTile a → IsTile b → number_of a ≡ number_of b → a ≡ b
  pub all : (n : ℕ) → n < ids_end → (tile : TileXyz) × IsTile tile × (number_of tile ≡ n)
  pub below : (tile : TileXyz) → IsTile tile → number_of tile < ids_end

-- worked tiles: the first of all, one of zoom 12, and the last of all, the upper right tile of zoom 26
pub record KnownIds : Type 0 where
  pub first : number_of (record { z = 0; x = 0; y = 0 }) ≡ 0
  pub middle : number_of (record { z = 12; x = 3423; y = 1763 }) ≡ 19078479
  pub last : number_of (record { z = 26; x = 67108863; y = 0 }) ≡ 6004799503160660
