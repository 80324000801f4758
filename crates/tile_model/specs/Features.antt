-- Features of a build: an element and what a rule of the profile makes of it.
use Rattle.std.specs.Prelude.{ℕ, ℤ, nat_le, ◌&&◌, if◌then◌else◌, Option, None, option_map}
use Rattle.tb_types.specs.declared.element.Kind.{Kind}
use Rattle.tb_types.specs.declared.element.Place.{Place}
use Rattle.tb_types.specs.declared.tile.TileXyz.{TileXyz}
use Rattle.hilbert_ids.specs.Ids.{number_of}
use Rattle.mvt_codec.specs.declared.row.TileRow.{TileRow}
use Rattle.mvt_codec.specs.declared.item.ItemKey.{ItemKey}
use Rattle.mvt_codec.specs.declared.item.RunItem.{RunItem}

-- A feature: where it stands among the rows of a tile, the zooms at which it stands in tiles, and its row in each tile in
-- which something of it is left.
pub record Feature : Type 0 where
  pub layer : ℕ
  pub order : ℤ
  pub kind : Kind
  pub place : Place
  pub rule : ℕ
  pub min : ℕ
  pub max : ℕ
  pub row : TileXyz → Option TileRow

-- what tells a feature from all others
abbrev pub Name : Type 0
Name = Kind × Place × ℕ

abbrev pub name_of : Feature → Name
name_of f = (f.kind, f.place, f.rule)

-- the key of a feature's item in a tile
abbrev pub key_at : Feature → TileXyz → ItemKey
key_at f tile = record { tile = number_of tile; layer = f.layer; order = f.order; kind = f.kind; place = f.place; rule = f.rule }

-- a row as a feature's item in a tile
abbrev pub as_item : Feature → TileXyz → TileRow → RunItem
as_item f tile row = record { key = key_at f tile; row = row }

-- what a feature has in a tile: an item, where the tile's zoom is one of its own and it has a row there
abbrev pub item_at : Feature → TileXyz → Option RunItem
item_at f tile = if nat_le f.min tile.z && nat_le tile.z f.max then option_map (as_item f tile) (f.row tile) else None
