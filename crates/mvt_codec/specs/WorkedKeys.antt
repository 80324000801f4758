-- Worked keys and items that the definitions were checked on.
use Rattle.std.specs.Prelude.{◌≡◌, ℕ, ℤ, pos, negsuc, [], ◌∷◌, codes}
use Rattle.std.specs.declared.cmp.Ordering.TheVariants.{Less, Equal, Greater}
use Rattle.tb_types.specs.declared.element.Kind.{Kind}
use Rattle.tb_types.specs.declared.element.Kind.TheVariants.{Node, Way, Relation}
use Rattle.mvt_codec.specs.declared.item.ItemKey.{ItemKey}
use Rattle.mvt_codec.specs.declared.item.RunItem.{RunItem}
use Rattle.mvt_codec.specs.declared.row.TileRow.{TileRow}
use Rattle.mvt_codec.specs.Order.{key_cmp, rank_of}
use Rattle.mvt_codec.specs.Groups.{layers_of, text_of_items}
use Rattle.mvt_codec.specs.Tile.{tile_text}
use Rattle.mvt_codec.specs.Worked.{cafe, line}

abbrev pub key : ℕ → ℕ → ℤ → Kind → ℕ → ℕ → ℕ → ItemKey
key tile layer order kind block index rule = record { tile = tile; layer = layer; order = order; kind = kind; place = record { block = block; index = index }; rule = rule }

-- the row of tile 5, in this layer
abbrev pub item : ℕ → TileRow → RunItem
item layer row = record { key = key 5 layer (pos 0) Node 1 0 0; row = row }

pub record WorkedKeys : Type 0 where
  -- each part decides only where those before it are equal; orders are signed, and nodes come before ways before relations
  pub tiles : key_cmp (key 1 9 (pos 9) Relation 9 9 9) (key 2 0 (negsuc 9) Node 0 0 0) ≡ Less
  pub layers : key_cmp (key 1 2 (negsuc 9) Node 0 0 0) (key 1 1 (pos 9) Relation 9 9 9) ≡ Greater
  pub orders : key_cmp (key 1 1 (negsuc 0) Relation 9 9 9) (key 1 1 (pos 0) Node 0 0 0) ≡ Less
  pub below_zero : key_cmp (key 1 1 (negsuc 1) Relation 9 9 9) (key 1 1 (negsuc 0) Node 0 0 0) ≡ Less
  pub kinds : key_cmp (key 1 1 (pos 0) Way 9 9 9) (key 1 1 (pos 0) Relation 0 0 0) ≡ Less
  pub nodes : key_cmp (key 1 1 (pos 0) Way 0 0 0) (key 1 1 (pos 0) Node 9 9 9) ≡ Greater
  pub blocks : key_cmp (key 1 1 (pos 0) Way 1 9 9) (key 1 1 (pos 0) Way 2 0 0) ≡ Less
  pub places : key_cmp (key 1 1 (pos 0) Way 1 1 9) (key 1 1 (pos 0) Way 1 2 0) ≡ Less
  pub rules : key_cmp (key 1 1 (pos 0) Way 1 1 3) (key 1 1 (pos 0) Way 1 1 2) ≡ Greater
  pub same : key_cmp (key 1 1 (negsuc 4) Way 1 1 3) (key 1 1 (negsuc 4) Way 1 1 3) ≡ Equal
  -- the bytes 00 00 00 00 00 00 01 02, 02, 7f ff, 01, 00 00 00 01, 00 00 00 00, 00 03 as one number
  pub a_rank : rank_of (key 258 2 (negsuc 0) Way 1 0 3) ≡ 0x0000_0000_0000_0102_02_7fff_01_00000001_00000000_0003
  -- a layer without items is left out; the rows of another stand as their items do, wherever these stand among others
  pub two_layers : layers_of (codes "a" ∷ codes "b" ∷ codes "c" ∷ []) (item 2 cafe ∷ item 0 cafe ∷ item 2 line ∷ [])
      ≡ record { name = codes "a"; extent = 4096; rows = cafe ∷ [] } ∷ record { name = codes "c"; extent = 4096; rows = cafe ∷ line ∷ [] } ∷ []
  pub text : text_of_items (codes "a" ∷ codes "b" ∷ codes "c" ∷ []) (item 2 cafe ∷ item 0 cafe ∷ item 2 line ∷ [])
      ≡ tile_text (record { name = codes "a"; extent = 4096; rows = cafe ∷ [] } ∷ record { name = codes "c"; extent = 4096; rows = cafe ∷ line ∷ [] } ∷ [])
  pub no_items : layers_of (codes "a" ∷ []) [] ≡ []
