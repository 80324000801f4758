-- Worked cases of needs: a block at the part and one byte above it, blocks that aren't read, and the first tile that needs too much.
use Rattle.std.specs.Prelude.{◌≡◌, ℕ, pos, None, Some, List, [], ◌∷◌, map}
use Rattle.tb_types.specs.Needs.{batch_part}
use Rattle.tb_types.specs.declared.element.Kind.TheVariants as element_kinds
use Rattle.pbf_blobs.specs.declared.block.BlockAt.{BlockAt}
use Rattle.pbf_blobs.specs.declared.block.BlockKind.{BlockKind}
use Rattle.pbf_blobs.specs.declared.block.BlockKind.TheVariants as kinds
use Rattle.mvt_codec.specs.declared.item.RunItem.{RunItem}
use Rattle.tile_model.specs.Needs.{largest, block_needs, tile_need, first_over}

abbrev pub block : ℕ → BlockKind → BlockAt
block len kind = record { no = 0; at = 0; len = len; kind = kind }

-- an item of 35 bytes: 30, and its id, type, integers' number, attributes' number and one integer
abbrev pub item : RunItem
item = record {
  key = record { tile = 0; layer = 0; order = pos 0; kind = element_kinds.Node; place = record { block = 0; index = 0 }; rule = 0 };
  row = record { id = 1; form = 1; ints = 9 ∷ []; attributes = [] };
}

abbrev pub groups : List (ℕ × List RunItem)
groups = (0, item ∷ []) ∷ (1, item ∷ item ∷ []) ∷ (2, item ∷ item ∷ item ∷ []) ∷ []

pub record WorkedNeeds : Type 0 where
  pub parts : map batch_part (2220713 ∷ 2220714 ∷ 1048576 ∷ []) ≡ 1665535 ∷ 1665536 ∷ 786432 ∷ []
  pub none : largest [] ≡ 0
  pub blocks : block_needs (block 13 kinds.Header ∷ block 100000 kinds.Elements ∷ block 200000 kinds.Other ∷ []) ≡ 65744 ∷ 1665536 ∷ []
  pub most : largest (block_needs (block 13 kinds.Header ∷ block 100000 kinds.Elements ∷ block 7 kinds.Elements ∷ [])) ≡ 1665536
  pub tiles : map tile_need groups ≡ 131212 ∷ 131352 ∷ 131492 ∷ []
  pub first : map (λ part. first_over part groups) (131492 ∷ 131491 ∷ 131351 ∷ []) ≡ None ∷ Some 131492 ∷ Some 131352 ∷ []
