-- Worked cases of runs and their merge.
use Rattle.std.specs.Prelude.{◌≡◌, ℕ, negsuc, None, List, [], ◌∷◌, ◌++◌}
use Rattle.tb_types.specs.declared.element.Kind.TheVariants.{Node}
use Rattle.tb_outside.specs.declared.spill.RunAt.{RunAt}
use Rattle.mvt_codec.specs.declared.item.RunItem.{RunItem}
use Rattle.mvt_codec.specs.Worked.{cafe}
use Rattle.mvt_codec.specs.WorkedKeys.{key}
use Rattle.feature_runs.specs.WorkedItems.{cafe_item, key_bytes, tile_bytes, with_row}
use Rattle.run_merge.specs.declared.named_run.Store.TheVariants as stores
use Rattle.run_merge.specs.Items.{items_in, AreInOrder, groups_in}
use Rattle.run_merge.specs.Cursors.{left_if}
use Rattle.run_merge.specs.Answers.{named, named_runs, first_need}

-- the bytes of a cafe
abbrev pub text : List ℕ
text = with_row (key_bytes tile_bytes 2 0)

-- a cafe in this tile, of this place in its block and this id
abbrev pub at : ℕ → ℕ → ℕ → RunItem
at tile index id = record { key = key tile 2 (negsuc 0) Node 1 index 3; row = record cafe { id = id } }

abbrev pub run_at : ℕ → RunAt
run_at number = record { run = number; len = 100 }

pub record WorkedRuns : Type 0 where
  -- items are read one behind another, up to bytes that are none
  pub none : items_in [] ≡ []
  pub two : items_in (text ++ text) ≡ cafe_item ∷ cafe_item ∷ []
  pub junk : items_in (text ++ (7 ∷ text)) ≡ cafe_item ∷ []
  -- tile after tile, and in a tile by key; items of one key stand as their runs do
  pub groups : groups_in ((at 1 0 5 ∷ at 5 0 6 ∷ []) ∷ [] ∷ (at 1 0 7 ∷ at 1 1 8 ∷ at 3 0 9 ∷ []) ∷ []) ≡ (1, at 1 0 5 ∷ at 1 0 7 ∷ at 1 1 8 ∷ []) ∷ (3, at 3 0 9 ∷ []) ∷ (5, at 5 0 6 ∷ []) ∷ []
  pub no_groups : groups_in ([] ∷ [] ∷ []) ≡ []
  pub not_in_order : AreInOrder (at 5 0 6 ∷ at 1 0 5 ∷ []) → ⊥
  -- what the first group needs: four times 54 bytes, and 131,072
  pub need : first_need ((258, cafe_item ∷ []) ∷ []) ≡ 131288
  -- a lane's list is named by the lane, also where the one before it is empty
  pub names : named_runs ((run_at 4 ∷ []) ∷ [] ∷ (run_at 0 ∷ run_at 1 ∷ []) ∷ []) ≡ named (stores.Lane 0) (run_at 4) ∷ named (stores.Lane 2) (run_at 0) ∷ named (stores.Lane 2) (run_at 1) ∷ []
  -- of a run that isn't told nothing is said
  pub untold : left_if (named stores.Spool (run_at 0)) 0 None ≡ []
