-- What writing the tiles of runs answers.
use Rattle.std.specs.Prelude.{◌≡◌, ℕ, ◌≤◌, ◌+◌, ◌++◌, Option, None, Some, Result, Ok, Err, IfOk, OnOk, List, [], ◌∷◌, length, map, All, ⊤}
use Rattle.tb_types.specs.Counts.{Rose}
use Rattle.tb_types.specs.declared.trouble.Whom.TheVariants as whom
use Rattle.tb_outside.specs.Spill.{SpillSeen, Runs}
use Rattle.tb_outside.specs.declared.spill.RunAt.{RunAt}
use Rattle.profile_rules.specs.declared.parts.Parts.{Parts}
use Rattle.mvt_codec.specs.declared.item.RunItem.{RunItem}
use Rattle.mvt_codec.specs.Groups.{IsReadAgain, text_of_items}
use Rattle.pmtiles_dirs.specs.declared.meta.Meta.{Meta}
use Rattle.pmtiles_dirs.specs.Contents.{Tile}
use Rattle.pmtiles_file.specs.Spool.{KeepsEnded}
use Rattle.pmtiles_file.specs.Writing.{WriterSeen, Wrote, RunsStand, next_id}
use Rattle.run_merge.specs.declared.merge_err.MergeErr.{MergeErr}
use Rattle.run_merge.specs.declared.merge_err.MergeErr.TheVariants as errors
use Rattle.run_merge.specs.declared.named_run.Store.{Store}
use Rattle.run_merge.specs.Answers.{Merging, named_runs}
use Rattle.run_merge.specs.Cursors.{cursors_of, left_groups}
use Rattle.run_merge.specs.Items.{groups_in}
use Rattle.run_merge.specs.Objects.{Objects, AllTell, NoneRose, OnlyRose, spill_of, whom_of}
use Rattle.run_merge.specs.Steps.{items_of}
use Rattle.tile_model.specs.Map.{tiles_from, layer_names}
use Rattle.tile_model.specs.Needs.{first_over}

-- the names of at most 64 layers, each of at most 1,024 bytes
pub record AreShort (names : List (List ℕ)) : Type 0 where
  pub few : length names ≤ 64
  pub each : All (λ name. length name ≤ 1024) names

-- the items of all listed runs, tile after tile
abbrev pub all_groups : {R : Type 0} → Objects R → List (List RunAt) → List (ℕ × List RunItem)
all_groups o runs = groups_in (map (items_of o) (named_runs runs))

-- the text of a tile's items is decoded as the rows of its layers
abbrev pub IsDecoded : List (List ℕ) → ℕ × List RunItem → Type 0
IsDecoded names group = IsReadAgain names group.1 (text_of_items names group.1)

-- where a spool told its runs, it tells them still, and the writer wrote these tiles there
pub record HasWrote (w : WriterSeen) (after : Option Runs) (tiles : List Tile) : Type 0 where
  pub runs : Runs
  pub told : after ≡ Some runs
  pub wrote : Wrote w runs.ended tiles

abbrev pub Writes : WriterSeen → Option Runs → Option Runs → List Tile → Type 0
Writes w before after tiles = (runs : Runs) → before ≡ Some runs → HasWrote w after tiles

-- the spool's count rose where it failed, and else stays
abbrev pub TileCounts : {A : Type 0} → Result A MergeErr → ℕ → ℕ → Type 0
TileCounts (Ok x) old new = new ≡ old
TileCounts (Err (errors.Spill whom.Spool)) old new = Rose old new
TileCounts (Err (errors.Spill whom.Profile)) old new = ⊥
TileCounts (Err (errors.Spill (whom.Lane k))) old new = ⊥
TileCounts (Err (errors.Spill whom.Archive)) old new = ⊥
TileCounts (Err (errors.Spill whom.Console)) old new = ⊥
TileCounts (Err (errors.Outside w run at)) old new = ⊥
TileCounts (Err (errors.TooLarge need)) old new = ⊥
TileCounts (Err errors.Memory) old new = new ≡ old

-- one tile more was written
pub record TileAnswers (old new : WriterSeen) (tile : Tile) (before after : SpillSeen) (result : Result ⊤ MergeErr) : Type 0 where
  pub next : OnOk result (next_id new ≡ tile.id + 1)
  pub meta : new.meta ≡ old.meta
  pub added : OnOk result ((tiles : List Tile) → Writes old before.runs before.runs tiles → Writes new before.runs after.runs (tiles ++ tile ∷ []))
  pub stands : OnOk result (RunsStand new after.runs)
  pub untold : OnOk result (before.runs ≡ None → after.runs ≡ None)
  pub kept : KeepsEnded before.runs after.runs
  pub counts : TileCounts result before.faults after.faults
  pub never_falls : before.faults ≤ after.faults

-- Why the tiles of these groups were written or weren't: all are within the part; or a spill failed; or one that doesn't tell gave
-- back something else; or the first that is above the part has this need; or memory wants.
abbrev pub Ends : {R A : Type 0} → ℕ → List (ℕ × List RunItem) → Objects R → Objects R → Result A MergeErr → Type 0
Ends part groups old new (Ok x) = NoneRose old new × (AllTell old → first_over part groups ≡ None)
Ends part groups old new (Err (errors.Spill w)) = (store : Store) × (w ≡ whom_of store) × OnlyRose old new store
Ends part groups old new (Err (errors.Outside w run at)) = (store : Store) × (w ≡ whom_of store) × ((spill_of old store).runs ≡ None) × NoneRose old new
Ends part groups old new (Err (errors.TooLarge need)) = NoneRose old new × (AllTell old → first_over part groups ≡ Some need)
Ends part groups old new (Err errors.Memory) = NoneRose old new

-- the readers stay, what the spills tell stays, and the spool keeps its ended runs
pub record Stays {R : Type 0} (old new : Objects R) : Type 0 where
  pub readers : new.readers ≡ old.readers
  pub spills : map (λ (s : SpillSeen). s.runs) new.spills ≡ map (λ (s : SpillSeen). s.runs) old.spills
  pub spool : KeepsEnded old.spool.runs new.spool.runs

-- the tiles of the groups that were left of a merge were written, behind those before
pub record TilesAnswers {R : Type 0} (names : List (List ℕ)) (part : ℕ) (merge : Merging) (old new : WriterSeen) (before after : Objects R) (result : Result ⊤ MergeErr) : Type 0 where
  pub meta : new.meta ≡ old.meta
  pub stays : Stays before after
  pub ends : Ends part (left_groups before (cursors_of merge.readers)) before after result
  pub stands : OnOk result (RunsStand new after.spool.runs)
  pub decoded : OnOk result (AllTell before → All (IsDecoded names) (left_groups before (cursors_of merge.readers)))
  pub wrote : OnOk result (AllTell before → (tiles : List Tile) → Writes old before.spool.runs before.spool.runs tiles
      → Writes new before.spool.runs after.spool.runs (tiles ++ tiles_from names (left_groups before (cursors_of merge.readers))))

-- the tiles of groups were written
pub record HasTiles {R : Type 0} (parts : Parts) (meta : Meta) (groups : List (ℕ × List RunItem)) (before after : Objects R) (w : WriterSeen) : Type 0 where
  pub meta_is : w.meta ≡ meta
  pub stands : RunsStand w after.spool.runs
  pub decoded : AllTell before → All (IsDecoded (layer_names parts)) groups
  pub wrote : AllTell before → Writes w before.spool.runs after.spool.runs (tiles_from (layer_names parts) groups)

pub record MapAnswers {R : Type 0} (parts : Parts) (part : ℕ) (meta : Meta) (groups : List (ℕ × List RunItem)) (before after : Objects R) (result : Result WriterSeen MergeErr) : Type 0 where
  pub stays : Stays before after
  pub ends : Ends part groups before after result
  pub ok : IfOk result (HasTiles parts meta groups before after)
