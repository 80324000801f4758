-- What the calls of a merge promise.
use Rattle.std.specs.Prelude.{◌≡◌, ℕ, ◌+◌, ◌-◌, ◌^◌, min, ◌<◌, ◌≤◌, Option, None, Some, List, [], ◌∷◌, ◌++◌, length, map, Result, Ok, Err, All}
use Rattle.tb_types.specs.Needs.{group_need}
use Rattle.tb_outside.specs.declared.spill.RunAt.{RunAt}
use Rattle.mvt_codec.specs.declared.item.RunItem.{RunItem}
use Rattle.mvt_codec.specs.declared.item.Group.{Group}
use Rattle.mvt_codec.specs.Items.{items_bytes}
use Rattle.run_merge.specs.declared.named_run.Store.{Store}
use Rattle.run_merge.specs.declared.named_run.Store.TheVariants as stores
use Rattle.run_merge.specs.declared.named_run.NamedRun.{NamedRun}
use Rattle.run_merge.specs.declared.run_reader.RunReader.{RunReader}
use Rattle.run_merge.specs.declared.merge_err.MergeErr.{MergeErr}
use Rattle.run_merge.specs.declared.merge_err.MergeErr.TheVariants as merge_errors
use Rattle.run_merge.specs.Items.{IsItemOf, AreInOrder, item_tile, groups_in}
use Rattle.run_merge.specs.Objects.{Objects, AllTell, NoneRose}
use Rattle.run_merge.specs.Cursors.{left_groups, cursors_of, runs_of, AreThere, AreTold, AreFrom}
use Rattle.run_merge.specs.Steps.{FailsIn, StopsIn, bytes_left, items_of, bytes_named}

-- a merge: the number of the profile's layers, and how far each run is read
pub record Merging : Type 0 where
  pub layers : ℕ
  pub readers : List RunReader

-- ---- the runs that a merge begins with

abbrev pub named : Store → RunAt → NamedRun
named store run = record { store = store; run = run }

-- the listed runs of the lanes from this number on
abbrev pub named_from : ℕ → List (List RunAt) → List NamedRun
named_from lane [] = []
named_from lane (runs ∷ lists) = map (named (stores.Lane lane)) runs ++ named_from (lane + 1) lists

abbrev pub named_runs : List (List RunAt) → List NamedRun
named_runs lists = named_from 0 lists

-- ---- start

-- the merge has all bytes of the listed runs and, where all is told, all their items
pub record Starts {R : Type 0} (old new : Objects R) (layers : ℕ) (runs : List NamedRun) (merge : Merging) : Type 0 where
  pub counts : NoneRose old new
  pub layers_are : merge.layers ≡ layers
  pub few : length merge.readers ≤ 64
  pub there : AreThere new merge.readers
  pub told_are : AreTold new layers merge.readers
  pub bytes : bytes_left (cursors_of merge.readers) ≡ bytes_named runs
  pub groups : AllTell old → left_groups new (cursors_of merge.readers) ≡ groups_in (map (items_of old) runs)

abbrev pub IfStarted : {R : Type 0} → Objects R → Objects R → ℕ → List NamedRun → Result Merging MergeErr → Type 0
IfStarted old new layers runs (Ok merge) = Starts old new layers runs merge
IfStarted old new layers runs (Err e) = StopsIn old new runs e

-- ---- next_group

-- a group has an item, all its items are of one tile and of a profile with so many layers, and they stand in order
pub record IsGroupOf (layers : ℕ) (group : Group) : Type 0 where
  pub some : 0 < length group.items
  pub each : All (IsItemOf layers) group.items
  pub one : All (λ item. item_tile item ≡ group.tile.0) group.items
  pub sorted : AreInOrder group.items
  pub bytes : group.bytes ≡ min (length (items_bytes group.items)) (2 ^ 64 - 1)

-- the merge may be asked again
pub record IsReady {R : Type 0} (o : Objects R) (before after : Merging) : Type 0 where
  pub layers : after.layers ≡ before.layers
  pub runs : runs_of (cursors_of after.readers) ≡ runs_of (cursors_of before.readers)
  pub there : AreThere o after.readers
  pub told_are : AreTold o before.layers after.readers

-- the group is the least tile that is left, with all its items, and needs no more than its part. Tiles ascend, and no byte is
-- left out.
pub record Gives {R : Type 0} (o : Objects R) (part : ℕ) (before after : Merging) (group : Group) : Type 0 where
  pub ready : IsReady o before after
  pub is : IsGroupOf before.layers group
  pub fits : group_need group.bytes ≤ part
  pub from : (tile : ℕ) → AreFrom tile (cursors_of before.readers) → tile ≤ group.tile.0
  pub later : AreFrom (group.tile.0 + 1) (cursors_of after.readers)
  pub bytes : bytes_left (cursors_of before.readers) ≡ bytes_left (cursors_of after.readers) + length (items_bytes group.items)
  pub groups : AllTell o → left_groups o (cursors_of before.readers) ≡ (group.tile.0, group.items) ∷ left_groups o (cursors_of after.readers)

-- nothing is left
pub record IsAtEnd {R : Type 0} (o : Objects R) (before after : Merging) : Type 0 where
  pub ready : IsReady o before after
  pub bytes : bytes_left (cursors_of before.readers) ≡ 0
  pub groups : AllTell o → left_groups o (cursors_of before.readers) ≡ []

-- what the first group needs
abbrev pub first_need : List (ℕ × List RunItem) → ℕ
first_need [] = 0
first_need (group ∷ groups) = group_need (length (items_bytes group.1))

-- the first group, which has so many of the bytes that are left, needs more than the part, and nothing is taken
pub record IsTooLarge {R : Type 0} (o : Objects R) (part : ℕ) (before after : Merging) (need : ℕ) : Type 0 where
  pub ready : IsReady o before after
  pub above : part < need
  pub same : cursors_of after.readers ≡ cursors_of before.readers
  pub total : ℕ
  pub some : 0 < total
  pub within : total ≤ bytes_left (cursors_of before.readers)
  pub need_of : need ≡ group_need total
  pub need_is : AllTell o → need ≡ first_need (left_groups o (cursors_of before.readers))

abbrev pub IfNext : {R : Type 0} → Objects R → Objects R → ℕ → Merging → Merging → Result (Option Group) MergeErr → Type 0
IfNext old new part before after (Ok None) = (new ≡ old) × IsAtEnd old before after
IfNext old new part before after (Ok (Some group)) = (new ≡ old) × Gives old part before after group
IfNext old new part before after (Err (merge_errors.TooLarge need)) = (new ≡ old) × IsTooLarge old part before after need
IfNext old new part before after (Err (merge_errors.Spill whom)) = FailsIn old new (runs_of (cursors_of before.readers)) (merge_errors.Spill whom)
IfNext old new part before after (Err (merge_errors.Outside whom number at)) = FailsIn old new (runs_of (cursors_of before.readers)) (merge_errors.Outside whom number at)
IfNext old new part before after (Err merge_errors.Memory) = new ≡ old
