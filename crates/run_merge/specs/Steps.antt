-- What single steps of a merge do: how they read runs, and what they take.
use Rattle.std.specs.Prelude.{◌≡◌, ℕ, ◌+◌, ◌-◌, ◌^◌, min, ◌≤◌, ◌⊎◌, Option, None, Some, IfSome, List, [], ◌∷◌, ◌++◌, length, map, drop, slice_index_or, Result, Ok, Err, All, Contains, nat_lt, sum_by, ⊤}
use Rattle.std.specs.List.{AllByRecursion, IsFirstBest}
use Rattle.tb_types.specs.Needs.{group_need}
use Rattle.tb_types.specs.declared.trouble.Whom.{Whom}
use Rattle.tb_outside.specs.Spill.{Runs}
use Rattle.mvt_codec.specs.declared.item.RunItem.{RunItem}
use Rattle.mvt_codec.specs.Items.{item_text, items_bytes}
use Rattle.feature_runs.specs.Appending.{grown, HasBegun, PutsOff}
use Rattle.run_merge.specs.declared.cursor.Head.{Head}
use Rattle.run_merge.specs.declared.cursor.Cursor.{Cursor}
use Rattle.run_merge.specs.declared.gather.Gathered.{Gathered}
use Rattle.run_merge.specs.declared.named_run.Store.{Store}
use Rattle.run_merge.specs.declared.named_run.Store.TheVariants as stores
use Rattle.run_merge.specs.declared.named_run.NamedRun.{NamedRun}
use Rattle.run_merge.specs.declared.run_reader.RunReader.{RunReader}
use Rattle.run_merge.specs.declared.merge_err.MergeErr.{MergeErr}
use Rattle.run_merge.specs.declared.merge_err.MergeErr.TheVariants as merge_errors
use Rattle.run_merge.specs.Items.{IsItemOf, AreInOrder, merged_runs}
use Rattle.run_merge.specs.Objects.{Objects, told_of, whom_of, IsThere, AllTell, Keeps, OnlyRose, NoneRose}
use Rattle.run_merge.specs.Cursors.{head_rank, head_tile, IsDone, IsFromRank, item_head, IsRun, Reads, left_in, left_if, left_of, left_merged, AreFrom, cursors_of, runs_of, ranks_of, AreSound, AreTold}

-- a fault of the spill of one of these runs
pub record FaultIn {R : Type 0} (old new : Objects R) (runs : List NamedRun) (whom : Whom) : Type 0 where
  pub run : NamedRun
  pub named : Contains runs run
  pub whom_is : whom ≡ whom_of run.store
  pub keeps : Keeps old new
  pub only : OnlyRose old new run.store

-- a place of one of these runs, whose spill doesn't tell
pub record OutsideIn {R : Type 0} (old new : Objects R) (runs : List NamedRun) (whom : Whom) (number at : ℕ) : Type 0 where
  pub run : NamedRun
  pub named : Contains runs run
  pub whom_is : whom ≡ whom_of run.store
  pub number_is : number ≡ run.run.run
  pub within : at ≤ run.run.len
  pub untold : told_of old run ≡ None
  pub same : new ≡ old

-- why a call that only reads these runs is refused
abbrev pub FailsIn : {R : Type 0} → Objects R → Objects R → List NamedRun → MergeErr → Type 0
FailsIn old new runs (merge_errors.Spill whom) = FaultIn old new runs whom
FailsIn old new runs (merge_errors.Outside whom number at) = OutsideIn old new runs whom number at
FailsIn old new runs (merge_errors.TooLarge need) = ⊥
FailsIn old new runs merge_errors.Memory = new ≡ old

abbrev pub OnlyReads : {R A : Type 0} → Objects R → Objects R → List NamedRun → Result A MergeErr → Type 0
OnlyReads old new runs (Ok x) = new ≡ old
OnlyReads old new runs (Err e) = FailsIn old new runs e

-- the item that was next is read, and none is taken
pub record Loads (layers : ℕ) (old new : RunReader) (item : RunItem) (told : Option Runs) : Type 0 where
  pub cursor : new.cursor ≡ old.cursor
  pub item_is : IsItemOf layers item
  pub head : old.cursor.head ≡ Some (item_head item)
  pub told_is : IfSome told (Reads layers new)
  pub first : IfSome told (λ runs. left_in runs old.cursor.run old.cursor.at ≡ item ∷ drop 1 (left_in runs old.cursor.run old.cursor.at))

-- the item that was next is taken
pub record Advances (layers : ℕ) (old new : RunReader) (head : Head) (told : Option Runs) : Type 0 where
  pub run : new.cursor.run ≡ old.cursor.run
  pub at : new.cursor.at ≡ old.cursor.at + head.len
  pub rises : IsFromRank (head_rank head) new.cursor
  pub told_is : IfSome told (Reads layers new)
  pub left : left_if old.cursor.run new.cursor.at told ≡ drop 1 (left_if old.cursor.run old.cursor.at told)

-- ---- steps over many runs

-- the bytes that are left of all runs
abbrev pub bytes_left : List Cursor → ℕ
bytes_left cursors = sum_by (λ (cursor : Cursor). cursor.run.run.len - cursor.at) cursors

-- what is next in the run of this number has this head, and the first of the least keys
pub record IsLeast (cursors : List Cursor) (number : ℕ) (head : Head) : Type 0 where
  pub head_is : slice_index_or (map (λ (cursor : Cursor). cursor.head) cursors) number None ≡ Some head
  pub first : IsFirstBest nat_lt (ranks_of cursors) (length cursors) number

abbrev pub IfLeast : List Cursor → Option (ℕ × Head) → Type 0
IfLeast cursors None = All IsDone cursors
IfLeast cursors (Some found) = IsLeast cursors found.0 found.1

-- the items that are left of the run of this number
abbrev pub left_at : {R : Type 0} → Objects R → List RunReader → ℕ → List RunItem
left_at o readers number = slice_index_or (map (left_of o) (cursors_of readers)) number []

-- the next item of a run is read, and nothing is taken
pub record LoadsAt {R : Type 0} (o : Objects R) (layers number : ℕ) (head : Head) (before after : List RunReader) (item : RunItem) : Type 0 where
  pub cursors : cursors_of after ≡ cursors_of before
  pub told_are : AreTold o layers after
  pub item_is : IsItemOf layers item
  pub head_is : head ≡ item_head item
  pub first : AllTell o → left_at o before number ≡ item ∷ drop 1 (left_at o before number)

-- an item is taken of the front of these items, and of all that are left in order
pub record TakesFirst (layers : ℕ) (head : Head) (items before after : List RunItem) : Type 0 where
  pub item : RunItem
  pub item_is : IsItemOf layers item
  pub head_is : item_head item ≡ head
  pub first : items ≡ item ∷ drop 1 items
  pub merged : before ≡ item ∷ after

-- the least item is taken
pub record AdvancesAt {R : Type 0} (o : Objects R) (layers number : ℕ) (head : Head) (before after : List RunReader) : Type 0 where
  pub runs : runs_of (cursors_of after) ≡ runs_of (cursors_of before)
  pub told_are : AreTold o layers after
  pub rises : All (IsFromRank (head_rank head)) (cursors_of after)
  pub bytes : bytes_left (cursors_of before) ≡ bytes_left (cursors_of after) + head.len
  pub merged : AllTell o → TakesFirst layers head (left_at o before number) (left_merged o (cursors_of before)) (left_merged o (cursors_of after))

-- ---- gathering a tile

-- an item is taken of all that are left, and is kept where there is room
pub record TakesKept (layers : ℕ) (head : Head) (part : ℕ) (before after : List RunItem) (old new : Gathered) : Type 0 where
  pub item : RunItem
  pub item_is : IsItemOf layers item
  pub head_is : item_head item ≡ head
  pub merged : before ≡ item ∷ after
  pub kept : group_need new.bytes ≤ part → new.items ≡ old.items ++ item ∷ []

-- the least item is taken, and is kept where all that were taken need no more than the part
pub record Takes {R : Type 0} (o : Objects R) (layers : ℕ) (head : Head) (before after : List RunReader) (old new : Gathered) : Type 0 where
  pub tile : new.tile ≡ old.tile
  pub part : new.part ≡ old.part
  pub sum : new.bytes ≡ min (old.bytes + head.len) (2 ^ 64 - 1)
  pub runs : runs_of (cursors_of after) ≡ runs_of (cursors_of before)
  pub told_are : AreTold o layers after
  pub rises : All (IsFromRank (head_rank head)) (cursors_of after)
  pub bytes : bytes_left (cursors_of before) ≡ bytes_left (cursors_of after) + head.len
  pub kept : group_need new.bytes ≤ old.part → (item : RunItem) × (new.items ≡ old.items ++ item ∷ []) × IsItemOf layers item × (item_head item ≡ head)
  pub merged : AllTell o → TakesKept layers head old.part (left_merged o (cursors_of before)) (left_merged o (cursors_of after)) old new

-- none is of this tile, or the least is
abbrev pub IfLeastOf : ℕ → List Cursor → Option (ℕ × Head) → Type 0
IfLeastOf tile cursors None = AreFrom (tile + 1) cursors
IfLeastOf tile cursors (Some found) = IsLeast cursors found.0 found.1 × (head_tile found.1 ≡ tile)

-- ---- runs of the spool

-- a run that is told is ended, has its length, and is of sorted items
abbrev pub IsReadable : {R : Type 0} → Objects R → ℕ → NamedRun → Type 0
IsReadable o layers run = IfSome (told_of o run) (λ runs. IsRun layers runs run)

abbrev pub AreReadable : {R : Type 0} → Objects R → ℕ → List NamedRun → Type 0
AreReadable o layers runs = All (IsReadable o layers) runs

abbrev pub RunsAreThere : {R : Type 0} → Objects R → List NamedRun → Type 0
RunsAreThere o runs = All (λ (run : NamedRun). IsThere o run.store) runs

-- the items of a run that is told
abbrev pub items_of : {R : Type 0} → Objects R → NamedRun → List RunItem
items_of o run = left_if run 0 (told_of o run)

abbrev pub bytes_named : List NamedRun → ℕ
bytes_named runs = sum_by (λ (run : NamedRun). run.run.len) runs

-- one of these runs, or one of the spool
abbrev pub IsOneOf : List NamedRun → NamedRun → Type 0
IsOneOf runs run = Contains runs run ⊎ (run.store ≡ stores.Spool)

-- a place of one of these runs, or of a run of the spool, that isn't told
pub record OutsideOf {R : Type 0} (old new : Objects R) (runs : List NamedRun) (whom : Whom) (number at : ℕ) : Type 0 where
  pub run : NamedRun
  pub named : IsOneOf runs run
  pub whom_is : whom ≡ whom_of run.store
  pub number_is : number ≡ run.run.run
  pub within : at ≤ run.run.len
  pub untold : told_of old run ≡ None
  pub counts : NoneRose old new

-- why a call that reads these runs, and writes to the spool, is refused
abbrev pub StopsIn : {R : Type 0} → Objects R → Objects R → List NamedRun → MergeErr → Type 0
StopsIn old new runs (merge_errors.Spill whom) = (store : Store) × (whom ≡ whom_of store) × OnlyRose old new store
StopsIn old new runs (merge_errors.Outside whom number at) = OutsideOf old new runs whom number at
StopsIn old new runs (merge_errors.TooLarge need) = ⊥
StopsIn old new runs merge_errors.Memory = NoneRose old new

abbrev pub Works : {R A : Type 0} → Objects R → Objects R → List NamedRun → Result A MergeErr → Type 0
Works old new runs (Ok x) = NoneRose old new
Works old new runs (Err e) = StopsIn old new runs e

-- the least item is taken, and its bytes are appended to the run that is begun, or put off
pub record PutsNext {R : Type 0} (old new : Objects R) (layers : ℕ) (head : Head) (before after : List RunReader) (block_before block_after : List ℕ) : Type 0 where
  pub item : RunItem
  pub item_is : IsItemOf layers item
  pub head_is : item_head item ≡ head
  pub readers : new.readers ≡ old.readers
  pub spills : new.spills ≡ old.spills
  pub puts : PutsOff {A = ⊤} old.spool new.spool block_before block_after (item_text item) (Ok tt)
  pub runs : runs_of (cursors_of after) ≡ runs_of (cursors_of before)
  pub told_are : AreTold new layers after
  pub rises : All (IsFromRank (head_rank head)) (cursors_of after)
  pub bytes : bytes_left (cursors_of before) ≡ bytes_left (cursors_of after) + head.len
  pub merged : AllTell old → left_merged old (cursors_of before) ≡ item ∷ left_merged new (cursors_of after)

-- all that is left is appended to the run that is begun: items in order
pub record AppendsAll {R : Type 0} (old new : Objects R) (layers : ℕ) (readers : List RunReader) (len : ℕ) : Type 0 where
  pub items : List RunItem
  pub each : AllByRecursion (IsItemOf layers) items
  pub sorted : AreInOrder items
  pub appended : new.spool.runs ≡ grown (items_bytes items) old.spool.runs
  pub begun : HasBegun new.spool
  pub len_is : len ≡ length (items_bytes items)
  pub bytes : len ≡ bytes_left (cursors_of readers)
  pub merged : AllTell old → items ≡ left_merged old (cursors_of readers)

-- a run that has all items of some others
pub record IsMadeOf {R : Type 0} (old new : Objects R) (layers bytes : ℕ) (lists : List (List RunItem)) (run : NamedRun) : Type 0 where
  pub there : IsThere new run.store
  pub readable : IsReadable new layers run
  pub bytes_are : run.run.len ≡ bytes
  pub items : AllTell old → items_of new run ≡ merged_runs lists

-- readers of these runs, each at its run's begin
pub record Opens {R : Type 0} (o : Objects R) (layers : ℕ) (runs : List NamedRun) (readers : List RunReader) : Type 0 where
  pub runs_are : runs_of (cursors_of readers) ≡ runs
  pub sound : AreSound readers
  pub told_are : AreTold o layers readers
  pub bytes : bytes_left (cursors_of readers) ≡ bytes_named runs
  pub items : map (left_of o) (cursors_of readers) ≡ map (items_of o) runs

-- runs that have all items of some others, as these are now
pub record HaveAll {R : Type 0} (old new : Objects R) (layers : ℕ) (before after : List NamedRun) : Type 0 where
  pub there : RunsAreThere new after
  pub readable : AreReadable new layers after
  pub names : All (IsOneOf before) after
  pub bytes : bytes_named after ≡ bytes_named before
  pub items : AllTell old → merged_runs (map (items_of new) after) ≡ merged_runs (map (items_of old) before)
