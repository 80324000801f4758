-- How far runs are read, and what is left of them.
use Rattle.std.specs.Prelude.{◌≡◌, ℕ, ◌+◌, ◌*◌, ◌/◌, ◌^◌, ◌<◌, ◌≤◌, Option, None, Some, IfSome, List, [], ◌∷◌, length, map, drop, slice_index_or, slice_range, All}
use Rattle.tb_outside.specs.Spill.{Runs}
use Rattle.mvt_codec.specs.declared.item.RunItem.{RunItem}
use Rattle.mvt_codec.specs.Items.{item_text}
use Rattle.mvt_codec.specs.Order.{prefix_number, suffix_number}
use Rattle.run_merge.specs.declared.cursor.Head.{Head}
use Rattle.run_merge.specs.declared.cursor.Cursor.{Cursor}
use Rattle.run_merge.specs.declared.named_run.NamedRun.{NamedRun}
use Rattle.run_merge.specs.declared.window.Window.{Window}
use Rattle.run_merge.specs.declared.run_reader.RunReader.{RunReader}
use Rattle.run_merge.specs.Items.{items_in, AreItems, merged_runs, groups_in}
use Rattle.run_merge.specs.Objects.{Objects, told_of, IsThere}

-- ---- heads of items

-- a head's rank: its key as one number
unfoldable pub head_rank : Head → ℕ
head_rank head = head.prefix * 2 ^ 48 + head.suffix

-- the rank of what is next, and at a run's end a number above all ranks
unfoldable pub last_rank : ℕ
last_rank = 2 ^ 176

abbrev pub rank_at : Option Head → ℕ
rank_at None = last_rank
rank_at (Some head) = head_rank head

unfoldable pub head_tile : Head → ℕ
head_tile head = head.prefix / 2 ^ 64

-- the head of an item, and of the first of some items
unfoldable pub item_head : RunItem → Head
item_head item = record { prefix = prefix_number item.key; suffix = suffix_number item.key; len = length (item_text item) }

abbrev pub first_head : List RunItem → Option Head
first_head [] = None
first_head (item ∷ items) = Some (item_head item)

-- ---- always

-- an item of 30 bytes and more that ends within its run
pub record IsHead (len at : ℕ) (head : Head) : Type 0 where
  pub some : 30 ≤ head.len
  pub within : at + head.len ≤ len
  pub suffix : head.suffix < 2 ^ 48
  pub prefix : head.prefix < 2 ^ 128

-- the run ends here, or an item is next
abbrev pub IsNext : ℕ → ℕ → Option Head → Type 0
IsNext len at None = at ≡ len
IsNext len at (Some head) = IsHead len at head

abbrev pub IsPlaced : Cursor → Type 0
IsPlaced cursor = IsNext cursor.run.run.len cursor.at cursor.head

-- what is next has this rank or a higher one
abbrev pub IsFromRank : ℕ → Cursor → Type 0
IsFromRank rank cursor = rank ≤ rank_at cursor.head

-- nothing is next
abbrev pub IsDone : Cursor → Type 0
IsDone cursor = cursor.head ≡ None

-- what was read ahead lies within the run
abbrev pub IsWithin : NamedRun → Window → Type 0
IsWithin run window = window.from + length window.bytes.items ≤ run.run.len

pub record IsSound (reader : RunReader) : Type 0 where
  pub next : IsPlaced reader.cursor
  pub within : IsWithin reader.cursor.run reader.window

-- ---- where runs are told

abbrev pub bytes_of_run : Runs → NamedRun → List ℕ
bytes_of_run runs run = slice_index_or runs.ended run.run.run []

-- a run is ended and has its length
pub record Stands (runs : Runs) (run : NamedRun) : Type 0 where
  pub ended : run.run.run < length runs.ended
  pub len : run.run.len ≡ length (bytes_of_run runs run)

-- and is of sorted items
pub record IsRun (layers : ℕ) (runs : Runs) (run : NamedRun) : Type 0 where
  pub stands : Stands runs run
  pub items : AreItems layers (bytes_of_run runs run)

-- the bytes that were read ahead are those of the run
abbrev pub IsAhead : Runs → NamedRun → Window → Type 0
IsAhead runs run window = window.bytes.items ≡ slice_range (bytes_of_run runs run) window.from (window.from + length window.bytes.items)

-- the items that are left of a run from a place on
abbrev pub left_in : Runs → NamedRun → ℕ → List RunItem
left_in runs run at = items_in (drop at (bytes_of_run runs run))

-- a reader's run stands, sorted items are left of it, the next of which has the reader's head, and what it read ahead is right
pub record Reads (layers : ℕ) (reader : RunReader) (runs : Runs) : Type 0 where
  pub stands : Stands runs reader.cursor.run
  pub items : AreItems layers (drop reader.cursor.at (bytes_of_run runs reader.cursor.run))
  pub head : reader.cursor.head ≡ first_head (left_in runs reader.cursor.run reader.cursor.at)
  pub ahead : IsAhead runs reader.cursor.run reader.window

-- the items that are left of a run from a place on; none where its spill doesn't tell
abbrev pub left_if : NamedRun → ℕ → Option Runs → List RunItem
left_if run at None = []
left_if run at (Some runs) = left_in runs run at

abbrev pub left_of : {R : Type 0} → Objects R → Cursor → List RunItem
left_of o cursor = left_if cursor.run cursor.at (told_of o cursor.run)

-- ---- many runs

abbrev pub cursors_of : List RunReader → List Cursor
cursors_of readers = map (λ reader. reader.cursor) readers

abbrev pub runs_of : List Cursor → List NamedRun
runs_of cursors = map (λ cursor. cursor.run) cursors

abbrev pub ranks_of : List Cursor → List ℕ
ranks_of cursors = map (λ cursor. rank_at cursor.head) cursors

-- all items that are left, in order, and tile after tile
abbrev pub left_merged : {R : Type 0} → Objects R → List Cursor → List RunItem
left_merged o cursors = merged_runs (map (left_of o) cursors)

abbrev pub left_groups : {R : Type 0} → Objects R → List Cursor → List (ℕ × List RunItem)
left_groups o cursors = groups_in (map (left_of o) cursors)

-- each run's spill is there
abbrev pub AreThere : {R : Type 0} → Objects R → List RunReader → Type 0
AreThere o readers = All (λ reader. IsThere o reader.cursor.run.store) readers

-- what is told fits how far each run is read
abbrev pub IsTold : {R : Type 0} → Objects R → ℕ → RunReader → Type 0
IsTold o layers reader = IfSome (told_of o reader.cursor.run) (Reads layers reader)

abbrev pub AreTold : {R : Type 0} → Objects R → ℕ → List RunReader → Type 0
AreTold o layers readers = All (IsTold o layers) readers

abbrev pub AreSound : List RunReader → Type 0
AreSound readers = All IsSound readers

-- what is next in a run is of this tile or a later one
abbrev pub IsFrom : ℕ → Cursor → Type 0
IsFrom tile cursor = IfSome cursor.head (λ head. tile ≤ head_tile head)

abbrev pub AreFrom : ℕ → List Cursor → Type 0
AreFrom tile cursors = All (IsFrom tile) cursors
