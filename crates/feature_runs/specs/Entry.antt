-- What a run buffer holds, and what a run is.
use Rattle.std.specs.Prelude.{ℕ, ◌+◌, ◌<◌, ◌≤◌, List, [], length, flat_map, slice_index_or}
use Rattle.std.specs.List.Sorted.{IsPermutation}
use Rattle.mvt_codec.specs.declared.item.RunItem.{RunItem}
use Rattle.mvt_codec.specs.Items.{item_text}
use Rattle.mvt_codec.specs.Order.{rank_of}
use Rattle.tb_outside.specs.declared.spill.RunAt.{RunAt}

-- an item that is held: the rank of its key, and its bytes
pub record Entry : Type 0 where
  pub rank : ℕ
  pub text : List ℕ

abbrev pub entry_of : RunItem → Entry
entry_of item = record { rank = rank_of item.key; text = item_text item }

-- entries one behind another
abbrev pub bytes_of : List Entry → List ℕ
bytes_of entries = flat_map (λ e. e.text) entries

abbrev pub nothing : Entry
nothing = record { rank = 0; text = [] }

-- no entry's key is below that of the entry before it
abbrev pub AreSorted : List Entry → Type 0
AreSorted entries = (k : ℕ) → k + 1 < length entries → (slice_index_or entries k nothing).rank ≤ (slice_index_or entries (k + 1) nothing).rank

-- a buffer: the bytes of a run at most, the runs that it wrote, and what it holds, in the order in which it was added
pub record Buffered : Type 0 where
  pub limit : ℕ
  pub runs : List RunAt
  pub entries : List Entry

-- these are the entries in an order of their keys
pub record IsInOrder (before after : List Entry) : Type 0 where
  pub same : IsPermutation before after
  pub sorted : AreSorted after
