-- What the bytes of a run say, and runs together in order.
use Rattle.std.specs.Prelude.{◌≡◌, ℕ, zero, suc, ◌<◌, Option, None, Some, List, [], ◌∷◌, length}
use Rattle.std.specs.List.{AllByRecursion}
use Rattle.std.specs.List.Sorted.{IsSortedBy}
use Rattle.sorted_lists.specs.Sorting.{by_rank, sorted_by}
use Rattle.sorted_lists.specs.Grouping.{grouped_by}
use Rattle.sorted_lists.specs.Merging.{concatenated}
use Rattle.mvt_codec.specs.declared.item.RunItem.{RunItem}
use Rattle.mvt_codec.specs.Items.{items_bytes, IsItem, Fits}
use Rattle.mvt_codec.specs.Order.{rank_of}
use Rattle.feature_runs.specs.ItemReading.{item_at}

-- an item that was read, and those that the bytes behind it say
abbrev pub with_first : (List ℕ → List RunItem) → Option (RunItem × List ℕ) → List RunItem
with_first behind None = []
with_first behind (Some x) = x.0 ∷ behind x.1

-- the items at the front of the bytes, at most so many
abbrev pub items_from : ℕ → List ℕ → List RunItem
items_from zero bytes = []
items_from (suc n) bytes = with_first (items_from n) (item_at bytes)

-- the items at the front of the bytes, up to the first that is none
unfoldable pub items_in : List ℕ → List RunItem
items_in bytes = items_from (length bytes) bytes

-- an item's key as one number, and its tile
unfoldable pub item_rank : RunItem → ℕ
item_rank item = rank_of item.key

abbrev pub item_tile : RunItem → ℕ
item_tile item = item.key.tile

-- items in order of their keys; those with one key stay as they stand
abbrev pub in_order : List RunItem → List RunItem
in_order items = sorted_by (by_rank item_rank) items

abbrev pub AreInOrder : List RunItem → Type 0
AreInOrder items = IsSortedBy (by_rank item_rank) items

-- an item of a profile with so many layers
pub record IsItemOf (layers : ℕ) (item : RunItem) : Type 0 where
  pub is : IsItem item
  pub types : Fits item
  pub layer : item.key.layer < layers

-- these bytes are whole items, no key is below that of the item before it, and each layer is one of so many
pub record AreItems (layers : ℕ) (bytes : List ℕ) : Type 0 where
  pub whole : items_bytes (items_in bytes) ≡ bytes
  pub each : AllByRecursion (IsItemOf layers) (items_in bytes)
  pub sorted : AreInOrder (items_in bytes)

-- all items of some runs in order, items with one key as their runs stand
abbrev pub merged_runs : List (List RunItem) → List RunItem
merged_runs runs = in_order (concatenated runs)

-- the same, tile after tile: each tile that has an item, with all its items
abbrev pub groups_in : List (List RunItem) → List (ℕ × List RunItem)
groups_in runs = grouped_by item_tile (merged_runs runs)
