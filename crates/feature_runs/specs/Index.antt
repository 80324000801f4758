-- The index of a buffer: where the items lie in its bytes.
use Rattle.std.specs.Prelude.{◌≡◌, ℕ, ◌+◌, ◌*◌, ◌^◌, ◌<◌, ◌≤◌, ◌⊎◌, List, length, map, slice_range, sum_by}
use Rattle.feature_runs.specs.declared.slot.Slot.{Slot}
use Rattle.feature_runs.specs.Entry.{Entry}

abbrev pub slot_entry : List ℕ → Slot → Entry
slot_entry arena slot = record { rank = slot.prefix * 2 ^ 48 + slot.suffix; text = slice_range arena slot.at (slot.at + slot.len) }

abbrev pub entries_in : List ℕ → List Slot → List Entry
entries_in arena slots = map (slot_entry arena) slots

-- an item lies within the bytes, and the last six bytes of its key are a number of 48 bits
abbrev pub IsWithin : List ℕ → Slot → Type 0
IsWithin arena slot = (slot.at + slot.len ≤ length arena) × (slot.suffix < 2 ^ 48)

-- the bytes of all items of an index
abbrev pub held_bytes : List Slot → ℕ
held_bytes index = sum_by (λ slot. slot.len) index

-- the items of an index are all that there is in the bytes
abbrev pub HoldsAll : List ℕ → List Slot → Type 0
HoldsAll arena index = held_bytes index ≡ length arena

-- they are at most so many, or those of one item
abbrev pub IsLimited : ℕ → List Slot → Type 0
IsLimited limit index = (held_bytes index ≤ limit) ⊎ (length index ≤ 1)
