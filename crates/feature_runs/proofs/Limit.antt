-- A run is at most as long as the limit, or is one item.
use Rattle.std.proofs.Common.{◌≡◌, ℕ, ◌+◌, ◌-◌, ◌<◌, ◌≤◌, ◌⊎◌, List, [], ◌∷◌, ◌++◌, length, min, take, drop, flat_map, sum_by, All, refl, sym, ap, ◌∙◌, arith, inl, inr}
use Rattle.std.specs.List.{AllByRecursion}
use Rattle.std.specs.List.Sorted.{IsPermutation}
use Rattle.std.proofs.lemmas.List.{length-append, length-take, length-drop, length-map}
use Rattle.std.proofs.lemmas.List.Sums.{sum_by-cons, sum_by-append}
use Rattle.std.proofs.lemmas.List.Concat.{flat_map-cons}
use Rattle.std.proofs.lemmas.List.Elements.{recursion_from_All}
use Rattle.std.proofs.lemmas.List.Sorted.{sum_by-IsPermutation, length_permutation}
use Rattle.tb_outside.specs.declared.spill.RunAt.{RunAt}
use Rattle.feature_runs.specs.declared.slot.Slot.{Slot}
use Rattle.feature_runs.specs.Entry.{Entry, bytes_of}
use Rattle.feature_runs.specs.Writing.{most_bytes, IsFull}
use Rattle.feature_runs.specs.Index.{slot_entry, entries_in, held_bytes, HoldsAll, IsLimited, IsWithin}

-- the order of an index doesn't matter
pub still_limited : (arena : List ℕ) (limit : ℕ) (before after : List Slot) → IsPermutation before after → HoldsAll arena before × IsLimited limit before → HoldsAll arena after × IsLimited limit after
still_limited arena limit before after same (all, limited) =
    let sum : held_bytes after ≡ held_bytes before = sum_by-IsPermutation (λ (slot : Slot). slot.len) before after same in
    let len : length after ≡ length before = length_permutation before after same in
    (omega (arith, sum, all), elim limited [ inl few ↦ inl (omega (arith, sum, few)) | inr one ↦ inr (omega (arith, len, one)) ])

-- the bytes of all items
bytes-len : (arena : List ℕ) (slots : List Slot) → AllByRecursion (IsWithin arena) slots → length (bytes_of (entries_in arena slots)) ≡ held_bytes slots
bytes-len arena [] within = refl
bytes-len arena (slot ∷ slots) within =
    let part = (slot_entry arena slot).text in
    let rest = bytes-len arena slots within.1 in
    let fits = within.0.0 in
    let here : length part ≡ slot.len = omega (arith, fits, length-take (slot.at + slot.len - slot.at) (drop slot.at arena), length-drop slot.at arena) in
    let joined : length (bytes_of (entries_in arena (slot ∷ slots))) ≡ length part + length (bytes_of (entries_in arena slots)) =
    ap length (flat_map-cons (λ (e : Entry). e.text) (slot_entry arena slot) (entries_in arena slots)) ∙ length-append part (bytes_of (entries_in arena slots)) in
    let sum : held_bytes (slot ∷ slots) ≡ slot.len + held_bytes slots = sum_by-cons (λ (s : Slot). s.len) slot slots in
    omega (arith, joined, here, rest, sum)

pub run_limited : (arena : List ℕ) (limit : ℕ) (slots : List Slot) → All (IsWithin arena) slots → IsLimited limit slots → (length (bytes_of (entries_in arena slots)) ≤ limit) ⊎ (length (entries_in arena slots) ≤ 1)
run_limited arena limit slots within limited =
    let len = bytes-len arena slots (recursion_from_All _ slots within) in
    let count = length-map slots (slot_entry arena) in
    elim limited [ inl few ↦ inl (omega (arith, len, few)) | inr one ↦ inr (omega (arith, count, one)) ]

-- the bytes of an index are as many as those that hold it
pub run_bytes : (arena : List ℕ) (slots : List Slot) → All (IsWithin arena) slots → HoldsAll arena slots → length (bytes_of (entries_in arena slots)) ≡ length arena
run_bytes arena slots within all = bytes-len arena slots (recursion_from_All _ slots within) ∙ all

-- a buffer with something held, where an item more would be too long
pub full_is : (arena : List ℕ) (limit : ℕ) (runs : List RunAt) (slots : List Slot) (entry : Entry) → All (IsWithin arena) slots → HoldsAll arena slots → 0 < length slots → min limit most_bytes < length arena + length entry.text
    → IsFull (record { limit = limit; runs = runs; entries = entries_in arena slots }) entry
full_is arena limit runs slots entry within all some more = (omega (arith, some, length-map slots (slot_entry arena)), omega (arith, more, run_bytes arena slots within all))
