-- One more item is held.
use Rattle.std.proofs.Common.{◌≡◌, ℕ, ◌+◌, ◌-◌, ◌*◌, ◌^◌, ◌≤◌, List, [], ◌∷◌, ◌++◌, length, take, drop, map, All, refl, sym, ap, ◌∙◌, arith}
use Rattle.std.specs.List.{AllByRecursion}
use Rattle.std.proofs.lemmas.List.{map-append, take-append-le, drop-append-le, length-drop, take_all}
use Rattle.std.proofs.lemmas.List.Elements.{recursion_from_All}
use Rattle.std.proofs.Math.Seq.{drop-append_seam}
use Rattle.tb_outside.specs.declared.spill.RunAt.{RunAt}
use Rattle.feature_runs.specs.declared.slot.Slot.{Slot}
use Rattle.feature_runs.specs.Entry.{Entry, Buffered}
use Rattle.feature_runs.specs.Index.{slot_entry, entries_in, IsWithin}

part-kept : (arena more : List ℕ) (at len : ℕ) → at + len ≤ length arena → take (at + len - at) (drop at (arena ++ more)) ≡ take (at + len - at) (drop at arena)
part-kept arena more at len h =
    let front : at ≤ length arena = omega (arith, h) in
    let fits : at + len - at ≤ length (drop at arena) = omega (arith, h, length-drop at arena) in
    ap (take (at + len - at)) (drop-append-le at arena more front) ∙ take-append-le (at + len - at) (drop at arena) more fits

entries-kept : (arena more : List ℕ) (slots : List Slot) → AllByRecursion (IsWithin arena) slots → entries_in (arena ++ more) slots ≡ entries_in arena slots
entries-kept arena more [] within = refl
entries-kept arena more (slot ∷ slots) within =
    let here : slot_entry (arena ++ more) slot ≡ slot_entry arena slot = ap (λ (t : List ℕ). record { rank = slot.prefix * 2 ^ 48 + slot.suffix; text = t }) (part-kept arena more slot.at slot.len within.0.0) in
    ap (λ (e : Entry). e ∷ entries_in (arena ++ more) slots) here ∙ ap (λ (es : List Entry). slot_entry arena slot ∷ es) (entries-kept arena more slots within.1)

-- the last slot is the new item's
new-part : (arena text : List ℕ) (at len : ℕ) → at ≡ length arena → len ≡ length text → take (at + len - at) (drop at (arena ++ text)) ≡ text
new-part arena text at len here size =
    let count : at + len - at ≡ length text = omega (arith, size) in
    rw (count, here, drop-append_seam arena text) (take_all (length text) text (omega arith))

pub held : (arena text : List ℕ) (slots : List Slot) (slot : Slot) (rank : ℕ) → All (IsWithin arena) slots → slot.at ≡ length arena → slot.len ≡ length text → slot.prefix * 2 ^ 48 + slot.suffix ≡ rank
    → entries_in (arena ++ text) (slots ++ slot ∷ []) ≡ entries_in arena slots ++ record { rank = rank; text = text } ∷ []
held arena text slots slot rank within at len is =
    map-append (slot_entry (arena ++ text)) slots (slot ∷ [])
    ∙ ap (λ (es : List Entry). es ++ slot_entry (arena ++ text) slot ∷ []) (entries-kept arena text slots (recursion_from_All _ slots within))
    ∙ ap (λ (t : List ℕ). entries_in arena slots ++ record { rank = slot.prefix * 2 ^ 48 + slot.suffix; text = t } ∷ []) (new-part arena text slot.at slot.len at len)
    ∙ ap (λ (n : ℕ). entries_in arena slots ++ record { rank = n; text = text } ∷ []) is

-- a buffer of other bytes that no slot names
pub same_held : (arena more : List ℕ) (slots : List Slot) → All (IsWithin arena) slots → entries_in (arena ++ more) slots ≡ entries_in arena slots
same_held arena more slots within = entries-kept arena more slots (recursion_from_All _ slots within)

abbrev pub made : ℕ → List RunAt → List Entry → Buffered
made limit runs entries = record { limit = limit; runs = runs; entries = entries }
