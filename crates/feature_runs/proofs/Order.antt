-- An index that is sorted holds its items in order of their keys.
use Rattle.std.proofs.Common.{◌≡◌, ℕ, ◌+◌, ◌*◌, ◌^◌, ◌<◌, ◌≤◌, ◌==◌, nat_lt, Bool, true, false, Ordering, nat_cmp, is_lt, List, [], ◌∷◌, length, get_or, map, All, refl, sym, ap, ◌∙◌, arith, inl, inr, true≢false}
use Rattle.std.specs.Ordering.{ordering_then}
use Rattle.std.specs.List.Sorted.{IsPermutation}
use Rattle.std.proofs.lemmas.Bool.{cases_lt, lt-ltb, le-ltb, eq-eqb}
use Rattle.std.proofs.lemmas.List.{get_or-map, length-map}
use Rattle.std.proofs.lemmas.List.Sorted.{IsPermutation-map}
use Rattle.feature_runs.specs.declared.slot.Slot.{Slot}
use Rattle.feature_runs.specs.Entry.{Entry, nothing, AreSorted, IsInOrder}
use Rattle.feature_runs.specs.Index.{slot_entry, entries_in, IsWithin}

-- where two numbers aren't below two others, these are at most those, as one number each
not_less : (m m' n n' : ℕ) (rest : Ordering) → is_lt (ordering_then (nat_cmp m m') (ordering_then (nat_cmp n n') rest)) ≡ false → n' < 2 ^ 48 → m' * 2 ^ 48 + n' ≤ m * 2 ^ 48 + n
not_less m m' n n' rest e small =
    elim (cases_lt m m') [
      | inl lt ↦ let t : nat_lt m m' ≡ true = lt-ltb _ _ lt in absurd (true≢false (rw t at e))
      | inr le ↦
          elim (cases_lt m' m) [
            | inl gt ↦ omega arith
            | inr ge ↦
                let f : nat_lt m m' ≡ false = le-ltb _ _ le in
                let same : m ≡ m' = omega (arith, le, ge) in
                let q : (m == m') ≡ true = eq-eqb _ _ same in
                let e' : is_lt (ordering_then (nat_cmp n n') rest) ≡ false = rw (f, q) at e in
                elim (cases_lt n n') [
                  | inl lt ↦ let t : nat_lt n n' ≡ true = lt-ltb _ _ lt in absurd (true≢false (rw t at e'))
                  | inr up ↦ omega (arith, same, up)
                ]
          ]
    ]

abbrev pub no_slot : Slot
no_slot = record { prefix = 0; suffix = 0; at = 0; len = 0 }

-- no slot is below the one before it
abbrev pub DontFall : List Slot → Type 0
DontFall slots = (k : ℕ) (d : Slot) → 0 ≤ k → k + 1 < length slots → is_lt (ordering_then (nat_cmp (get_or slots (k + 1) d).prefix (get_or slots k d).prefix) (ordering_then (nat_cmp (get_or slots (k + 1) d).suffix (get_or slots k d).suffix)
    (ordering_then (nat_cmp (get_or slots (k + 1) d).at (get_or slots k d).at) (nat_cmp (get_or slots (k + 1) d).len (get_or slots k d).len)))) ≡ false

-- the items of a sorted index
pub in_order : (arena : List ℕ) (before after : List Slot) → IsPermutation before after → DontFall after → All (IsWithin arena) after → IsInOrder (entries_in arena before) (entries_in arena after)
in_order arena before after same up within = record {
  same = IsPermutation-map (slot_entry arena) before after same;
  sorted = λ k lt.
      let len : length (entries_in arena after) ≡ length after = length-map after (slot_entry arena) in
      let next : k + 1 < length after = omega (arith, lt, len) in
      let here : k < length after = omega (arith, next) in
      let small = (within k no_slot here).1 in
      let rank = not_less (get_or after (k + 1) no_slot).prefix (get_or after k no_slot).prefix (get_or after (k + 1) no_slot).suffix (get_or after k no_slot).suffix _ (up k no_slot (omega arith) next) small in
      rw (get_or-map (slot_entry arena) after k no_slot nothing here, get_or-map (slot_entry arena) after (k + 1) no_slot nothing next) rank;
}
