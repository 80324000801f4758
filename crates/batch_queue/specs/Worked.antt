-- Worked cases that the definitions were checked on, also what they refuse.
use Rattle.std.specs.Prelude.{◌≡◌, Bool, true, false, [], ◌∷◌}
use Rattle.batch_queue.specs.declared.entry.Entry.{Entry}
use Rattle.batch_queue.specs.Facts.{entry_of, joins_in_order, Leaves}

abbrev pub first : Entry
first = entry_of 1 (10 ∷ [])

abbrev pub second : Entry
second = entry_of 2 []

pub record WorkedOrder : Type 0 where
  -- one list behind another is in order where one of them is empty and the other in order
  pub both : joins_in_order true (first ∷ []) true (second ∷ []) ≡ false
  pub left : joins_in_order true (first ∷ []) false [] ≡ true
  pub left_mixed : joins_in_order false (first ∷ []) true [] ≡ false
  pub right : joins_in_order false [] true (second ∷ []) ≡ true
  pub right_mixed : joins_in_order true [] false (second ∷ []) ≡ false
  -- first in, first out
  pub popped : Leaves true true (first ∷ second ∷ []) (first ∷ []) (second ∷ [])
  pub nothing_lost : Leaves false false (first ∷ second ∷ []) (first ∷ []) [] → ⊥
  pub out_of_order : Leaves true true (first ∷ second ∷ []) (second ∷ []) (first ∷ []) → ⊥
