-- Worked cases that the definitions were checked on, also what they refuse.
use Rattle.std.specs.Prelude.{◌≡◌, true, false, Some, None, [], ◌∷◌}
use Rattle.claim_desk.specs.Facts.{IsAtMostOnce, has_ended, later}

pub record WorkedSeats : Type 0 where
  -- a seat that has taken no step hasn't seen the end, also where the limit is 0
  pub fresh : has_ended 0 None ≡ false
  pub before : has_ended 5 (Some 4) ≡ false
  pub at : has_ended 5 (Some 5) ≡ true
  pub at_none : has_ended 0 (Some 0) ≡ true
  pub later_left : later (Some 7) (Some 3) ≡ Some 7
  pub later_right : later (Some 3) (Some 7) ≡ Some 7
  pub later_one : later None (Some 0) ≡ Some 0
  pub later_other : later (Some 0) None ≡ Some 0
  -- in any order, but no number twice, and none at the limit or past it
  pub once : IsAtMostOnce 3 (2 ∷ 0 ∷ [])
  pub twice : IsAtMostOnce 3 (1 ∷ 1 ∷ []) → ⊥
  pub past : IsAtMostOnce 3 (3 ∷ []) → ⊥
