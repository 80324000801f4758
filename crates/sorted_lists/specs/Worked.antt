-- Worked lists: sorted, grouped and merged.
use Rattle.std.specs.Prelude.{◌≡◌, ℕ, nat_lt, Bool, [], ◌∷◌}
use Rattle.sorted_lists.specs.Sorting.{sorted_by}
use Rattle.sorted_lists.specs.Grouping.{grouped_by, of_class, groups_of, elements_of}
use Rattle.sorted_lists.specs.Merging.{merged, all_merged, concatenated}

-- a pair is less where its first part is
abbrev pub first_less : ℕ × ℕ → ℕ × ℕ → Bool
first_less x y = nat_lt x.0 y.0

pub record WorkedLists : Type 0 where
  -- of two pairs that tie, the first stays first; no pair is lost where two are equal
  pub stable : sorted_by first_less ((1, 8) ∷ (0, 9) ∷ (1, 7) ∷ (0, 6) ∷ (0, 9) ∷ []) ≡ (0, 9) ∷ (0, 6) ∷ (0, 9) ∷ (1, 8) ∷ (1, 7) ∷ []
  pub empty : sorted_by first_less [] ≡ []
  -- a class that comes again later begins another group
  pub groups : grouped_by (λ x. x) (4 ∷ 4 ∷ 6 ∷ 4 ∷ []) ≡ (4, 4 ∷ 4 ∷ []) ∷ (6, 6 ∷ []) ∷ (4, 4 ∷ []) ∷ []
  pub elements : elements_of {X = ℕ} ((4, 4 ∷ 5 ∷ []) ∷ (6, []) ∷ (4, 4 ∷ []) ∷ []) ≡ 4 ∷ 5 ∷ 4 ∷ []
  -- a class without elements gives no group, and elements of classes that aren't asked for are left out
  pub chosen : of_class (λ (x : ℕ × ℕ). x.0) 1 ((1, 8) ∷ (0, 9) ∷ (1, 7) ∷ []) ≡ (1, 8) ∷ (1, 7) ∷ []
  pub asked : groups_of (λ (x : ℕ × ℕ). x.0) (0 ∷ 1 ∷ 2 ∷ []) ((1, 8) ∷ (3, 9) ∷ (0, 5) ∷ (1, 7) ∷ []) ≡ (0, (0, 5) ∷ []) ∷ (1, (1, 8) ∷ (1, 7) ∷ []) ∷ []
  -- where neither is less, the first list's comes first
  pub merge : merged first_less ((0, 1) ∷ (2, 2) ∷ []) ((0, 3) ∷ (1, 4) ∷ (2, 5) ∷ []) ≡ (0, 1) ∷ (0, 3) ∷ (1, 4) ∷ (2, 2) ∷ (2, 5) ∷ []
  pub merges : all_merged first_less (((2, 1) ∷ []) ∷ [] ∷ ((0, 2) ∷ (2, 3) ∷ []) ∷ ((0, 4) ∷ (1, 5) ∷ []) ∷ []) ≡ (0, 2) ∷ (0, 4) ∷ (1, 5) ∷ (2, 1) ∷ (2, 3) ∷ []
  pub behind : concatenated {X = ℕ} ((3 ∷ []) ∷ [] ∷ (1 ∷ 2 ∷ []) ∷ []) ≡ 3 ∷ 1 ∷ 2 ∷ []
