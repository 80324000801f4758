-- Worked paths with the points that they keep.
use Rattle.std.specs.Prelude.{◌≡◌, ℕ, pos, [], ◌∷◌}
use Rattle.tb_types.specs.declared.location.Grid.{Grid}
use Rattle.line_simplify.specs.Rule.{simplified}

-- a point by its coordinates
abbrev pub at : ℕ → ℕ → Grid
at x y = record { x = pos x; y = pos y }

-- worked paths
pub record WorkedPaths : Type 0 where
  pub within_tolerance : simplified 1 (at 0 0 ∷ at 5 1 ∷ at 10 0 ∷ []) ≡ at 0 0 ∷ at 10 0 ∷ []
  pub above_tolerance : simplified 0 (at 0 0 ∷ at 5 1 ∷ at 10 0 ∷ []) ≡ at 0 0 ∷ at 5 1 ∷ at 10 0 ∷ []
  pub first_of_equals : simplified 1 (at 0 0 ∷ at 4 2 ∷ at 6 2 ∷ at 10 0 ∷ []) ≡ at 0 0 ∷ at 4 2 ∷ at 10 0 ∷ []
  pub before_an_end : simplified 2 (at 3 0 ∷ at 0 0 ∷ at 13 0 ∷ []) ≡ at 3 0 ∷ at 0 0 ∷ at 13 0 ∷ []
  pub on_the_line : simplified 0 (at 0 0 ∷ at 1 1 ∷ at 2 2 ∷ at 4 4 ∷ []) ≡ at 0 0 ∷ at 4 4 ∷ []
  pub there_and_back : simplified 2 (at 0 0 ∷ at 2 0 ∷ at 3 0 ∷ at 0 0 ∷ []) ≡ at 0 0 ∷ at 3 0 ∷ at 0 0 ∷ []
