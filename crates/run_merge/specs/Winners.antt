-- Which run is next, of many: the winners of a tournament. At the places from n on stand the numbers of the n runs; at each
-- place before them one of the two at twice this place and behind it, whichever comes first. So the first of all is at place 1.
use Rattle.std.specs.Prelude.{◌≡◌, ℕ, zero, suc, ◌+◌, ◌*◌, ◌/◌, ◌<◌, ◌≤◌, ◌⊎◌, List, ◌++◌, length, slice_index_or, slice_set, All}
use Rattle.run_merge.specs.declared.cursor.Cursor.{Cursor}
use Rattle.run_merge.specs.Cursors.{ranks_of}

-- of two runs with these ranks the one of number `a` comes first, or they are one
abbrev pub ComesFirst : ℕ → ℕ → ℕ → ℕ → Type 0
ComesFirst rank_a rank_b a b = (rank_a < rank_b) ⊎ ((rank_a ≡ rank_b) × (a ≤ b))

abbrev pub Precedes : List ℕ → ℕ → ℕ → Type 0
Precedes ranks a b = ComesFirst (slice_index_or ranks a 0) (slice_index_or ranks b 0) a b

-- a place, so many times halved
abbrev pub halved : ℕ → ℕ → ℕ
halved zero place = place
halved (suc times) place = halved times place / 2

-- the place is this one, or lies above it
abbrev pub IsAbove : ℕ → ℕ → Type 0
IsAbove above place = (times : ℕ) × (halved times place ≡ above)

-- the winners are right, except that those at stale places may not be
pub record AreRightBut (stale : ℕ → Type 0) (n : ℕ) (ranks winners : List ℕ) : Type 0 where
  pub len : length winners ≡ 2 * n
  pub each : All (λ (run : ℕ). run < n) winners
  pub runs : (run : ℕ) → run < n → slice_index_or winners (n + run) 0 ≡ run
  pub above : (place : ℕ) → 0 < place → place < 2 * n → (stale place → ⊥) → IsAbove place (n + slice_index_or winners place 0)
  pub first : (place : ℕ) → 1 < place → place < 2 * n → (stale (place / 2) → ⊥) → Precedes ranks (slice_index_or winners (place / 2) 0) (slice_index_or winners place 0)

abbrev pub AreWinners : List Cursor → List ℕ → Type 0
AreWinners cursors winners = AreRightBut (λ place. place < 1) (length cursors) (ranks_of cursors) winners

-- of the two below this place the first one was put there
pub record PlayedAt (place : ℕ) (ranks before after : List ℕ) : Type 0 where
  pub winner : ℕ
  pub put : after ≡ slice_set before place winner
  pub one : (winner ≡ slice_index_or before (2 * place) 0) ⊎ (winner ≡ slice_index_or before (2 * place + 1) 0)
  pub even : Precedes ranks winner (slice_index_or before (2 * place) 0)
  pub odd : Precedes ranks winner (slice_index_or before (2 * place + 1) 0)

-- so many numbers from 0 on were put behind
pub record PutsNumbers (count : ℕ) (before after : List ℕ) : Type 0 where
  pub more : List ℕ
  pub put : after ≡ before ++ more
  pub len : length more ≡ count
  pub each : (number : ℕ) → number < count → slice_index_or more number 0 ≡ number

-- so many numbers from 0 on, twice
pub record AreTwice (count : ℕ) (numbers : List ℕ) : Type 0 where
  pub len : length numbers ≡ 2 * count
  pub each : All (λ (number : ℕ). number < count) numbers
  pub runs : (run : ℕ) → run < count → slice_index_or numbers (count + run) 0 ≡ run
