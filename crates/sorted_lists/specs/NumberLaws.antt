-- What is true of lists of numbers, such as the ids of tiles.
use Rattle.std.specs.Prelude.{◌≡◌, ◌↔◌, ℕ, ◌+◌, ◌<◌, ◌≤◌, List, ◌++◌, Contains}
use Rattle.std.specs.List.{range_with_len}
use Rattle.std.specs.List.Sorted.{IsPermutation, IsStrictlyIncreasing}
use Rattle.tb_types.specs.Bags.{below, times, IsEachOnce}

-- Lists of numbers have the same elements where each number stands equally often in both. The numbers from one on, up to
-- another, climb.
pub record NumberLaws : Type 0 where
  pub counted : (xs ys : List ℕ) → ((n : ℕ) → times n xs ≡ times n ys) → IsPermutation xs ys
  pub each_once : (n : ℕ) (xs : List ℕ) → IsEachOnce n xs → IsPermutation xs (below n)
  -- ascending lists of the same numbers are one
  pub one : (xs ys : List ℕ) → IsStrictlyIncreasing xs → IsStrictlyIncreasing ys → ((n : ℕ) → Contains xs n ↔ Contains ys n) → xs ≡ ys
  pub climbing : (a n : ℕ) → IsStrictlyIncreasing (range_with_len a n)
  pub adjacent : (a m n : ℕ) → range_with_len a (m + n) ≡ range_with_len a m ++ range_with_len (a + m) n
  pub within : (a n k : ℕ) → a ≤ k → k < a + n → Contains (range_with_len a n) k
  pub counting : (n : ℕ) → below n ≡ range_with_len 0 n
