-- The sequence of numbers that a seed begins, and draws from it.
use Rattle.std.specs.Prelude.{ℕ, zero, suc, ◌+◌, ◌*◌, ◌/◌, ◌%◌, ◌^◌, ℤ, pos, ◌-ℤ◌}

-- the number that follows on another
unfoldable pub next_number : ℕ → ℕ
next_number s = (s * 6364136223846793005 + 1442695040888963407) % 2 ^ 64

-- number n of the sequence; number 0 is the seed
unfoldable pub number : ℕ → ℕ → ℕ
number seed zero = seed
number seed (suc n) = next_number (number seed n)

-- Draw n out of m numbers, by the upper half of number n. Draws are counted from 1, so the seed itself is none.
unfoldable pub draw : ℕ → ℕ → ℕ → ℕ
draw seed n m = (number seed n / 2 ^ 32) % m

-- draw n of a number from -most to most
unfoldable pub around : ℕ → ℕ → ℕ → ℤ
around seed n most = pos (draw seed n (2 * most + 1)) -ℤ pos most
