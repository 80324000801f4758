-- The cosine in whole numbers: angles and cosines count in units of 2 ^ -60, and each division rounds down.
use Rattle.std.specs.Prelude.{ℕ, zero, suc, ◌+◌, ◌-◌, ◌*◌, ◌/◌, ◌^◌}

-- a half turn, the number pi
abbrev pub half_turn : ℕ
half_turn = 0x3243F6A8885A308D

-- the number 1
abbrev pub one : ℕ
one = 2 ^ 60

-- the angle after a count of half knots, each 1/128 degree, so that a half turn has 23,040
abbrev pub angle_of : ℕ → ℕ
angle_of halves = half_turn * halves / 23040

-- the square of an angle
abbrev pub square_of : ℕ → ℕ
square_of angle = angle * angle / one

-- term number n of the cosine's series, which is the angle to the power of 2 n over the factorial of 2 n
abbrev pub term : ℕ → ℕ → ℕ
term square zero = one
term square (suc n) = term square n * square / ((2 * n + 1) * (2 * n + 2)) / one

-- the sum of the first terms of even number, of which there are `pairs`
abbrev pub even_terms : ℕ → ℕ → ℕ
even_terms square zero = 0
even_terms square (suc pairs) = even_terms square pairs + term square (2 * pairs)

-- the sum of the first terms of odd number
abbrev pub odd_terms : ℕ → ℕ → ℕ
odd_terms square zero = 0
odd_terms square (suc pairs) = odd_terms square pairs + term square (2 * pairs + 1)

-- the series with alternating signs, cut after 16 terms
unfoldable pub series : ℕ → ℕ
series square = even_terms square 8 - odd_terms square 8

-- the cosine after a count of half knots
unfoldable pub cosine_of : ℕ → ℕ
cosine_of halves = series (square_of (angle_of halves))

-- the last half knot of the table, at 85.0625 degrees
abbrev pub last_half : ℕ
last_half = 10888

-- no cosine up to there is below this number
abbrev pub least_cosine : ℕ
least_cosine = 90000000000000000
