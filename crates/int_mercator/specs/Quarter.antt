-- The table of the projection: how far north of the equator the latitudes lie, at knots of 1/64 degree.
use Rattle.std.specs.Prelude.{◌≡◌, ℕ, zero, suc, ◌+◌, ◌*◌, ◌/◌, ◌^◌, ◌<◌, ◌≤◌, List, map, min, length, slice_index}
use Rattle.std.specs.List.{range_with_len}
use Rattle.int_mercator.specs.Cosine.{half_turn, one, last_half, least_cosine, cosine_of}

-- the secant after a count of half knots, in units of 2 ^ -60
unfoldable pub secant_of : ℕ → ℕ
secant_of halves = 2 ^ 120 / cosine_of halves

-- How far the projection goes between two knots, by Simpson's rule: a sixth of their distance, times the secants at both and
-- four times that half-way between. The distance is a half turn over 11,520.
abbrev pub simpson : ℕ → ℕ → ℕ → ℕ
simpson here half next = half_turn * (here + 4 * half + next) / 69120 / one

-- how far it goes from the equator to a knot
unfoldable pub height_of : ℕ → ℕ
height_of zero = 0
height_of (suc knot) =
    height_of knot + simpson (secant_of (2 * knot)) (secant_of (2 * knot + 1)) (secant_of (2 * knot + 2))

-- a height in units of the world, of which the northern half has 2 ^ 31
abbrev pub scaled : ℕ → ℕ
scaled height = min (2 ^ 31) (height * 2 ^ 31 / half_turn)

-- the entry of a knot: its distance from the equator
unfoldable pub entry_of : ℕ → ℕ
entry_of knot = scaled (height_of knot)

-- the table: the entries of the 5,445 knots from the equator to 85.0625 degrees
unfoldable pub quarter : List ℕ
quarter = map entry_of (range_with_len 0 5445)

-- the table never falls and stays within the northern half of the world, and no cosine that it is made of is small
pub record TableFacts : Type 0 where
  pub knots : length quarter ≡ 5445
  pub never_falls : (i j : ℕ) → i ≤ j → j < 5445 → slice_index quarter i ≤ slice_index quarter j
  pub at_most_half : (i : ℕ) → slice_index quarter i ≤ 2 ^ 31
  pub no_small_cosine : (halves : ℕ) → halves ≤ last_half → least_cosine ≤ cosine_of halves
