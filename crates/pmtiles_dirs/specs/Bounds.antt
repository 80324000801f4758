-- The bounds of a map, in 10^-7 degrees, by a box in nanodegrees.
use Rattle.std.specs.Prelude.{ℤ, pos, neg_ℤ, ◌+ℤ◌, ◌≤ℤ◌, Option, None, Some}
use Rattle.std.specs.Int.{int_div_euclid}
use Rattle.tb_types.specs.declared.location.Bounds.{Bounds}
use Rattle.pmtiles_dirs.specs.declared.bounds.MapBounds.{MapBounds}

-- the bounds of a map of the world: 180 west and 85 south to 180 east and 85 north
abbrev pub whole_world : MapBounds
whole_world = record { west = neg_ℤ (pos 1800000000); south = neg_ℤ (pos 850000000); east = pos 1800000000; north = pos 850000000 }

-- nanodegrees in 10^-7 degrees, rounded down
abbrev pub hundredth : ℤ → ℤ
hundredth n = int_div_euclid n (pos 100)

abbrev pub bounds_in : Bounds → MapBounds
bounds_in box = record { west = hundredth box.left; south = hundredth box.bottom; east = hundredth box.right; north = hundredth box.top }

abbrev pub bounds_of : Option Bounds → MapBounds
bounds_of None = whole_world
bounds_of (Some box) = bounds_in box

-- the mean of two bounds, rounded down
abbrev pub middle : ℤ → ℤ → ℤ
middle one other = int_div_euclid (one +ℤ other) (pos 2)

-- the numbers that four bytes hold
abbrev pub FitsFourBytes : ℤ → Type 0
FitsFourBytes z = (neg_ℤ (pos 2147483648) ≤ℤ z) × (z ≤ℤ pos 2147483647)

-- bounds that can be written
abbrev pub CanBeWritten : Bounds → Type 0
CanBeWritten box = FitsFourBytes (hundredth box.left) × FitsFourBytes (hundredth box.right) × FitsFourBytes (hundredth box.top) × FitsFourBytes (hundredth box.bottom)
