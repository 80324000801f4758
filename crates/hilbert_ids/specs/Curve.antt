-- The Hilbert curve through a square of tiles whose side is 2 ^ zoom.
use Rattle.std.specs.Prelude.{ℕ, zero, suc, ◌+◌, ◌-◌, ◌*◌, ◌^◌, Bool, true, false, nat_le}

-- The place of a tile in a square of four quadrants, each of a side and an area, from its place inside its quadrant.
-- The two tests say that the tile lies right and low. The curve goes upper left, lower left, lower right, upper right.
abbrev pub in_quadrant : ℕ → ℕ → (ℕ → ℕ → ℕ) → Bool → Bool → ℕ → ℕ → ℕ
in_quadrant side area inside false false x y = inside y x
in_quadrant side area inside false true x y = area + inside x (y - side)
in_quadrant side area inside true true x y = 2 * area + inside (x - side) (y - side)
in_quadrant side area inside true false x y = 3 * area + inside (side - 1 - y) (side - 1 - (x - side))

-- the place of column x and row y on the curve of a zoom
abbrev pub place : ℕ → ℕ → ℕ → ℕ
place zero x y = 0
place (suc zoom) x y =
    in_quadrant (2 ^ zoom) (4 ^ zoom) (place zoom) (nat_le (2 ^ zoom) x) (nat_le (2 ^ zoom) y) x y
