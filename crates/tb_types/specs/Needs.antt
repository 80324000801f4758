-- Stated needs of memory, in bytes, and the part of the budget that they are booked in.
use Rattle.std.specs.Prelude.{ℕ, ◌+◌, ◌-◌, ◌*◌, ◌/◌, ◌^◌, min}

-- a need is a number of 64 bits, and counts as the last one where it is above it
abbrev pub as_need : ℕ → ℕ
as_need bytes = min bytes (2 ^ 64 - 1)

-- a block, by the length of its frame's body
abbrev pub block_need : ℕ → ℕ
block_need len = as_need (16 * len + 65536)

-- a kept relation, by the number of points of its member ways
abbrev pub relation_need : ℕ → ℕ
relation_need points = as_need (32 * points + 65536)

-- the items of one tile, by the sum of their lengths
abbrev pub group_need : ℕ → ℕ
group_need sum = as_need (4 * sum + 131072)

-- what is left of a budget for blocks, relations and tiles: its last quarter serves the runs
abbrev pub batch_part : ℕ → ℕ
batch_part budget = budget - budget / 4
