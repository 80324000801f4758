-- The numbers that lengths are made of.
use Rattle.std.specs.Prelude.{ℕ, ℤ, pos, negsuc}
use Rattle.tb_types.specs.Zigzag.{zigzag_of}

-- the varint of a whole number: itself from 0 on, else its zigzag
abbrev pub whole_number : ℤ → ℕ
whole_number (pos n) = n
whole_number (negsuc n) = zigzag_of (negsuc n)
