-- Laws of rings on a grid.
use Rattle.std.specs.Prelude.{◌≡◌, neg_ℤ, List, ◌++◌, reverse}
use Rattle.tb_types.specs.declared.location.Grid.{Grid}
use Rattle.tb_types.specs.Clean.{doubled_area}

-- the doubled area doesn't rest on where a ring starts
abbrev pub AreaStartsAnywhere : Type 0
AreaStartsAnywhere = (xs ys : List Grid) → doubled_area (ys ++ xs) ≡ doubled_area (xs ++ ys)

-- and turns its sign where the ring is reversed
abbrev pub AreaTurns : Type 0
AreaTurns = (ring : List Grid) → doubled_area (reverse ring) ≡ neg_ℤ (doubled_area ring)
