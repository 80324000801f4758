-- Where a node stands while its cluster is drawn.
use Rattle.std.specs.Prelude.{ℕ, ◌-◌, ◌%◌, pos, ◌-ℤ◌, ◌≤ℤ◌}
use Rattle.gen_world.specs.declared.node.Spot.{Spot}
use Rattle.gen_world.specs.Elements.{coordinate}

-- the place of the node behind the first i ones, and that of the first node of its cluster
abbrev pub place_of : ℕ → ℕ → Spot
place_of seed i = record { lat = coordinate seed i 1; lon = coordinate seed i 2 }

abbrev pub corner_of : ℕ → ℕ → Spot
corner_of seed i = place_of seed (i - i % 10)

-- within what the first node of a cluster may have
pub record IsNear (s : Spot) : Type 0 where
  pub south : (pos 0 -ℤ pos 80000000) ≤ℤ s.lat
  pub north : s.lat ≤ℤ pos 80000000
  pub west : (pos 0 -ℤ pos 80000000) ≤ℤ s.lon
  pub east : s.lon ≤ℤ pos 80000000
