-- What holds of all rings and polygons that are made.
use Rattle.std.specs.Prelude.{ℕ, ◌+◌, ◌≤◌, ◌<◌, List, length, All}
use Rattle.tb_types.specs.Bags.{total}
use Rattle.tb_types.specs.declared.location.World.{World}
use Rattle.ring_assembly.specs.declared.way.WayShape.{WayShape}
use Rattle.ring_assembly.specs.declared.polygon.Polygon.{Polygon}
use Rattle.ring_assembly.specs.Rings.{absolute_doubled_area}

-- a ring has at least three points and some area
pub record IsRing (ring : List World) : Type 0 where
  pub points : 3 ≤ length ring
  pub area : 0 < absolute_doubled_area ring

-- all rings of a polygon are rings
pub record IsArea (polygon : Polygon) : Type 0 where
  pub outer : IsRing polygon.outer
  pub inners : All IsRing polygon.inners

-- the number of points of some ways, of some rings and of some polygons
abbrev pub points_of_ways : List WayShape → ℕ
points_of_ways ways = total (λ way. length way.points) ways

abbrev pub points_of_rings : List (List World) → ℕ
points_of_rings rings = total length rings

abbrev pub points_of_polygons : List Polygon → ℕ
points_of_polygons polygons = total (λ polygon. length polygon.outer + points_of_rings polygon.inners) polygons
