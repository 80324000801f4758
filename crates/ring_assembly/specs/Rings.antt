-- Rings of points of the world, and which of them stay.
use Rattle.std.specs.Prelude.{ℕ, ℤ, pos, unsigned_abs, ◌||◌, ◌==◌, nat_lt, if◌then◌else◌, Option, Some, None, List, length}
use Rattle.tb_types.specs.declared.location.World.{World}
use Rattle.tb_types.specs.Points as points

-- the coordinates of a point of the world
abbrev pub x_of : World → ℤ
x_of p = pos p.x

abbrev pub y_of : World → ℤ
y_of p = pos p.y

-- the points of a ring without repeated neighbours, also round its end: its first point stays
abbrev pub distinct_ring : List World → List World
distinct_ring ring = points.distinct_ring x_of y_of ring

-- the absolute doubled area of a ring
abbrev pub absolute_doubled_area : List World → ℕ
absolute_doubled_area ring = unsigned_abs (points.doubled_area x_of y_of ring)

-- the ring of some points, unless it has fewer than 3 points or no area
unfoldable pub clean_ring : List World → Option (List World)
clean_ring points =
    let ring = distinct_ring points in
    if nat_lt (length ring) 3 || (absolute_doubled_area ring == 0) then None else Some ring
