-- The shape that the integers of a feature's geometry are (Mapbox Vector Tile 2.1, section 4.3).
use Rattle.std.specs.Prelude.{ℕ, ◌==◌, Bool, true, false, ◌&&◌, not, if◌then◌else◌, ℤ, pos, negsuc, ◌+ℤ◌, int_lt, Option, None, Some, List, [], ◌∷◌}
use Rattle.tb_types.specs.Zigzag.{unzigzag_of}
use Rattle.tb_types.specs.declared.location.Grid.{Grid}
use Rattle.tb_types.specs.declared.shape.Shape.{Shape}
use Rattle.tb_types.specs.declared.shape.Shape.TheVariants.{Point, Line, Area}
use Rattle.mvt_geom.specs.Options.{◌>>=◌}
use Rattle.mvt_geom.specs.Commands.{command, move_to, paths_of}
use Rattle.mvt_geom.specs.Rings.{polygons_of}

-- where the cursor is at first
abbrev pub origin : Grid
origin = record { x = pos 0; y = pos 0 }

-- a coordinate is a signed number of 32 bits; `negsuc n` is -(n + 1)
unfoldable pub in_32_bits : ℤ → Option ℤ
in_32_bits z = if not (int_lt z (negsuc 2147483647)) && int_lt z (pos 2147483648) then Some z else None

-- a coordinate that is moved by a parameter
unfoldable pub shifted : ℤ → ℕ → Option ℤ
shifted z by = in_32_bits (z +ℤ unzigzag_of by)

-- the cursor, moved by the two parameters of a point
abbrev pub moved : Grid → ℕ → ℕ → Option Grid
moved from dx dy = shifted from.x dx >>= λ x. shifted from.y dy >>= λ y. Some (record { x = x; y = y })

-- the points of a path's parameters, two for each, from a cursor on
abbrev pub points_of : Grid → List ℕ → Option (List Grid)
points_of from [] = Some []
points_of from (dx ∷ []) = None
points_of from (dx ∷ dy ∷ parameters) = moved from dx dy >>= λ p. points_of p parameters >>= λ later. Some (p ∷ later)

-- where the cursor is after some points; ClosePath doesn't move it
abbrev pub cursor_after : Grid → List Grid → Grid
cursor_after from [] = from
cursor_after from (p ∷ points) = cursor_after p points

-- the points of several paths, from a cursor on
abbrev pub all_points : Grid → List (List ℕ) → Option (List (List Grid))
all_points from [] = Some []
all_points from (path ∷ paths) = points_of from path >>= λ points. all_points (cursor_after from points) paths >>= λ later. Some (points ∷ later)

-- the lines or rings of integers
abbrev pub lines_of : Bool → List ℕ → Option (List (List Grid))
lines_of closed ints = paths_of closed ints >>= all_points origin

-- a point is MoveTo of it alone
abbrev pub point_of : List ℕ → Option Shape
point_of [] = None
point_of (move ∷ []) = None
point_of (move ∷ dx ∷ []) = None
point_of (move ∷ dx ∷ dy ∷ []) = if move == command move_to 1 then (moved origin dx dy >>= λ p. Some (Point p)) else None
point_of (move ∷ dx ∷ dy ∷ n ∷ more) = None

-- a line has a path
abbrev pub line_of : List (List Grid) → Option Shape
line_of [] = None
line_of (path ∷ paths) = Some (Line (path ∷ paths))

-- an area has the polygons of its rings
abbrev pub area_of : List (List Grid) → Option Shape
area_of rings = polygons_of rings >>= λ polygons. Some (Area polygons)

-- the shape of a type of features, 1 point, 2 line or 3 polygon, unless the integers are none
unfoldable pub geometry_of : ℕ → List ℕ → Option Shape
geometry_of form ints =
    if form == 1 then point_of ints
    else if form == 2 then (lines_of false ints >>= line_of)
    else if form == 3 then (lines_of true ints >>= area_of)
    else None
