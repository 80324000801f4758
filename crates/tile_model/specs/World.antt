-- Shapes of the world, and what is left of them on the grid of a zoom.
use Rattle.std.specs.Prelude.{ℕ, ◌-◌, nat_le, nat_lt, if◌then◌else◌, pos, Option, None, Some, option_map, List, [], ◌∷◌, ◌++◌, length, map, filter_map, take, slice_get}
use Rattle.tb_types.specs.Clean.{x_of, y_of}
use Rattle.tb_types.specs.Points.{distinct, distinct_ring}
use Rattle.tb_types.specs.declared.location.Grid.{Grid}
use Rattle.tb_types.specs.declared.location.World.{World}
use Rattle.tb_types.specs.declared.shape.GridPolygon.{GridPolygon}
use Rattle.tb_types.specs.declared.shape.Shape.{Shape}
use Rattle.tb_types.specs.declared.shape.Shape.TheVariants as shapes
use Rattle.int_mercator.specs.Places.{grid_of}
use Rattle.line_simplify.specs.Rule.{simplified}
use Rattle.profile_rules.specs.declared.parts.LayerInfo.{LayerInfo}
use Rattle.profile_rules.specs.declared.parts.Parts.{Parts}
use Rattle.ring_assembly.specs.declared.polygon.Polygon.{Polygon}
use Rattle.strip_clip.specs.Cuts.{some_area}
use Rattle.tile_model.specs.declared.world.WorldShape.{WorldShape}
use Rattle.tile_model.specs.declared.world.WorldShape.TheVariants.{Point, Line, Area}

-- a point of the world on the grid of a zoom
abbrev pub grid_point : World → ℕ → Grid
grid_point w zoom = record { x = pos (grid_of w.x zoom); y = pos (grid_of w.y zoom) }

abbrev pub grid_points : ℕ → List World → List Grid
grid_points zoom points = map (λ w. grid_point w zoom) points

-- the points of a path that stay on the grid of a zoom: repeated neighbours go, and the rest is simplified
unfoldable pub simple_path : ℕ → ℕ → List World → List Grid
simple_path zoom tolerance path = simplified tolerance (distinct x_of y_of (grid_points zoom path))

-- a ring as the path from its first vertex round to it again, and that path as the ring
abbrev pub round : List Grid → List Grid
round [] = []
round (p ∷ points) = (p ∷ points) ++ p ∷ []

abbrev pub without_last : {A : Type 0} → List A → List A
without_last points = take (length points - 1) points

-- the vertices of a ring that stay
unfoldable pub simple_ring : ℕ → ℕ → List World → List Grid
simple_ring zoom tolerance ring = without_last (simplified tolerance (round (distinct_ring x_of y_of (grid_points zoom ring))))

-- at least so many points, or nothing
abbrev pub if_long : {A : Type 0} → ℕ → List A → Option (List A)
if_long least points = if nat_le least (length points) then Some points else None

abbrev pub some_ring : ℕ → ℕ → List World → Option (List Grid)
some_ring zoom tolerance ring = if_long 3 (simple_ring zoom tolerance ring)

-- a polygon, whose inner rings go alone, and all of it with its outer ring
abbrev pub simple_polygon : ℕ → ℕ → Polygon → Option GridPolygon
simple_polygon zoom tolerance polygon = option_map (λ outer. record { outer = outer; inners = filter_map (some_ring zoom tolerance) polygon.inners }) (some_ring zoom tolerance polygon.outer)

abbrev pub as_line : List Grid → Shape
as_line path = shapes.Line (path ∷ [])

-- a shape of the world on the grid of a zoom, or nothing where nothing of it is left
abbrev pub simple_shape : ℕ → ℕ → WorldShape → Option Shape
simple_shape zoom tolerance (Point w) = Some (shapes.Point (grid_point w zoom))
simple_shape zoom tolerance (Line path) = option_map as_line (if_long 2 (simple_path zoom tolerance path))
simple_shape zoom tolerance (Area polygons) = some_area (filter_map (simple_polygon zoom tolerance) polygons)

abbrev pub buffer_if : Option LayerInfo → ℕ
buffer_if None = 0
buffer_if (Some layer) = layer.buffer

-- the buffer of the layer of a number
abbrev pub buffer_of : Parts → ℕ → ℕ
buffer_of parts layer = buffer_if (slice_get parts.layers layer)

abbrev pub tolerance_if : Option LayerInfo → ℕ
tolerance_if None = 0
tolerance_if (Some layer) = layer.tolerance

-- the tolerance at a zoom: that of the layer below the profile's last zoom, and none at it
abbrev pub tolerance_at : Parts → ℕ → ℕ → ℕ
tolerance_at parts layer zoom = if nat_lt zoom parts.max then tolerance_if (slice_get parts.layers layer) else 0
