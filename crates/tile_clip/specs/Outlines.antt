-- A shape as the edges of its paths and rings, and what is left of them in columns and rows.
use Rattle.std.specs.Prelude.{ℕ, ◌+◌, ◌-◌, ◌*◌, ◌/◌, ◌^◌, Bool, true, false, not, ◌&&◌, ◌||◌, if◌then◌else◌, pos, ◌+ℤ◌, ◌-ℤ◌, Option, Some, None, option_and_then, List, [], ◌∷◌, map, filter, filter_map, flat_map}
use Rattle.tb_types.specs.declared.location.Grid.{Grid}
use Rattle.tb_types.specs.declared.tile.TileXyz.{TileXyz}
use Rattle.tb_types.specs.declared.shape.Shape.{Shape}
use Rattle.tb_types.specs.declared.shape.Shape.TheVariants.{Point, Line, Area}
use Rattle.tb_types.specs.declared.shape.GridPolygon.{GridPolygon}
use Rattle.strip_clip.specs.declared.axis.Axis.{Axis}
use Rattle.strip_clip.specs.declared.strip.Strip.{Strip}
use Rattle.strip_clip.specs.Edges.{inside, meets, reach}
use Rattle.strip_clip.specs.Lines.{leading}
use Rattle.strip_clip.specs.Rings.{edge_points}
use Rattle.strip_clip.specs.Cleaning.{clean_paths, clean_ring}
use Rattle.strip_clip.specs.Cuts.{corner_of, column, row, relative, with_holes, some_line, some_area}
use Rattle.tile_clip.specs.declared.edge.Edge.{Edge}
use Rattle.tile_clip.specs.declared.outline.RingEdges.{RingEdges}
use Rattle.tile_clip.specs.declared.outline.Outline.{Outline}
use Rattle.tile_clip.specs.declared.outline.Halves.{Halves}
use Rattle.tile_clip.specs.declared.outline.Outline.TheVariants.{OnePoint, Paths, Polygons}
use Rattle.tile_clip.specs.Pieces.{tile_at, with_tile, of_each}

-- a list has no item
abbrev pub is_empty : {A : Type 0} → List A → Bool
is_empty [] = true
is_empty (x ∷ xs) = false

-- the edges of a path, the last of which has a mark
abbrev pub path_edges : List Grid → List Edge
path_edges [] = []
path_edges (p ∷ []) = []
path_edges (p ∷ q ∷ rest) = record { from = p; to = q; last = is_empty rest } ∷ path_edges (q ∷ rest)

-- the edges from p along some points to an end, without a mark
abbrev pub edges_to : Grid → List Grid → Grid → List Edge
edges_to p [] end = record { from = p; to = end; last = false } ∷ []
edges_to p (q ∷ rest) end = record { from = p; to = q; last = false } ∷ edges_to q rest end

-- the edges of a ring, which go round
abbrev pub ring_edges : List Grid → List Edge
ring_edges [] = []
ring_edges (p ∷ rest) = edges_to p rest p

-- the edges of each ring of a polygon
abbrev pub polygon_edges : GridPolygon → RingEdges
polygon_edges polygon = record { outer = ring_edges polygon.outer; inners = map ring_edges polygon.inners }

-- the edges of a shape
abbrev pub outline_of : Shape → Outline
outline_of (Point p) = OnePoint p
outline_of (Line paths) = Paths (flat_map path_edges paths)
outline_of (Area polygons) = Polygons (map polygon_edges polygons)

-- an edge has a point in a strip
abbrev pub touches : Strip → Edge → Bool
touches s e = meets s e.from e.to

-- all edges have a point in a strip
abbrev pub all_touch : Strip → List Edge → Bool
all_touch s [] = true
all_touch s (e ∷ es) = touches s e && all_touch s es

-- the edges of a list, unless it is empty
abbrev pub some_edges : List Edge → Option (List Edge)
some_edges [] = None
some_edges (e ∷ es) = Some (e ∷ es)

-- a polygon of an outer ring and inner ones, unless the outer ring has no edges
abbrev pub some_rings : List (List Edge) → Option (List Edge) → Option RingEdges
some_rings inners outer = option_and_then (λ es. Some (record { outer = es; inners = inners })) outer

-- the edges of inner rings that touch a strip; a ring that has none goes
abbrev pub touching_inners : Strip → List (List Edge) → List (List Edge)
touching_inners s inners = filter_map (λ inner. some_edges (filter (touches s) inner)) inners

-- the rings of a polygon with the edges that touch a strip; a polygon whose outer ring has none goes
abbrev pub touching_rings : Strip → RingEdges → Option RingEdges
touching_rings s rings = some_rings (touching_inners s rings.inners) (some_edges (filter (touches s) rings.outer))

-- a point, unless it lies outside
abbrev pub point_in : Strip → Grid → Outline
point_in s p = if inside s p then OnePoint p else Paths []

-- what touches a strip
abbrev pub touching : Strip → Outline → Outline
touching s (OnePoint p) = point_in s p
touching s (Paths es) = Paths (filter (touches s) es)
touching s (Polygons polygons) = Polygons (filter_map (touching_rings s) polygons)

-- nothing is left of an outline
abbrev pub is_nothing : Outline → Bool
is_nothing (OnePoint p) = false
is_nothing (Paths es) = is_empty es
is_nothing (Polygons polygons) = is_empty polygons

-- the part of a path's edge in a strip, with which a path ends where the edge leaves the strip
abbrev pub edge_part : Strip → Edge → Option Edge
edge_part s e = if touches s e then Some (record { from = reach s e.from e.to e.from; to = reach s e.from e.to e.to; last = e.last || not (inside s e.to) }) else None

-- the points of a ring's edges in a strip
abbrev pub points_in : Strip → List Edge → List Grid
points_in s es = flat_map (λ e. edge_points s e.from e.to) es

-- the outline of what is left in a strip
abbrev pub ring_in : Strip → List Edge → List Edge
ring_in s es = ring_edges (points_in s es)

abbrev pub rings_in : Strip → RingEdges → RingEdges
rings_in s rings = record { outer = ring_in s rings.outer; inners = map (ring_in s) rings.inners }

abbrev pub outline_in : Strip → Outline → Outline
outline_in s (OnePoint p) = point_in s p
outline_in s (Paths es) = Paths (filter_map (edge_part s) es)
outline_in s (Polygons polygons) = Polygons (map (rings_in s) polygons)

-- the paths of edges that follow on each other
abbrev pub paths_of : List Edge → List (List Grid)
paths_of [] = []
paths_of (e ∷ es) = if e.last then (e.from ∷ e.to ∷ []) ∷ paths_of es else leading e.from (paths_of es)

-- what is left in a tile's row of the outline in its column, counted from the tile's corner, after clean-up
abbrev pub ring_cut : Grid → ℕ → Bool → List Edge → Option (List Grid)
ring_cut corner buffer outer es = clean_ring outer (map (relative corner) (points_in (row corner buffer) es))

abbrev pub polygon_cut : Grid → ℕ → RingEdges → Option GridPolygon
polygon_cut corner buffer rings = option_and_then (λ outer. with_holes outer (filter_map (ring_cut corner buffer false) rings.inners)) (ring_cut corner buffer true rings.outer)

abbrev pub paths_cut : Grid → ℕ → List Edge → List (List Grid)
paths_cut corner buffer es = clean_paths (map (map (relative corner)) (paths_of (filter_map (edge_part (row corner buffer)) es)))

abbrev pub point_cut : Grid → ℕ → Grid → Option Shape
point_cut corner buffer p = if inside (row corner buffer) p then Some (Point (relative corner p)) else None

unfoldable pub row_cut : Grid → ℕ → Outline → Option Shape
row_cut corner buffer (OnePoint p) = point_cut corner buffer p
row_cut corner buffer (Paths es) = some_line (paths_cut corner buffer es)
row_cut corner buffer (Polygons polygons) = some_area (filter_map (polygon_cut corner buffer) polygons)

-- what is left of an outline in a tile
abbrev pub tile_cut : ℕ → ℕ → ℕ → ℕ → Outline → Option Shape
tile_cut z buffer x y outline = row_cut (corner_of (tile_at z x y)) buffer (outline_in (column (corner_of (tile_at z x 0)) buffer) outline)

-- the piece of a tile
abbrev pub row_piece : ℕ → ℕ → ℕ → Outline → ℕ → List (TileXyz × Shape)
row_piece z buffer x outline y = with_tile (tile_at z x y) (row_cut (corner_of (tile_at z x y)) buffer outline)

abbrev pub tile_piece : ℕ → ℕ → Outline → ℕ → ℕ → List (TileXyz × Shape)
tile_piece z buffer outline x y = with_tile (tile_at z x y) (tile_cut z buffer x y outline)

-- the strip of so many columns or rows, with the buffer
abbrev pub strip_of : Axis → ℕ → ℕ → ℕ → Strip
strip_of axis buffer first count = record { axis = axis; lo = pos (4096 * first) -ℤ pos buffer; hi = pos (4096 * (first + count)) +ℤ pos buffer }

-- the pieces of a column
abbrev pub column_pieces : ℕ → ℕ → Outline → ℕ → List (TileXyz × Shape)
column_pieces z buffer outline x = of_each (tile_piece z buffer outline x) 0 (2 ^ z)

-- what touches the first half of so many columns or rows, and what touches the others
abbrev pub split : Axis → ℕ → ℕ → ℕ → Outline → Halves
split axis buffer first count outline = record {
  first = touching (strip_of axis buffer first (count / 2)) outline;
  second = touching (strip_of axis buffer (first + count / 2) (count - count / 2)) outline;
}
