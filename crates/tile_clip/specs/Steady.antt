-- Rows of a column that have one and the same piece, counted from their corners.
use Rattle.std.specs.Prelude.{ℕ, Bool, true, false, ◌&&◌, ◌||◌, int_lt, Option, List, [], ◌∷◌}
use Rattle.std.specs.Ordering.{int_eq}
use Rattle.tb_types.specs.declared.tile.TileXyz.{TileXyz}
use Rattle.tb_types.specs.declared.shape.Shape.{Shape}
use Rattle.strip_clip.specs.declared.strip.Strip.{Strip}
use Rattle.tile_clip.specs.declared.edge.Edge.{Edge}
use Rattle.tile_clip.specs.declared.outline.RingEdges.{RingEdges}
use Rattle.tile_clip.specs.declared.outline.Outline.{Outline}
use Rattle.tile_clip.specs.declared.outline.Outline.TheVariants.{OnePoint, Paths, Polygons}
use Rattle.tile_clip.specs.Pieces.{tile_at, with_tile}

-- an edge goes straight down through all of some rows, or straight up
unfoldable pub runs_down : Strip → Edge → Bool
runs_down rows e = int_eq e.from.x e.to.x && (int_lt e.from.y rows.lo && int_lt rows.hi e.to.y)

unfoldable pub runs_up : Strip → Edge → Bool
runs_up rows e = int_eq e.from.x e.to.x && (int_lt e.to.y rows.lo && int_lt rows.hi e.from.y)

-- all edges of a ring do, and all rings of a polygon
abbrev pub are_steady : Strip → List Edge → Bool
are_steady rows [] = true
are_steady rows (e ∷ es) = (runs_down rows e || runs_up rows e) && are_steady rows es

abbrev pub all_steady : Strip → List (List Edge) → Bool
all_steady rows [] = true
all_steady rows (ring ∷ rings) = are_steady rows ring && all_steady rows rings

abbrev pub is_polygon_steady : Strip → RingEdges → Bool
is_polygon_steady rows rings = are_steady rows rings.outer && all_steady rows rings.inners

abbrev pub are_polygons_steady : Strip → List RingEdges → Bool
are_polygons_steady rows [] = true
are_polygons_steady rows (rings ∷ polygons) = is_polygon_steady rows rings && are_polygons_steady rows polygons

-- an area is the same in all of some rows
abbrev pub is_steady : Strip → Outline → Bool
is_steady rows (OnePoint p) = false
is_steady rows (Paths es) = false
is_steady rows (Polygons polygons) = are_polygons_steady rows polygons

-- the piece of a row that has a piece like another's
abbrev pub like_piece : ℕ → ℕ → Option Shape → ℕ → List (TileXyz × Shape)
like_piece z x piece y = with_tile (tile_at z x y) piece
