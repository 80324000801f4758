-- What holds of each cut: it is a shape after clean-up, and its points lie near the tile.
use Rattle.std.specs.Prelude.{ℕ, ◌+◌, pos, negsuc, length}
use Rattle.tb_types.specs.Bags.{total}
use Rattle.tb_types.specs.Clean.{IsClean}
use Rattle.tb_types.specs.declared.location.Grid.{Grid}
use Rattle.tb_types.specs.declared.shape.Shape.{Shape}
use Rattle.tb_types.specs.declared.shape.Shape.TheVariants.{Point, Line, Area}
use Rattle.tb_types.specs.declared.shape.GridPolygon.{GridPolygon}
use Rattle.strip_clip.specs.Cuts.{IsBetween}

-- a point lies in a tile or at most 256 units beside it, counted from its corner
pub record IsNear (p : Grid) : Type 0 where
  pub x : IsBetween (negsuc 255) (pos 4352) p.x
  pub y : IsBetween (negsuc 255) (pos 4352) p.y

-- a shape after clean-up near a tile
abbrev pub IsCleanCut : Shape → Type 0
IsCleanCut shape = IsClean IsNear shape

-- how many points a polygon and a shape have
abbrev pub polygon_points : GridPolygon → ℕ
polygon_points polygon = length polygon.outer + total length polygon.inners

abbrev pub points_of : Shape → ℕ
points_of (Point p) = 1
points_of (Line paths) = total length paths
points_of (Area polygons) = total polygon_points polygons
