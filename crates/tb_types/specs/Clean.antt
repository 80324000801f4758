-- The form of a shape after clean-up, whatever is asked of its points.
use Rattle.std.specs.Prelude.{◌<◌, ◌≤◌, ℤ, pos, ◌<ℤ◌, List, length, All}
use Rattle.tb_types.specs.declared.location.Grid.{Grid}
use Rattle.tb_types.specs.declared.shape.Shape.{Shape}
use Rattle.tb_types.specs.declared.shape.Shape.TheVariants.{Point, Line, Area}
use Rattle.tb_types.specs.declared.shape.GridPolygon.{GridPolygon}
use Rattle.tb_types.specs.Points as points

-- the coordinates of a point of a grid
abbrev pub x_of : Grid → ℤ
x_of p = p.x

abbrev pub y_of : Grid → ℤ
y_of p = p.y

-- the doubled area of a ring on a grid
abbrev pub doubled_area : List Grid → ℤ
doubled_area ring = points.doubled_area x_of y_of ring

module _ (Fits : Grid → Type 0) where
  -- a path
  pub record IsPath (path : List Grid) : Type 0 where
    pub long : 2 ≤ length path
    pub points : All Fits path

  -- an outer and an inner ring
  pub record IsOuter (ring : List Grid) : Type 0 where
    pub long : 3 ≤ length ring
    pub points : All Fits ring
    pub positive : pos 0 <ℤ doubled_area ring

  pub record IsInner (ring : List Grid) : Type 0 where
    pub long : 3 ≤ length ring
    pub points : All Fits ring
    pub negative : doubled_area ring <ℤ pos 0

  -- a polygon
  pub record IsPolygon (polygon : GridPolygon) : Type 0 where
    pub outer : IsOuter polygon.outer
    pub inners : All IsInner polygon.inners

  -- a shape after clean-up: it has a point, a path or a polygon, and each of them is one after clean-up
  abbrev pub IsClean : Shape → Type 0
  IsClean (Point p) = Fits p
  IsClean (Line paths) = (0 < length paths) × All IsPath paths
  IsClean (Area polygons) = (0 < length polygons) × All IsPolygon polygons
