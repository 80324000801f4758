-- The integers that a shape is written as (Mapbox Vector Tile 2.1, section 4.3).
use Rattle.std.specs.Prelude.{◌≡◌, ℕ, ◌^◌, ◌<◌, Bool, true, false, ℤ, pos, negsuc, ◌-ℤ◌, ◌<ℤ◌, ◌≤ℤ◌, Some, ⊤, List, [], ◌∷◌, ◌++◌, length, flat_map, All}
use Rattle.tb_types.specs.Zigzag.{zigzag_of}
use Rattle.tb_types.specs.declared.location.Grid.{Grid}
use Rattle.tb_types.specs.declared.shape.Shape.{Shape}
use Rattle.tb_types.specs.declared.shape.Shape.TheVariants.{Point, Line, Area}
use Rattle.tb_types.specs.declared.shape.GridPolygon.{GridPolygon}
use Rattle.tb_types.specs.Clean.{IsClean}
use Rattle.mvt_geom.specs.Commands.{command, move_to, line_to, close_path, has_form}
use Rattle.mvt_geom.specs.Geometry.{origin, cursor_after, geometry_of}

-- the parameters of a point: the differences from the cursor
abbrev pub difference : Grid → Grid → List ℕ
difference from p = zigzag_of (p.x -ℤ from.x) ∷ zigzag_of (p.y -ℤ from.y) ∷ []

-- those of several points, each from the one before it
abbrev pub differences : Grid → List Grid → List ℕ
differences from [] = []
differences from (p ∷ points) = difference from p ++ differences p points

-- a ring ends with ClosePath
abbrev pub closing : Bool → List ℕ
closing false = []
closing true = command close_path 1 ∷ []

-- a path: MoveTo of its first point, LineTo of the others, and ClosePath where it is a ring
unfoldable pub path_ints : Bool → Grid → List Grid → List ℕ
path_ints closed from [] = []
path_ints closed from (p ∷ points) = command move_to 1 ∷ difference from p ++ command line_to (length points) ∷ differences p points ++ closing closed

-- several paths, each from where the cursor was left
abbrev pub paths_ints : Bool → Grid → List (List Grid) → List ℕ
paths_ints closed from [] = []
paths_ints closed from (path ∷ paths) = path_ints closed from path ++ paths_ints closed (cursor_after from path) paths

-- the rings of polygons: of each its outer ring, and then its inner ones
abbrev pub rings_of : List GridPolygon → List (List Grid)
rings_of polygons = flat_map (λ g. g.outer ∷ g.inners) polygons

-- the integers of a shape
abbrev pub ints_of : Shape → List ℕ
ints_of (Point p) = command move_to 1 ∷ difference origin p
ints_of (Line paths) = paths_ints false origin paths
ints_of (Area polygons) = paths_ints true origin (rings_of polygons)

-- the type of a feature with a shape
abbrev pub form_of : Shape → ℕ
form_of (Point p) = 1
form_of (Line paths) = 2
form_of (Area polygons) = 3

-- the lines or rings of a shape, one after another
abbrev pub lines_in : Shape → List (List Grid)
lines_in (Point p) = []
lines_in (Line paths) = paths
lines_in (Area polygons) = rings_of polygons

-- the points of lines, line after line
abbrev pub all_of : List (List Grid) → List Grid
all_of paths = flat_map (λ path. path) paths

-- the points of a shape, in the order in which they are written
abbrev pub points_in : Shape → List Grid
points_in (Point p) = p ∷ []
points_in (Line paths) = all_of paths
points_in (Area polygons) = all_of (rings_of polygons)

-- a signed number of 32 bits; `negsuc n` is -(n + 1)
abbrev pub Fits32 : ℤ → Type 0
Fits32 z = (negsuc 2147483647 ≤ℤ z) × (z <ℤ pos 2147483648)

-- the way to a point has 32 bits in each coordinate
pub record IsStep (from p : Grid) : Type 0 where
  pub x : Fits32 (p.x -ℤ from.x)
  pub y : Fits32 (p.y -ℤ from.y)

-- each point is a step away from the one before it
abbrev pub AreSteps : Grid → List Grid → Type 0
AreSteps from [] = ⊤
AreSteps from (p ∷ points) = IsStep from p × AreSteps p points

-- a line or ring of fewer than 2 ^ 29 points, whose number fits a command
abbrev pub IsShort : List Grid → Type 0
IsShort path = length path < 2 ^ 29

-- a shape that can be written
pub record IsDrawable (shape : Shape) : Type 0 where
  pub short : All IsShort (lines_in shape)
  pub steps : AreSteps origin (points_in shape)

-- a point's coordinates are signed numbers of 32 bits
pub record IsPoint (p : Grid) : Type 0 where
  pub x : Fits32 p.x
  pub y : Fits32 p.y

-- a point's coordinates are within half of their range, so that all differences of such points have 32 bits
pub record IsNear (p : Grid) : Type 0 where
  pub x_low : negsuc 1073741823 ≤ℤ p.x
  pub x_high : p.x <ℤ pos 1073741824
  pub y_low : negsuc 1073741823 ≤ℤ p.y
  pub y_high : p.y <ℤ pos 1073741824

-- what is written of a shape after clean-up is read again as that shape
abbrev pub GeometryIsReadAgain : Type 0
GeometryIsReadAgain = (shape : Shape) → IsClean IsPoint shape → geometry_of (form_of shape) (ints_of shape) ≡ Some shape

-- and it has the form of its type
abbrev pub GeometryHasItsForm : Type 0
GeometryHasItsForm = (shape : Shape) → IsClean IsPoint shape → has_form (form_of shape) (ints_of shape) ≡ true

-- a shape of near points and short lines can be written
abbrev pub NearShapesAreDrawable : Type 0
NearShapesAreDrawable = (shape : Shape) → IsClean IsNear shape → All IsShort (lines_in shape) → IsDrawable shape
