-- A shape after clean-up stays one where less is asked of its points.
use Rattle.std.proofs.Common.{List}
use Rattle.std.proofs.lemmas.List.Elements.{All-weaker}
use Rattle.tb_types.specs.declared.location.Grid.{Grid}
use Rattle.tb_types.specs.declared.shape.Shape.{Shape}
use Rattle.tb_types.specs.declared.shape.Shape.TheVariants.{Point, Line, Area}
use Rattle.tb_types.specs.declared.shape.GridPolygon.{GridPolygon}
use Rattle.tb_types.specs.Clean.{IsPath, IsOuter, IsInner, IsPolygon, IsClean}

module _ (Fits Goes : Grid → Type 0) (less : (p : Grid) → Fits p → Goes p) where
  path-weaker : (path : List Grid) → IsPath Fits path → IsPath Goes path
  path-weaker path h = record { long = h.long; points = All-weaker Fits Goes less path h.points }

  outer-weaker : (ring : List Grid) → IsOuter Fits ring → IsOuter Goes ring
  outer-weaker ring h = record { long = h.long; points = All-weaker Fits Goes less ring h.points; positive = h.positive }

  inner-weaker : (ring : List Grid) → IsInner Fits ring → IsInner Goes ring
  inner-weaker ring h = record { long = h.long; points = All-weaker Fits Goes less ring h.points; negative = h.negative }

  polygon-weaker : (polygon : GridPolygon) → IsPolygon Fits polygon → IsPolygon Goes polygon
  polygon-weaker polygon h = record { outer = outer-weaker polygon.outer h.outer; inners = All-weaker (IsInner Fits) (IsInner Goes) inner-weaker polygon.inners h.inners }

  pub clean-weaker : (shape : Shape) → IsClean Fits shape → IsClean Goes shape
  clean-weaker (Point p) h = less p h
  clean-weaker (Line paths) h = (h.0, All-weaker (IsPath Fits) (IsPath Goes) path-weaker paths h.1)
  clean-weaker (Area polygons) h = (h.0, All-weaker (IsPolygon Fits) (IsPolygon Goes) polygon-weaker polygons h.1)
