-- Pieces near a tile with few points can be written, and what is written has the form of its type.
use Rattle.std.proofs.Common.{◌≡◌, ℕ, ◌^◌, ◌<◌, true, List, [], ◌∷◌, length, All, arith}
use Rattle.std.proofs.lemmas.Int.{ints}
use Rattle.std.proofs.lemmas.List.Elements.{All-nil, All-cons, All-weaker, All-append}
use Rattle.tb_types.specs.Bags.{total}
use Rattle.tb_types.specs.Clean.{IsClean, IsPath, IsInner, IsPolygon}
use Rattle.tb_types.specs.declared.location.Grid.{Grid}
use Rattle.tb_types.specs.declared.shape.GridPolygon.{GridPolygon}
use Rattle.tb_types.specs.declared.shape.Shape.{Shape}
use Rattle.tb_types.specs.declared.shape.Shape.TheVariants.{Point, Line, Area}
use Rattle.strip_clip.specs.CleanCuts.{IsCleanCut, polygon_points, points_of}
use Rattle.strip_clip.specs.CleanCuts as cuts
use Rattle.mvt_geom.specs.Commands.{has_form}
use Rattle.mvt_geom.specs.Text.{IsDrawable, IsShort, form_of, ints_of, lines_in, rings_of}
use Rattle.mvt_geom.specs.Text as texts
use Rattle.mvt_geom.proofs.Again.{geometry_has_its_form}
use Rattle.mvt_geom.proofs.Steps.{near_shapes_are_drawable}

module _ (P Q : Grid → Type 0) (f : (p : Grid) → P p → Q p) where
  path-weaker : (path : List Grid) → IsPath P path → IsPath Q path
  path-weaker path h = record { long = h.long; points = All-weaker P Q f path h.points }

  inner-weaker : (ring : List Grid) → IsInner P ring → IsInner Q ring
  inner-weaker ring h = record { long = h.long; points = All-weaker P Q f ring h.points; negative = h.negative }

  polygon-weaker : (polygon : GridPolygon) → IsPolygon P polygon → IsPolygon Q polygon
  polygon-weaker polygon h = record {
    outer = record { long = h.outer.long; points = All-weaker P Q f polygon.outer h.outer.points; positive = h.outer.positive };
    inners = All-weaker (IsInner P) (IsInner Q) inner-weaker polygon.inners h.inners;
  }

  clean-weaker : (shape : Shape) → IsClean P shape → IsClean Q shape
  clean-weaker (Point p) h = f p h
  clean-weaker (Line paths) h = (h.0, All-weaker (IsPath P) (IsPath Q) path-weaker paths h.1)
  clean-weaker (Area polygons) h = (h.0, All-weaker (IsPolygon P) (IsPolygon Q) polygon-weaker polygons h.1)

near-enough : (p : Grid) → cuts.IsNear p → texts.IsNear p
near-enough p h =
    let x_low = h.x.low in
    let x_high = h.x.high in
    let y_low = h.y.low in
    let y_high = h.y.high in
    record { x_low = grind (arith, ints); x_high = grind (arith, ints); y_low = grind (arith, ints); y_high = grind (arith, ints) }

short-each : (n : ℕ) (rings : List (List Grid)) → total length rings < n → All (λ ring. length ring < n) rings
short-each n [] h = All-nil (λ ring. length ring < n)
short-each n (ring ∷ rings) h = All-cons (λ r. length r < n) ring rings (omega (arith, h)) (short-each n rings (omega (arith, h)))

short-rings : (n : ℕ) (polygons : List GridPolygon) → total polygon_points polygons < n → All (λ ring. length ring < n) (rings_of polygons)
short-rings n [] h = All-nil (λ ring. length ring < n)
short-rings n (g ∷ polygons) h =
    All-append (λ ring. length ring < n) (g.outer ∷ g.inners) (rings_of polygons)
    (All-cons (λ ring. length ring < n) g.outer g.inners (omega (arith, h)) (short-each n g.inners (omega (arith, h)))) (short-rings n polygons (omega (arith, h)))

lines-short : (shape : Shape) → points_of shape < 2 ^ 29 → All IsShort (lines_in shape)
lines-short (Point p) h = All-nil IsShort
lines-short (Line paths) h = short-each (2 ^ 29) paths h
lines-short (Area polygons) h = short-rings (2 ^ 29) polygons h

pub drawable : (shape : Shape) → IsCleanCut shape → points_of shape < 2 ^ 29 → IsDrawable shape
drawable shape clean few = near_shapes_are_drawable shape (clean-weaker cuts.IsNear texts.IsNear near-enough shape clean) (lines-short shape few)

near-point : (p : Grid) → cuts.IsNear p → texts.IsPoint p
near-point p h =
    let x_low = h.x.low in
    let x_high = h.x.high in
    let y_low = h.y.low in
    let y_high = h.y.high in
    record { x = (grind (arith, ints), grind (arith, ints)); y = (grind (arith, ints), grind (arith, ints)) }

pub has-its-form : (shape : Shape) → IsCleanCut shape → has_form (form_of shape) (ints_of shape) ≡ true
has-its-form shape clean = geometry_has_its_form shape (clean-weaker cuts.IsNear texts.IsPoint near-point shape clean)
