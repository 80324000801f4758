use Rattle.std.proofs.Common.{◌≤◌, List, All, sym, subst}
use Rattle.std.proofs.lemmas.Result.{IfOk-weaker}
use Rattle.ring_assembly.specs.declared.polygon.Polygon.{Polygon}
use Rattle.ring_assembly.specs.Counts.{IsArea, points_of_rings, points_of_polygons}
use Rattle.ring_assembly.proofs.PolygonCounts.{nested_points}
use Rattle.ring_assembly.proofs.PolygonRings.{nested_are}
use Rattle.ring_assembly.proofs.polygon.nest.Goals as goal

pub returns-clause-few : goal.returns-clause-few
returns-clause-few c =
    IfOk-weaker c.all_polygons.result _ _ (λ polygons e. subst (λ (l : List Polygon). points_of_polygons l ≤ points_of_rings c.args.rings.now) (sym e) (nested_points c.args.rings.now)) c.all_polygons.ensures

pub returns-clause-areas : goal.returns-clause-areas
returns-clause-areas c are = IfOk-weaker c.all_polygons.result _ _ (λ polygons e. subst (All IsArea) (sym e) (nested_are c.args.rings.now are)) c.all_polygons.ensures
