use Rattle.std.proofs.Common.{◌∷◌, sym, subst}
use Rattle.mvt_geom.specs.Text.{all_of, AreSteps}
use Rattle.mvt_geom.proofs.Drawing.{polygons-more}
use Rattle.mvt_geom.proofs.Steps.{steps-polygon, short-polygon, cursor-polygon}
use Rattle.mvt_geom.proofs.put.put_polygons.Goals as goal

pub put_polygon-requires-clause-short : goal.put_polygon-requires-clause-short
put_polygon-requires-clause-short c =
    short-polygon c.args.polygons.now c.loop-polygon.polygon-index c.polygon-item.result c.loop-polygon-test.true (sym c.polygon-item.is) c.requires.short

pub put_polygon-requires-clause-steps : goal.put_polygon-requires-clause-steps
put_polygon-requires-clause-steps c =
    let g = c.polygon-item.result in
    subst (λ at. AreSteps at (all_of (g.outer ∷ g.inners))) (sym c.loop-polygon.invariant.at)
    (steps-polygon c.args.pen.now.at c.args.polygons.now c.loop-polygon.polygon-index g c.loop-polygon-test.true (sym c.polygon-item.is) c.requires.steps)

pub loop-polygon-preserved : goal.loop-polygon-preserved
loop-polygon-preserved c =
    let g = c.polygon-item.result in
    let i = c.loop-polygon.polygon-index in
    let written = c.in_ok-put_polygon.ensures {u = tt} in
    record {
      draws = polygons-more c.args.pen.now c.loop-polygon.pen c.put_polygon.new.pen c.args.polygons.now i g c.loop-polygon-test.true (sym c.polygon-item.is) c.loop-polygon.invariant.draws written.draws;
      at = cursor-polygon c.args.pen.now.at c.loop-polygon.pen.at c.put_polygon.new.pen.at c.args.polygons.now i g c.loop-polygon-test.true (sym c.polygon-item.is) c.loop-polygon.invariant.at written.at;
    }
