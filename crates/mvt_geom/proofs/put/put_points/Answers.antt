use Rattle.std.proofs.Common.{◌≡◌, get_or, rules, ◌++◌, sym, subst}
use Rattle.mvt_geom.specs.Geometry.{origin}
use Rattle.mvt_geom.specs.Text.{difference, IsStep}
use Rattle.mvt_geom.proofs.Steps.{steps-at}
use Rattle.mvt_geom.proofs.Drawing.{points-more}
use Rattle.mvt_geom.proofs.put.put_points.Goals as goal

pub loop-p-preserved : goal.loop-p-preserved
loop-p-preserved c =
    let p = get_or c.args.points.now c.loop-p.p-index origin in
    let itself : get_or c.args.points.now c.loop-p.p-index p ≡ p = search rules in
    let more : c.put_point.new.pen.ints.items ≡ c.loop-p.pen.ints.items ++ difference c.loop-p.pen.at p = search rules in
    let last : c.put_point.new.pen.at ≡ p = search rules in
    let both = points-more c.args.pen.now c.loop-p.pen c.put_point.new.pen c.args.points.now c.loop-p.p-index p c.loop-p-test.true itself c.loop-p.invariant.ints c.loop-p.invariant.at more last in
    record {
      ints = both.0;
      at = both.1;
    }

pub put_point-requires : goal.put_point-requires
put_point-requires c =
    let i = c.loop-p.p-index in
    let p = get_or c.args.points.now i origin in
    let itself : get_or c.args.points.now i p ≡ p = search rules in
    subst (λ at. IsStep at p) (sym c.loop-p.invariant.at) (steps-at c.args.pen.now.at c.args.points.now i p c.loop-p-test.true itself c.requires)
