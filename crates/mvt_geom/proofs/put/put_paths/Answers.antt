use Rattle.std.proofs.Common.{◌≡◌, get_or, sym, subst}
use Rattle.mvt_geom.specs.Text.{AreSteps}
use Rattle.mvt_geom.proofs.Drawing.{draws-path, paths-more}
use Rattle.mvt_geom.proofs.Steps.{steps-line, cursor-line}
use Rattle.mvt_geom.proofs.put.put_paths.Goals as goal

pub put_path-requires-clause-steps : goal.put_path-requires-clause-steps
put_path-requires-clause-steps c =
    let path = c.as_slice.result.now in
    let i = c.loop-path.path-index in
    let itself : get_or c.args.paths.now i path ≡ path = subst (λ q. get_or c.args.paths.now i q ≡ q) (sym c.as_slice.ensures) (sym c.path-item.is) in
    subst (λ at. AreSteps at path) (sym c.loop-path.invariant.at) (steps-line c.args.pen.now.at c.args.paths.now i path c.loop-path-test.true itself c.requires.steps)

pub loop-path-preserved : goal.loop-path-preserved
loop-path-preserved c =
    let path = c.as_slice.result.now in
    let i = c.loop-path.path-index in
    let itself : get_or c.args.paths.now i path ≡ path = subst (λ q. get_or c.args.paths.now i q ≡ q) (sym c.as_slice.ensures) (sym c.path-item.is) in
    let written = c.in_ok-put_path.ensures {u = tt} in
    record {
      draws = paths-more c.args.closed c.args.pen.now c.loop-path.pen c.put_path.new.pen c.args.paths.now i path c.loop-path-test.true itself c.loop-path.invariant.draws
          (draws-path c.args.closed c.loop-path.pen c.put_path.new.pen path written.ints written.at);
      at = cursor-line c.args.pen.now.at c.loop-path.pen.at c.put_path.new.pen.at c.args.paths.now i path c.loop-path-test.true itself c.loop-path.invariant.at written.at;
    }
