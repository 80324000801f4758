use Rattle.std.proofs.Common.{◌≡◌, ◌==◌, true, false, None, Some, length, sym, ◌∙◌, ◌∷◌, [], ◌++◌, rules}
use Rattle.mvt_geom.specs.Options.{◌>>=◌}
use Rattle.mvt_geom.specs.Commands.{next_of, paths_of}
use Rattle.mvt_geom.specs.Geometry.{points_of, all_points}
use Rattle.mvt_geom.specs.Walks.{with_prefix, ArePoints}
use Rattle.mvt_geom.proofs.PathSteps.{lines-step, lines-stop, lines-far, lines-end}
use Rattle.mvt_geom.proofs.read.lines_of.Goals as goal

pub loop-rest-preserved : goal.loop-rest-preserved
loop-rest-preserved c =
    let path = c.in-Some.path in
    let some : (length c.loop-rest.rest.now == 0) ≡ false = search rules in
    let read : Some (next_of path) ≡ _ = rw c.in-Some.path-is at c.in-Some.ensures.exact in
    let found : ArePoints c.loop-rest.cursor (next_of path).parameters (Some (c.in-Some-2.points, c.in-Some-2.last)) = search rules in
    let pushed : c.push.new.self ≡ c.loop-rest.lines ++ c.in-Some-2.points ∷ [] = search rules in
    (λ i. with_prefix (pushed i) (paths_of c.args.closed path.behind.now >>= all_points (found.1 i)))
    ∙ sym (lines-step c.args.closed c.loop-rest.rest.now (next_of path) c.loop-rest.cursor c.loop-rest.lines c.in-Some-2.points some read found.0) ∙ c.loop-rest.invariant

pub returns-in-None-2 : goal.returns-in-None-2
returns-in-None-2 c =
    let path = c.in-Some.path in
    let some : (length c.loop-rest.rest.now == 0) ≡ false = search rules in
    let read : Some (next_of path) ≡ _ = rw c.in-Some.path-is at c.in-Some.ensures.exact in
    let far : points_of c.loop-rest.cursor (next_of path).parameters ≡ None = search rules in
    sym (sym c.loop-rest.invariant ∙ lines-far c.args.closed c.loop-rest.rest.now (next_of path) c.loop-rest.cursor c.loop-rest.lines some read far)

pub returns-in-None : goal.returns-in-None
returns-in-None c =
    let some : (length c.loop-rest.rest.now == 0) ≡ false = search rules in
    sym (sym c.loop-rest.invariant ∙ lines-stop c.args.closed c.loop-rest.rest.now c.loop-rest.cursor c.loop-rest.lines some c.in-None.ensures.exact)

pub returns : goal.returns
returns c =
    let none : (length c.loop-rest.rest.now == 0) ≡ true = search rules in
    sym (sym c.loop-rest.invariant ∙ lines-end c.args.closed c.loop-rest.rest.now c.loop-rest.cursor c.loop-rest.lines none)
