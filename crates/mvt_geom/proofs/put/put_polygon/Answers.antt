use Rattle.std.proofs.Common.{sym, ap, subst, ◌∙◌, All}
use Rattle.std.proofs.lemmas.Result.{on_ok_weaker}
use Rattle.std.proofs.lemmas.List.Elements.{All-tail}
use Rattle.mvt_geom.specs.Geometry.{cursor_after}
use Rattle.mvt_geom.specs.Text.{all_of, AreSteps, IsShort}
use Rattle.mvt_geom.proofs.PointSteps.{cursor_after-append}
use Rattle.mvt_geom.proofs.Steps.{steps-first, steps-later}
use Rattle.mvt_geom.proofs.put.put_polygon.Goals as goal

pub put_path-requires-clause-steps : goal.put_path-requires-clause-steps
put_path-requires-clause-steps c =
    let polygon = c.args.polygon.now in
    subst (AreSteps c.args.pen.now.at) (sym c.as_slice.ensures) (steps-first c.args.pen.now.at polygon.outer (all_of polygon.inners) c.requires.steps)

pub put_paths-requires-clause-short : goal.put_paths-requires-clause-short
put_paths-requires-clause-short c =
    let polygon = c.args.polygon.now in
    subst (All IsShort) (sym c.as_slice-2.ensures) (All-tail IsShort polygon.outer polygon.inners c.requires.short)

pub put_paths-requires-clause-steps : goal.put_paths-requires-clause-steps
put_paths-requires-clause-steps c =
    let polygon = c.args.polygon.now in
    let at = (c.in_ok-put_path.ensures {u = tt}).at ∙ ap (cursor_after c.args.pen.now.at) c.as_slice.ensures in
    subst (λ paths. AreSteps c.put_path.new.pen.at (all_of paths)) (sym c.as_slice-2.ensures)
    (subst (λ p. AreSteps p (all_of polygon.inners)) (sym at) (steps-later c.args.pen.now.at polygon.outer (all_of polygon.inners) c.requires.steps))

pub returns-clause-at : goal.returns-clause-at
returns-clause-at c =
    let polygon = c.args.polygon.now in
    let at = (c.in_ok-put_path.ensures {u = tt}).at ∙ ap (cursor_after c.args.pen.now.at) c.as_slice.ensures in
    on_ok_weaker c.put_paths.result (λ e. e ∙ (λ i. cursor_after (at i) (all_of (c.as_slice-2.ensures i))) ∙ sym (cursor_after-append c.args.pen.now.at polygon.outer (all_of polygon.inners)))
    c.put_paths.ensures.at
