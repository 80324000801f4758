use Rattle.std.proofs.Common.{All, sym, ap, subst, ◌∙◌}
use Rattle.tb_types.specs.Clean.{x_of, y_of}
use Rattle.tb_types.specs.Points.{distinct}
use Rattle.line_simplify.specs.Key.{IsOnGrid}
use Rattle.line_simplify.specs.Rule.{simplified}
use Rattle.tile_model.specs.World.{simple_path}
use Rattle.pass_shapes.proofs.Walks.{distinct_all, if_ok}
use Rattle.pass_shapes.proofs.simple.simple_path.Goals as goal

pub simplify-requires-clause-points : goal.simplify-requires-clause-points
simplify-requires-clause-points c =
    subst (All IsOnGrid) (sym (c.deref-2.ensures.value ∙ c.in_ok-points.ensures {u = tt})) (distinct_all IsOnGrid c.deref.result.now (subst (All IsOnGrid) (sym c.deref.ensures.value) (c.in_ok-placed.ensures {u = tt}).within))

pub returns : goal.returns
unfolding simple_path
returns c =
    if_ok c.simplify.result _ _
    (λ kept e. e ∙ ap (simplified c.args.tolerance) (c.deref-2.ensures.value ∙ (c.in_ok-points.ensures {u = tt} ∙ ap (distinct x_of y_of) (c.deref.ensures.value ∙ (c.in_ok-placed.ensures {u = tt}).exact)))) c.simplify.ensures.exact
