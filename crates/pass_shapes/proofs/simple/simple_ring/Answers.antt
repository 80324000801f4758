use Rattle.std.proofs.Common.{rules, ◌≡◌, ◌-◌, All, length, take, sym, ap, subst, ◌∙◌}
use Rattle.tb_types.specs.Clean.{x_of, y_of}
use Rattle.tb_types.specs.Points.{distinct_ring}
use Rattle.line_simplify.specs.Key.{IsOnGrid}
use Rattle.line_simplify.specs.Rule.{simplified}
use Rattle.tile_model.specs.World.{round, simple_ring, without_last}
use Rattle.pass_shapes.proofs.Walks.{round_all}
use Rattle.pass_shapes.proofs.simple.simple_ring.Goals as goal

pub simplify-requires-clause-points : goal.simplify-requires-clause-points
simplify-requires-clause-points c =
    subst (All IsOnGrid) (sym (c.deref-2.ensures.value ∙ (c.in_ok-close.ensures {u = tt} ∙ ap round (c.in_ok-points.ensures {u = tt}))))
    (round_all IsOnGrid c.deref.result.now (subst (All IsOnGrid) (sym c.deref.ensures.value) (c.in_ok-placed.ensures {u = tt}).within))

pub returns : goal.returns
unfolding simple_ring
returns c =
    let kept = c.into_vec-kept.result in
    let long : kept.len ≡ length kept.items = search rules in
    c.pop.ensures.rest ∙ (ap (λ n. take (n - 1) kept.items) long ∙ ap without_last (c.into_vec-kept.ensures ∙ ((c.in_ok-simplify.ensures {u = tt}).exact
    ∙ ap (simplified c.args.tolerance) (c.deref-2.ensures.value ∙ (c.in_ok-close.ensures {u = tt} ∙ ap round (c.in_ok-points.ensures {u = tt} ∙ ap (distinct_ring x_of y_of) (c.deref.ensures.value ∙ (c.in_ok-placed.ensures {u = tt}).exact)))))))
