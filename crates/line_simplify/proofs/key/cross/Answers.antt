use Rattle.std.proofs.Common.{◌-ℤ◌, ◌*ℤ◌, ap, ◌∙◌}
use Rattle.line_simplify.specs.Key.{cross_of}
use Rattle.line_simplify.proofs.Signed.{difference_fits, difference_is, difference_within, step_of, product_of}
use Rattle.line_simplify.proofs.key.cross.Goals as goal

pub overflow_sub-result : goal.overflow_sub-result
overflow_sub-result c = difference_fits c.product.result c.product-2.result c.product.ensures.small c.product-2.ensures.small

pub returns-clause-exact : goal.returns-clause-exact
unfolding cross_of
returns-clause-exact c =
    let a = c.args.a in
    let b = c.args.b in
    let p = c.args.p in
    let on = c.requires in
    let first = product_of c.product.result c.step.result c.step-2.result (p.x -ℤ a.x) (b.y -ℤ a.y) c.product.ensures.exact c.step.ensures.small c.step-2.ensures.small (step_of c.step.result p.x a.x on.p.x on.a.x c.step.ensures.exact) (step_of c.step-2.result b.y a.y on.b.y on.a.y c.step-2.ensures.exact) in
    let second = product_of c.product-2.result c.step-3.result c.step-4.result (p.y -ℤ a.y) (b.x -ℤ a.x) c.product-2.ensures.exact c.step-3.ensures.small c.step-4.ensures.small (step_of c.step-3.result p.y a.y on.p.y on.a.y c.step-3.ensures.exact) (step_of c.step-4.result b.x a.x on.b.x on.a.x c.step-4.ensures.exact) in
    difference_is c.product.result c.product-2.result c.product.ensures.small c.product-2.ensures.small ∙ ap (λ v. v -ℤ c.product-2.result) first ∙ ap (λ v. ((p.x -ℤ a.x) *ℤ (b.y -ℤ a.y)) -ℤ v) second

pub returns-clause-small : goal.returns-clause-small
returns-clause-small c = difference_within c.product.result c.product-2.result c.product.ensures.small c.product-2.ensures.small
