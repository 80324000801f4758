use Rattle.std.proofs.Common.{◌+ℤ◌, ◌-ℤ◌, ◌*ℤ◌, ap, ◌∙◌}
use Rattle.line_simplify.specs.Key.{scalar_of}
use Rattle.line_simplify.proofs.Signed.{sum_fits, sum_is, step_of, product_of}
use Rattle.line_simplify.proofs.key.scalar.Goals as goal

pub overflow_add-result : goal.overflow_add-result
overflow_add-result c = sum_fits c.product.result c.product-2.result c.product.ensures.small c.product-2.ensures.small

pub returns : goal.returns
unfolding scalar_of
returns c =
    let a = c.args.a in
    let b = c.args.b in
    let p = c.args.p in
    let on = c.requires in
    let wide = product_of c.product.result c.step.result c.step-2.result (p.x -ℤ a.x) (b.x -ℤ a.x) c.product.ensures.exact c.step.ensures.small c.step-2.ensures.small (step_of c.step.result p.x a.x on.p.x on.a.x c.step.ensures.exact) (step_of c.step-2.result b.x a.x on.b.x on.a.x c.step-2.ensures.exact) in
    let high = product_of c.product-2.result c.step-3.result c.step-4.result (p.y -ℤ a.y) (b.y -ℤ a.y) c.product-2.ensures.exact c.step-3.ensures.small c.step-4.ensures.small (step_of c.step-3.result p.y a.y on.p.y on.a.y c.step-3.ensures.exact) (step_of c.step-4.result b.y a.y on.b.y on.a.y c.step-4.ensures.exact) in
    sum_is c.product.result c.product-2.result c.product.ensures.small c.product-2.ensures.small ∙ ap (λ v. v +ℤ c.product-2.result) wide ∙ ap (λ v. ((p.x -ℤ a.x) *ℤ (b.x -ℤ a.x)) +ℤ v) high
