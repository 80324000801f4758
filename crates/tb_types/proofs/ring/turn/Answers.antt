use Rattle.std.proofs.Common.{◌-ℤ◌, ◌*ℤ◌, ap, ◌∙◌}
use Rattle.tb_types.specs.Points.{turn}
use Rattle.tb_types.proofs.Turns.{difference_is, difference_small, product_is}
use Rattle.tb_types.proofs.ring.turn.Goals as goal

pub returns-clause-exact : goal.returns-clause-exact
unfolding turn
returns-clause-exact g c =
    let x = g.P.Point.x_of in
    let y = g.P.Point.y_of in
    let p = c.args.p in
    let q = c.args.q in
    difference_is c.product.result c.product-2.result c.product.ensures.small c.product-2.ensures.small
    ∙ ap (λ v. v -ℤ c.product-2.result) (product_is c.product.result c.x.result c.y.result (x p) (y q) c.x.ensures.small c.y.ensures.small c.x.ensures.exact c.y.ensures.exact c.product.ensures.exact)
    ∙ ap (λ v. (x p *ℤ y q) -ℤ v) (product_is c.product-2.result c.x-2.result c.y-2.result (x q) (y p) c.x-2.ensures.small c.y-2.ensures.small c.x-2.ensures.exact c.y-2.ensures.exact c.product-2.ensures.exact)

pub returns-clause-small : goal.returns-clause-small
returns-clause-small g c = difference_small c.product.result c.product-2.result c.product.ensures.small c.product-2.ensures.small
