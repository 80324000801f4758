use Rattle.std.proofs.Common.{◌-ℤ◌, ◌*ℤ◌, FitsSigned, w32, ap, ◌∙◌, rules}
use Rattle.tb_types.specs.Points.{turn}
use Rattle.strip_clip.proofs.Signed.{product_32, difference_is, difference_small}
use Rattle.strip_clip.proofs.clean.turn.Goals as goal

pub returns-clause-exact : goal.returns-clause-exact
unfolding turn
returns-clause-exact c =
    let p = c.args.p in
    let q = c.args.q in
    let px : FitsSigned w32 c.args.p.x = search rules in
    let py : FitsSigned w32 c.args.p.y = search rules in
    let qx : FitsSigned w32 c.args.q.x = search rules in
    let qy : FitsSigned w32 c.args.q.y = search rules in
    difference_is c.product.result c.product-2.result c.product.ensures.small c.product-2.ensures.small ∙ ap (λ v. v -ℤ c.product-2.result) (product_32 c.product.result p.x q.y px qy c.product.ensures.exact) ∙ ap (λ v. (p.x *ℤ q.y) -ℤ v) (product_32 c.product-2.result q.x p.y qx py c.product-2.ensures.exact)

pub returns-clause-small : goal.returns-clause-small
returns-clause-small c = difference_small c.product.result c.product-2.result c.product.ensures.small c.product-2.ensures.small
