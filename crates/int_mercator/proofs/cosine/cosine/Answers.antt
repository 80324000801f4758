use Rattle.std.proofs.Common.{sym, ◌∙◌, arith}
use Rattle.int_mercator.proofs.Terms.{cosine_is, cosine_large}
use Rattle.int_mercator.proofs.cosine.cosine.Goals as goal

pub sum_of_series-requires-clause-positive : goal.sum_of_series-requires-clause-positive
sum_of_series-requires-clause-positive c =
    let large = cosine_large c.args.halves c.requires in
    let is = cosine_is c.args.halves in
    rw c.from.ensures (omega (arith, large, is))

pub returns-clause-exact : goal.returns-clause-exact
returns-clause-exact c =
    let is = rw c.from.ensures at c.sum_of_series.ensures in
    is ∙ sym (cosine_is c.args.halves)

pub returns-clause-least : goal.returns-clause-least
returns-clause-least c = omega (arith, returns-clause-exact c, cosine_large c.args.halves c.requires)
