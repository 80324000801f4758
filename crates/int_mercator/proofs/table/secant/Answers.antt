use Rattle.std.proofs.Common.{◌/◌, ◌^◌, ap}
use Rattle.int_mercator.specs.Quarter.{secant_of}
use Rattle.int_mercator.proofs.table.secant.Goals as goal

pub returns-clause-exact : goal.returns-clause-exact
unfolding secant_of
returns-clause-exact c = ap (λ n. 2 ^ 120 / n) c.cosine.ensures.exact
