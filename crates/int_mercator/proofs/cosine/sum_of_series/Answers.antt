use Rattle.std.proofs.Common.{arith}
use Rattle.int_mercator.proofs.Terms.{series_is}
use Rattle.int_mercator.proofs.cosine.sum_of_series.Goals as goal

pub overflow_sub-result : goal.overflow_sub-result
overflow_sub-result c =
    let is = series_is c.args.square c.loop-pair.pair (omega arith) in
    omega (arith, is, c.requires.positive)

pub returns : goal.returns
returns c =
    let is = series_is c.args.square c.loop-pair.pair (omega arith) in
    omega (arith, is)
