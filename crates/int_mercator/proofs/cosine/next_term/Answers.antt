use Rattle.std.proofs.Common.{◌*◌, ap, arith}
use Rattle.int_mercator.proofs.Terms.{product_small, next_small}
use Rattle.int_mercator.proofs.cosine.next_term.Goals as goal

pub overflow_mul-result : goal.overflow_mul-result
overflow_mul-result c =
    let same = ap (λ t. t * c.args.square) c.requires.term in
    omega (arith, same, product_small c.args.square c.args.n c.requires.square)

pub returns-clause-small : goal.returns-clause-small
returns-clause-small c = rw (c.requires.term, c.from-twice.ensures) (next_small c.args.square c.args.n c.requires.square)
