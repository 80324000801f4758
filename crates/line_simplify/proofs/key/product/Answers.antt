use Rattle.std.proofs.Common.{unsigned_abs, ap, arith}
use Rattle.line_simplify.proofs.Signed.{product_is, abs_mul}
use Rattle.line_simplify.proofs.key.product.Goals as goal

pub returns-clause-exact : goal.returns-clause-exact
returns-clause-exact c = product_is c.args.m c.args.n c.ranges.m c.ranges.n c.requires.m c.requires.n

pub returns-clause-small : goal.returns-clause-small
returns-clause-small c = omega (arith, ap unsigned_abs (returns-clause-exact c), abs_mul c.args.m c.args.n c.requires.m c.requires.n)
