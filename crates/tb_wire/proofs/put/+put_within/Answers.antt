use Rattle.std.proofs.Common.{arith}
use Rattle.std.proofs.lemmas.Grind.{common_steps}
use Rattle.tb_wire.proofs.Varints.{rest_below, encoding_within_more}
use Rattle.tb_wire.proofs.put.+put_within.Goals as goal

pub put_within-requires : goal.put_within-requires
put_within-requires t c = (omega arith, (omega arith, (omega arith, rest_below c.args.more c.args.v (omega arith) c.requires.small)))

pub returns : goal.returns
returns t c = grind (arith, common_steps, encoding_within_more c.args.more c.args.v)
