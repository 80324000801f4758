use Rattle.std.proofs.Common.{arith}
use Rattle.std.proofs.lemmas.Nat.{one_shl}
use Rattle.hilbert_ids.proofs.Numbers.{two_mono}
use Rattle.hilbert_ids.proofs.zoom.side.Goals as goal

pub returns-clause-small : goal.returns-clause-small
returns-clause-small c = omega (arith, one_shl c.args.zoom 32 (omega arith), two_mono c.args.zoom 26 c.requires)
