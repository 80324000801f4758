use Rattle.std.proofs.Common.{arith}
use Rattle.hilbert_ids.proofs.Numbers.{two_mono}
use Rattle.tile_model.proofs.reach.side.Goals as goal

pub returns-clause-small : goal.returns-clause-small
returns-clause-small c = let h = two_mono c.args.zoom 14 c.requires in omega (arith, h)
