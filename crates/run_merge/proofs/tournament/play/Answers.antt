use Rattle.std.proofs.Common.{refl}
use Rattle.run_merge.proofs.tournament.play.Goals as goal

pub returns : goal.returns
returns c = record { winner = c.first_of.result; put = refl; one = c.first_of.ensures.one; even = c.first_of.ensures.a; odd = c.first_of.ensures.b }
