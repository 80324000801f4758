use Rattle.sorted_lists.proofs.Proved.{maps}
use Rattle.sorted_lists.proofs.laws.map_laws.Goals as goal

pub returns : goal.returns
returns g c = maps _ _
