use Rattle.sorted_lists.proofs.Proved.{bags}
use Rattle.sorted_lists.proofs.laws.bag_laws.Goals as goal

pub returns : goal.returns
returns g c = bags _ _ _
