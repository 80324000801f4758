use Rattle.sorted_lists.proofs.Proved.{keys}
use Rattle.sorted_lists.proofs.laws.key_laws.Goals as goal

pub returns : goal.returns
returns g c = keys _ _
