use Rattle.sorted_lists.proofs.Proved.{merging}
use Rattle.sorted_lists.proofs.laws.merging_laws.Goals as goal

pub returns : goal.returns
returns g c = merging _
