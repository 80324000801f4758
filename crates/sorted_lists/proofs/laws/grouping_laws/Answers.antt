use Rattle.sorted_lists.proofs.Proved.{grouping}
use Rattle.sorted_lists.proofs.laws.grouping_laws.Goals as goal

pub returns : goal.returns
returns g c = grouping _
