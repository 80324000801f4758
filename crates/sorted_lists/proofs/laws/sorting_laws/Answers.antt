use Rattle.sorted_lists.proofs.Proved.{sorting}
use Rattle.sorted_lists.proofs.laws.sorting_laws.Goals as goal

pub returns : goal.returns
returns g c = sorting _
