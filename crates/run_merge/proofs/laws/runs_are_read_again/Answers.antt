use Rattle.run_merge.proofs.RunItems.{run_made, items_again}
use Rattle.run_merge.proofs.laws.runs_are_read_again.Goals as goal

pub returns : goal.returns
returns c = λ layers items each sorted. (run_made layers items each sorted, items_again layers items each)
