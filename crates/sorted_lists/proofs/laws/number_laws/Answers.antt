use Rattle.sorted_lists.proofs.Proved.{numbers}
use Rattle.sorted_lists.proofs.laws.number_laws.Goals as goal

pub returns : goal.returns
returns c = numbers
