use Rattle.node_store.proofs.Greatest.{located_decides, shaped_decides}
use Rattle.node_store.proofs.laws.greatest_place_decides.Goals as goal

pub returns-clause-nodes : goal.returns-clause-nodes
returns-clause-nodes c = located_decides

pub returns-clause-ways : goal.returns-clause-ways
returns-clause-ways c = shaped_decides
