use Rattle.int_mercator.proofs.Knots.{table_facts}
use Rattle.int_mercator.proofs.table.table_facts.Goals as goal

pub returns : goal.returns
returns c = table_facts
