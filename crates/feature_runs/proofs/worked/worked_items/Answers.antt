use Rattle.feature_runs.proofs.WorkedItems.{worked_items}
use Rattle.feature_runs.proofs.worked.worked_items.Goals as goal

pub returns : goal.returns
returns c = worked_items
