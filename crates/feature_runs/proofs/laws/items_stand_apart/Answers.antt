use Rattle.feature_runs.proofs.ItemWhole.{stand_apart}
use Rattle.feature_runs.proofs.laws.items_stand_apart.Goals as goal

pub returns : goal.returns
returns c = stand_apart
