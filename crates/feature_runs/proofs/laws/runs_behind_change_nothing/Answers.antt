use Rattle.feature_runs.proofs.AddedSteps.{runs_behind}
use Rattle.feature_runs.proofs.laws.runs_behind_change_nothing.Goals as goal

pub returns : goal.returns
returns c = runs_behind
