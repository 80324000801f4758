use Rattle.run_merge.proofs.WorkedRuns.{worked}
use Rattle.run_merge.proofs.worked.worked_runs.Goals as goal

pub returns : goal.returns
returns c = worked
