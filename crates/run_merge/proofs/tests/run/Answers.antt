use Rattle.std.proofs.Common.{refl}
use Rattle.run_merge.proofs.QuietRuns.{quiet_runs}
use Rattle.run_merge.proofs.tests.run.Goals as goal

pub start-requires-clause-told : goal.start-requires-clause-told
start-requires-clause-told c = quiet_runs _ (λ s. refl) c.args.lanes.now c.args.spool.now 1 c.args.lists.now c.requires
