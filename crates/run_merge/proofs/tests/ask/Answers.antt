use Rattle.std.proofs.Common.{refl}
use Rattle.run_merge.proofs.QuietRuns.{quiet_readers}
use Rattle.run_merge.proofs.tests.ask.Goals as goal

pub next_group-requires-clause-told : goal.next_group-requires-clause-told
next_group-requires-clause-told c = quiet_readers _ (λ s. refl) c.args.lanes.now c.args.spool.now c.args.merge.now.layers c.args.merge.now.readers c.requires
