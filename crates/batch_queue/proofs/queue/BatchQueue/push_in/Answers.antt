use Rattle.std.proofs.Common.{rules}
use Rattle.batch_queue.proofs.Moves.{pushes, learns}
use Rattle.batch_queue.proofs.queue.BatchQueue.push_in.Goals as goal

pub push_as-requires-clause-rule : goal.push_as-requires-clause-rule
push_as-requires-clause-rule g c = (pushes _ _ _ _ _ (search rules) (search rules), learns _ _)
