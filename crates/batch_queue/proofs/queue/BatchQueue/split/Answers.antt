use Rattle.std.proofs.Common.{rules}
use Rattle.batch_queue.proofs.Moves.{forks}
use Rattle.batch_queue.proofs.queue.BatchQueue.split.Goals as goal

pub another-requires-clause-rule : goal.another-requires-clause-rule
another-requires-clause-rule g c = forks _ _ (search rules) (search rules)
