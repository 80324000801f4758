use Rattle.std.proofs.Common.{rules}
use Rattle.batch_queue.proofs.Moves.{merges}
use Rattle.batch_queue.proofs.queue.BatchQueue.join.Goals as goal

pub absorb-requires-clause-rule : goal.absorb-requires-clause-rule
absorb-requires-clause-rule g c = merges _ _ _ _ (search rules) (search rules) (search rules)
