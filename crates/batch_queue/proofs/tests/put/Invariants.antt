use Rattle.std.proofs.Common.{◌≡◌}
use Rattle.batch_queue.proofs.tests.put.Given as goal

abbrev pub invariant-loop-number : goal.invariant-loop-number
invariant-loop-number g l = (l.pass.place ≡ l.initial.pass.place) × (l.pass.first ≡ l.initial.pass.first) × (l.pass.out ≡ l.initial.pass.out)
