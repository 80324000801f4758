use Rattle.std.proofs.Common.{◌≡◌}
use Rattle.batch_queue.proofs.tests.take.Given as goal

abbrev pub invariant-loop : goal.invariant-loop
invariant-loop g l = (l.pass.place ≡ l.initial.pass.place) × (l.pass.first ≡ l.initial.pass.first) × (l.pass.out ≡ l.initial.pass.out)
