use Rattle.batch_queue.specs.Facts.{IsPassHere, IsWhole}
use Rattle.batch_queue.proofs.tests.drain_all.Given as goal

abbrev pub invariant-loop : goal.invariant-loop
invariant-loop g l = IsPassHere l.queue l.pass × IsWhole l.pass
