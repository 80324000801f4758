use Rattle.std.proofs.Common.{◌≡◌, List}
use Rattle.batch_queue.specs.declared.entry.Entry.{Entry}
use Rattle.work_topology.specs.Parts.{PopsAlso}
use Rattle.work_topology.proofs.drain.give_left.Given as goal

abbrev pub invariant-loop : goal.invariant-loop
invariant-loop g l = (entries : List Entry) × (l.queue ≡ l.fn.queue) × PopsAlso l.initial.pass entries l.pass
