use Rattle.std.proofs.Common.{◌≡◌, Ok, List}
use Rattle.batch_queue.specs.declared.entry.Entry.{Entry}
use Rattle.work_topology.specs.Parts.{PopsAlso, WorksLeft}
use Rattle.work_topology.proofs.drain.work_on.Given as goal

abbrev pub invariant-loop : goal.invariant-loop
invariant-loop g l =
    (entries : List Entry) × (l.queue ≡ l.initial.queue) × PopsAlso l.initial.pass entries l.pass × WorksLeft (g.J.PassJob.meaning l.job) g.S.Spill.seen 0 entries l.initial.lane l.initial.report l.lane l.report (Ok tt)
