use Rattle.std.proofs.Common.{take}
use Rattle.work_topology.specs.Told.{IsTold}
use Rattle.work_topology.proofs.trouble.told_of.Given as goal

abbrev pub invariant-loop-report : goal.invariant-loop-report
invariant-loop-report g l = IsTold (take l.report-index l.reports) l.told
