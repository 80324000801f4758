use Rattle.std.proofs.Common.{◌≡◌, ◌*◌, length}
use Rattle.tb_outside.specs.Memory.{as_source}
use Rattle.work_topology.proofs.Tens.{AreOver}
use Rattle.work_topology.proofs.tests.troubles.lanes_of.Given as goal

abbrev pub invariant-loop-number : goal.invariant-loop-number
invariant-loop-number l = (length l.lanes.items ≡ l.number) × AreOver as_source (10 * l.row.blocks) l.lanes.items
