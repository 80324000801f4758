use Rattle.std.proofs.Common.{take}
use Rattle.work_topology.specs.Sums.{ArePlaces}
use Rattle.work_topology.proofs.lists.places_of.Given as goal

abbrev pub invariant-loop-entry : goal.invariant-loop-entry
invariant-loop-entry l = ArePlaces l.blocks (take l.entry-index l.done) l.places.items
