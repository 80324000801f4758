use Rattle.run_merge.specs.Cursors.{AreThere}
use Rattle.run_merge.specs.Objects.{objects_of}
use Rattle.run_merge.specs.contracts.quiet.QuietSpill.TheImpl as quiet
use Rattle.run_merge.proofs.tests.run.Given as goal

abbrev pub invariant-loop-part : goal.invariant-loop-part
invariant-loop-part l = AreThere (objects_of quiet.ghosts.seen l.lanes l.spool) l.merge.readers
