use Rattle.run_merge.specs.Cursors.{cursors_of}
use Rattle.run_merge.specs.Objects.{objects_of}
use Rattle.run_merge.specs.Steps.{bytes_left}
use Rattle.build_one.proofs.Tiling.{Walk}
use Rattle.build_one.proofs.tiles.put_tiles.Given as goal

abbrev pub invariant-tiles : goal.invariant-tiles
invariant-tiles g l = Walk l.names l.part l.fn.merge l.fn.writer (objects_of g.S.Spill.seen l.fn.lanes l.fn.spool) l.merge l.writer (objects_of g.S.Spill.seen l.lanes l.spool)

abbrev pub decreases-tiles : goal.decreases-tiles
decreases-tiles g l = bytes_left (cursors_of l.merge.readers)
