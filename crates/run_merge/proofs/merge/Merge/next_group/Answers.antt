use Rattle.run_merge.specs.Objects.{objects_of}
use Rattle.run_merge.proofs.Ends.{next_keeps}
use Rattle.run_merge.proofs.merge.Merge.next_group.Goals as goal

pub returns-clause-keeps : goal.returns-clause-keeps
returns-clause-keeps g c =
    let seen = g.S.Spill.seen in
    next_keeps (objects_of seen c.args.lanes.now c.args.spool.now) (objects_of seen c.gather.new.lanes c.gather.new.spool) c.args.part _ _ c.gather.result c.gather.ensures.answer
