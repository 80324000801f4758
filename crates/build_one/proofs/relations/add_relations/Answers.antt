use Rattle.build_one.proofs.Gathered.{emits-flushed}
use Rattle.build_one.proofs.relations.add_relations.Goals as goal

pub returns-in-Ok-clause-added : goal.returns-in-Ok-clause-added
returns-in-Ok-clause-added g c =
    emits-flushed c.args.profile.now _ (g.S.Spill.seen c.args.spill.now) (g.S.Spill.seen c.put_relations.new.spill) (g.S.Spill.seen c.flush.new.spill) c.args.buffer.now c.put_relations.new.buffer c.flush.new.self tt c.flush.result
    (c.in-Ok.ensures {u = tt}) c.flush.ensures.flushed c.flush.ensures.told c.flush.ensures.since c.flush.ensures.frames
