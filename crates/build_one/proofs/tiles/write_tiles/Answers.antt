use Rattle.std.proofs.Common.{length, sym, ap, subst, ◌∙◌}
use Rattle.mvt_codec.specs.Groups.{AreNames}
use Rattle.run_merge.specs.Answers.{named_runs}
use Rattle.run_merge.specs.Cursors.{AreTold}
use Rattle.run_merge.specs.Objects.{objects_of}
use Rattle.run_merge.specs.Steps.{AreReadable}
use Rattle.build_one.proofs.Mapping.{names-count, short-names, map-tiles, map-stopped}
use Rattle.build_one.proofs.tiles.write_tiles.Goals as goal

pub start-requires-clause-told : goal.start-requires-clause-told
start-requires-clause-told g c =
    let o = objects_of g.S.Spill.seen c.args.lanes.now c.args.spool.now in
    subst (λ l. AreReadable o l (named_runs c.args.runs.now)) (sym (ap length (c.as_slice-names.ensures.value ∙ c.in_ok-names.ensures {u = tt}) ∙ names-count c.args.profile.now)) c.requires.told

pub put_tiles-requires-clause-names : goal.put_tiles-requires-clause-names
put_tiles-requires-clause-names g c = short-names c.args.profile.now c.as_slice-names.result.now (c.as_slice-names.ensures.value ∙ c.in_ok-names.ensures {u = tt}) c.requires.sound

pub put_tiles-requires-clause-told : goal.put_tiles-requires-clause-told
put_tiles-requires-clause-told g c =
    let started = c.in-Ok.ensures.answer in
    subst (λ l. AreTold (objects_of g.S.Spill.seen c.start.new.lanes c.start.new.spool) l c.in-Ok.merge.readers) (sym started.layers_are) started.told_are

pub returns-in-Ok-put_tiles : goal.returns-in-Ok-put_tiles
returns-in-Ok-put_tiles g c =
    let seen = g.S.Spill.seen in
    let writer = c.in_ok-writer.ensures {u = tt} in
    let started = c.in-Ok.ensures.answer in
    map-tiles c.args.part (objects_of seen c.args.lanes.now c.args.spool.now) (objects_of seen c.start.new.lanes c.start.new.spool) (objects_of seen c.put_tiles.new.lanes c.put_tiles.new.spool) c.in-Ok.ensures.keeps started.counts
    c.args.profile.now c.args.meta c.as_slice-names.result.now c.args.runs.now (length c.as_slice-names.result.now) c.in-Ok.merge c.in_ok-writer.writer c.put_tiles.new.writer (c.as_slice-names.ensures.value ∙ c.in_ok-names.ensures {u = tt}) started
    (c.in-Ok-put_tiles.ensures {u = tt}) writer.meta writer.none

pub returns : goal.returns
returns g c =
    let seen = g.S.Spill.seen in
    let started = c.in-Ok.ensures.answer in
    map-stopped c.args.part (objects_of seen c.args.lanes.now c.args.spool.now) (objects_of seen c.start.new.lanes c.start.new.spool) (objects_of seen c.put_tiles.new.lanes c.put_tiles.new.spool) c.in-Ok.ensures.keeps started.counts
    c.args.profile.now c.args.meta c.as_slice-names.result.now c.args.runs.now (length c.as_slice-names.result.now) c.in-Ok.merge c.in_ok-writer.writer c.put_tiles.new.writer (c.as_slice-names.ensures.value ∙ c.in_ok-names.ensures {u = tt}) started
    c.in-Err-put_tiles.e (c.in-Err-put_tiles.ensures {u = tt})

pub put_tiles-requires-clause-differ : goal.put_tiles-requires-clause-differ
put_tiles-requires-clause-differ g c = subst AreNames (sym (c.as_slice-names.ensures.value ∙ c.in_ok-names.ensures {u = tt})) c.requires.sound.differ
