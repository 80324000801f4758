use Rattle.tb_types.specs.declared.trouble.Whom.TheVariants as whoms
use Rattle.run_merge.specs.declared.merge_err.MergeErr.TheVariants as merge_errors
use Rattle.run_merge.specs.Objects.{objects_of, NoneRose}
use Rattle.run_merge.specs.Cursors.{cursors_of, runs_of}
use Rattle.run_merge.proofs.ObjectSteps.{keeps_trans, none_spool, none_trans, there_still, told_still, stops_after}
use Rattle.run_merge.proofs.Middles.{begun_keeps, written_keeps, spool_failed, begun_spill, made_of}
use Rattle.run_merge.proofs.middle.write_middle.Goals as goal

pub append_all-requires-clause-there : goal.append_all-requires-clause-there
append_all-requires-clause-there g c =
    let seen = g.S.Spill.seen in
    let o = objects_of seen c.args.lanes.now c.args.spool.now in
    let o1 = objects_of seen c.args.lanes.now c.begin_run.new.self in
    there_still o o1 (begun_keeps o o1.spool c.begin_run.result c.begin_run.ensures) c.args.readers.now c.requires.there

pub append_all-requires-clause-told : goal.append_all-requires-clause-told
append_all-requires-clause-told g c =
    let seen = g.S.Spill.seen in
    let o = objects_of seen c.args.lanes.now c.args.spool.now in
    let o1 = objects_of seen c.args.lanes.now c.begin_run.new.self in
    told_still o o1 (begun_keeps o o1.spool c.begin_run.result c.begin_run.ensures) c.args.layers c.args.readers.now c.requires.told

pub append_all-requires-clause-begun : goal.append_all-requires-clause-begun
append_all-requires-clause-begun g c =
    let seen = g.S.Spill.seen in
    begun_spill (seen c.args.spool.now) (seen c.begin_run.new.self) c.in-Ok.ensures.begun

pub returns-in-Ok-end_run-clause-made : goal.returns-in-Ok-end_run-clause-made
returns-in-Ok-end_run-clause-made g c =
    let seen = g.S.Spill.seen in
    let o = objects_of seen c.args.lanes.now c.args.spool.now in
    let o1 = objects_of seen c.args.lanes.now c.begin_run.new.self in
    let o2 = objects_of seen c.append_all.new.lanes c.append_all.new.spool in
    let o3 = objects_of seen c.append_all.new.lanes c.end_run.new.self in
    let keeps = begun_keeps o o1.spool c.begin_run.result c.begin_run.ensures in
    made_of o o1 o2 o3 c.args.layers c.in-Ok.run' c.in-Ok-append_all.len c.args.readers.now keeps c.requires.told c.in-Ok.ensures.number c.in-Ok.ensures.begun c.in-Ok-append_all.ensures.appends c.in-Ok-end_run.ensures.ended

pub returns-in-Ok-end_run-clause-keeps : goal.returns-in-Ok-end_run-clause-keeps
returns-in-Ok-end_run-clause-keeps g c =
    let seen = g.S.Spill.seen in
    let o = objects_of seen c.args.lanes.now c.args.spool.now in
    let o2 = objects_of seen c.append_all.new.lanes c.append_all.new.spool in
    written_keeps o o2 (seen c.begin_run.new.self) (seen c.end_run.new.self) c.begin_run.result c.end_run.result c.begin_run.ensures c.append_all.ensures.keeps c.end_run.ensures

pub returns-in-Ok-end_run-clause-works : goal.returns-in-Ok-end_run-clause-works
returns-in-Ok-end_run-clause-works g c =
    let seen = g.S.Spill.seen in
    let o = objects_of seen c.args.lanes.now c.args.spool.now in
    let o1 = objects_of seen c.args.lanes.now c.begin_run.new.self in
    let o2 = objects_of seen c.append_all.new.lanes c.append_all.new.spool in
    let o3 = objects_of seen c.append_all.new.lanes c.end_run.new.self in
    none_trans o o2 o3 (none_trans o o1 o2 (none_spool o.readers o.spills o.spool o1.spool c.in-Ok.ensures.ok) c.in-Ok-append_all.ensures.works) (none_spool o2.readers o2.spills o2.spool o3.spool c.in-Ok-end_run.ensures.ok)

pub returns-in-Err-end_run-clause-keeps : goal.returns-in-Err-end_run-clause-keeps
returns-in-Err-end_run-clause-keeps g c =
    let seen = g.S.Spill.seen in
    let o = objects_of seen c.args.lanes.now c.args.spool.now in
    let o2 = objects_of seen c.append_all.new.lanes c.append_all.new.spool in
    written_keeps o o2 (seen c.begin_run.new.self) (seen c.end_run.new.self) c.begin_run.result c.end_run.result c.begin_run.ensures c.append_all.ensures.keeps c.end_run.ensures

pub returns-in-Err-end_run-clause-works : goal.returns-in-Err-end_run-clause-works
returns-in-Err-end_run-clause-works g c =
    let seen = g.S.Spill.seen in
    let o = objects_of seen c.args.lanes.now c.args.spool.now in
    let o1 = objects_of seen c.args.lanes.now c.begin_run.new.self in
    let o2 = objects_of seen c.append_all.new.lanes c.append_all.new.spool in
    let o3 = objects_of seen c.append_all.new.lanes c.end_run.new.self in
    let keeps = begun_keeps o o1.spool c.begin_run.result c.begin_run.ensures in
    let none : NoneRose o o2 = none_trans o o1 o2 (none_spool o.readers o.spills o.spool o1.spool c.in-Ok.ensures.ok) c.in-Ok-append_all.ensures.works in
    stops_after o o2 o3 (runs_of (cursors_of c.args.readers.now)) (merge_errors.Spill whoms.Spool) none (keeps_trans o o1 o2 keeps c.append_all.ensures.keeps) (spool_failed o2.readers o2.spills o2.spool o3.spool (runs_of (cursors_of c.args.readers.now)) c.in-Err-end_run.ensures.err c.end_run.ensures.never_falls)
