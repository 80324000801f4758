use Rattle.std.proofs.Common.{◌≡◌, ℕ, ◌+◌, List, [], Ok, refl, sym, subst, rules}
use Rattle.tb_outside.specs.Spill.{AppendAnswers}
use Rattle.run_merge.specs.declared.named_run.NamedRun.{NamedRun}
use Rattle.run_merge.specs.Objects.{objects_of}
use Rattle.run_merge.specs.Cursors.{cursors_of, runs_of}
use Rattle.run_merge.specs.Steps.{StopsIn}
use Rattle.run_merge.specs.Winners.{AreWinners}
use Rattle.run_merge.proofs.Ends.{there_same}
use Rattle.run_merge.proofs.Gathering.{next_sound, fewer_bytes}
use Rattle.run_merge.proofs.ObjectSteps.{keeps_trans, keeps_spool, there_still, stops_after}
use Rattle.run_merge.proofs.Middles.{append_keeps, Writing, writing_begun, writing_keeps, writing_none, writing_more, writing_ends}
use Rattle.run_merge.proofs.middle.append_all.Goals as goal

pub loop-number-init : goal.loop-number-init
loop-number-init g c =
    let seen = g.S.Spill.seen in
    let o = objects_of seen c.args.lanes.now c.args.spool.now in
    let readers = c.args.readers.now in
    let none : c.new-block.result.items ≡ [] = search rules in
    record {
      writing = subst (λ (l : List ℕ). Writing o o c.args.layers readers readers l 0) (sym none) (writing_begun o c.args.layers readers c.requires.sound c.requires.told c.requires.begun);
      winners = subst (AreWinners (cursors_of readers)) (sym c.as_mut_slice-winners.ensures.value) c.in-Ok.ensures;
    }

pub put_next-requires-clause-there : goal.put_next-requires-clause-there
put_next-requires-clause-there g c =
    let seen = g.S.Spill.seen in
    let o = objects_of seen c.args.lanes.now c.args.spool.now in
    let now = objects_of seen c.loop-number.lanes c.loop-number.spool in
    let inv = c.loop-number.invariant.writing in
    let keeps = writing_keeps o now c.args.layers c.args.readers.now c.loop-number.readers c.loop-number.block.items c.loop-number.appended inv in
    there_still o now keeps c.loop-number.readers (there_same o c.args.readers.now c.loop-number.readers inv.runs c.requires.there)

pub loop-number-smaller : goal.loop-number-smaller
loop-number-smaller g c =
    let inv = c.loop-number.invariant.writing in
    fewer_bytes (cursors_of c.loop-number.readers) (cursors_of c.put_next.new.readers) c.in-Some.number c.in-Some.head c.in-Some.ensures (next_sound c.loop-number.readers inv.sound) c.in-Ok-put_next.ensures.puts.bytes

pub loop-number-preserved : goal.loop-number-preserved
loop-number-preserved g c =
    let seen = g.S.Spill.seen in
    let o = objects_of seen c.args.lanes.now c.args.spool.now in
    let now = objects_of seen c.loop-number.lanes c.loop-number.spool in
    let next = objects_of seen c.put_next.new.lanes c.put_next.new.spool in
    let inv = c.loop-number.invariant.writing in
    let more = writing_more o now c.args.layers c.args.readers.now c.loop-number.readers c.loop-number.block.items c.loop-number.appended inv next c.in-Some.number c.in-Some.head c.put_next.new.readers c.put_next.new.block.items c.in-Some.ensures c.in-Ok-put_next.ensures.puts c.put_next.ensures.sound in
    let sum : c.in-Some-checked_add.sum ≡ c.loop-number.appended + c.in-Some.head.len = search rules in
    record {
      writing = subst (λ (n : ℕ). Writing o next c.args.layers c.args.readers.now c.put_next.new.readers c.put_next.new.block.items n) (sym sum) more;
      winners = c.in-Ok-put_next.ensures.winners;
    }

pub returns-in-None-clause-keeps : goal.returns-in-None-clause-keeps
returns-in-None-clause-keeps g c =
    let seen = g.S.Spill.seen in
    let o = objects_of seen c.args.lanes.now c.args.spool.now in
    let now = objects_of seen c.loop-number.lanes c.loop-number.spool in
    writing_keeps o now c.args.layers c.args.readers.now c.loop-number.readers c.loop-number.block.items c.loop-number.appended c.loop-number.invariant.writing

pub returns-in-Err-put_next-clause-keeps : goal.returns-in-Err-put_next-clause-keeps
returns-in-Err-put_next-clause-keeps g c =
    let seen = g.S.Spill.seen in
    let o = objects_of seen c.args.lanes.now c.args.spool.now in
    let now = objects_of seen c.loop-number.lanes c.loop-number.spool in
    let next = objects_of seen c.put_next.new.lanes c.put_next.new.spool in
    keeps_trans o now next (writing_keeps o now c.args.layers c.args.readers.now c.loop-number.readers c.loop-number.block.items c.loop-number.appended c.loop-number.invariant.writing) c.put_next.ensures.keeps

pub returns-in-Err-put_next-clause-works : goal.returns-in-Err-put_next-clause-works
returns-in-Err-put_next-clause-works g c =
    let seen = g.S.Spill.seen in
    let o = objects_of seen c.args.lanes.now c.args.spool.now in
    let now = objects_of seen c.loop-number.lanes c.loop-number.spool in
    let next = objects_of seen c.put_next.new.lanes c.put_next.new.spool in
    let inv = c.loop-number.invariant.writing in
    let before = c.args.readers.now in
    let readers = c.loop-number.readers in
    let e = c.in-Err-put_next.e in
    let none = writing_none o now c.args.layers before readers c.loop-number.block.items c.loop-number.appended inv in
    let keeps = writing_keeps o now c.args.layers before readers c.loop-number.block.items c.loop-number.appended inv in
    stops_after o now next (runs_of (cursors_of before)) e none keeps (subst (λ (runs : List NamedRun). StopsIn now next runs e) inv.runs c.in-Err-put_next.ensures.works)

pub returns-in-Ok-append-clause-appends : goal.returns-in-Ok-append-clause-appends
returns-in-Ok-append-clause-appends g c =
    let seen = g.S.Spill.seen in
    let o = objects_of seen c.args.lanes.now c.args.spool.now in
    let now = objects_of seen c.loop-number.lanes c.loop-number.spool in
    let new = objects_of seen c.loop-number.lanes c.append.new.self in
    let block = c.loop-number.block.items in
    let a = subst (λ (l : List ℕ). AppendAnswers now.spool new.spool l (Ok tt)) c.as_slice.ensures.value (c.in-Ok-append.ensures {u = tt}) in
    writing_ends o now c.args.layers c.args.readers.now c.loop-number.readers block c.loop-number.appended c.loop-number.invariant.writing new c.in_default.ensures refl refl a

pub returns-in-Ok-append-clause-keeps : goal.returns-in-Ok-append-clause-keeps
returns-in-Ok-append-clause-keeps g c =
    let seen = g.S.Spill.seen in
    let o = objects_of seen c.args.lanes.now c.args.spool.now in
    let now = objects_of seen c.loop-number.lanes c.loop-number.spool in
    let new = objects_of seen c.loop-number.lanes c.append.new.self in
    keeps_trans o now new (writing_keeps o now c.args.layers c.args.readers.now c.loop-number.readers c.loop-number.block.items c.loop-number.appended c.loop-number.invariant.writing) (keeps_spool now.readers now.spills now.spool new.spool (append_keeps now.spool new.spool c.as_slice.result.now c.append.result c.append.ensures))

pub returns-in-Err-Failed-clause-keeps : goal.returns-in-Err-Failed-clause-keeps
returns-in-Err-Failed-clause-keeps g c =
    let seen = g.S.Spill.seen in
    let o = objects_of seen c.args.lanes.now c.args.spool.now in
    let now = objects_of seen c.loop-number.lanes c.loop-number.spool in
    let new = objects_of seen c.loop-number.lanes c.append.new.self in
    keeps_trans o now new (writing_keeps o now c.args.layers c.args.readers.now c.loop-number.readers c.loop-number.block.items c.loop-number.appended c.loop-number.invariant.writing) (keeps_spool now.readers now.spills now.spool new.spool (append_keeps now.spool new.spool c.as_slice.result.now c.append.result c.append.ensures))

pub returns-clause-keeps : goal.returns-clause-keeps
returns-clause-keeps g c =
    let seen = g.S.Spill.seen in
    let o = objects_of seen c.args.lanes.now c.args.spool.now in
    let now = objects_of seen c.loop-number.lanes c.loop-number.spool in
    let new = objects_of seen c.loop-number.lanes c.append.new.self in
    keeps_trans o now new (writing_keeps o now c.args.layers c.args.readers.now c.loop-number.readers c.loop-number.block.items c.loop-number.appended c.loop-number.invariant.writing) (keeps_spool now.readers now.spills now.spool new.spool (append_keeps now.spool new.spool c.as_slice.result.now c.append.result c.append.ensures))
