use Rattle.std.specs.Prelude.{⊤}
use Rattle.std.proofs.Common.{◌≡◌, ℕ, List, [], ◌++◌, Ok, sym, ap, subst, ◌∙◌}
use Rattle.tb_outside.specs.Spill.{SpillSeen}
use Rattle.mvt_codec.specs.Items.{item_text}
use Rattle.feature_runs.specs.Appending.{PutsOff}
use Rattle.run_merge.specs.declared.named_run.NamedRun.{NamedRun}
use Rattle.run_merge.specs.Objects.{Objects, objects_of, Keeps}
use Rattle.run_merge.specs.Cursors.{AreThere, AreTold, cursors_of, runs_of}
use Rattle.run_merge.specs.Steps.{AdvancesAt, StopsIn}
use Rattle.run_merge.proofs.Ends.{there_same}
use Rattle.run_merge.proofs.ObjectSteps.{keeps_same, keeps_trans, keeps_spool, fails_keep, fails_stop, ended_same, ended_trans}
use Rattle.run_merge.proofs.Middles.{append_keeps, puts_off_none, puts_off_all, puts_next}
use Rattle.run_merge.proofs.middle.put_next.Goals as goal

pub advance_at-requires-clause-there : goal.advance_at-requires-clause-there
advance_at-requires-clause-there g c =
    let seen = g.S.Spill.seen in
    let o = objects_of seen c.args.lanes.now c.args.spool.now in
    subst (λ (ob : Objects g.row.R.Denot). AreThere ob c.load_at.new.readers) (sym c.in-Ok.ensures.reads)
    (there_same o c.args.readers.now c.load_at.new.readers (ap runs_of c.in-Ok.ensures.loads.cursors) c.requires.there)

pub advance_at-requires-clause-told : goal.advance_at-requires-clause-told
advance_at-requires-clause-told g c =
    subst (λ (ob : Objects g.row.R.Denot). AreTold ob c.args.layers c.load_at.new.readers) (sym c.in-Ok.ensures.reads) c.in-Ok.ensures.loads.told_are

pub returns-in-Err-advance_at-clause-keeps : goal.returns-in-Err-advance_at-clause-keeps
returns-in-Err-advance_at-clause-keeps g c =
    let seen = g.S.Spill.seen in
    let m = objects_of seen c.load_at.new.lanes c.load_at.new.spool in
    let n = objects_of seen c.advance_at.new.lanes c.advance_at.new.spool in
    subst (λ (ob : Objects g.row.R.Denot). Keeps ob n) c.in-Ok.ensures.reads (fails_keep m n (runs_of (cursors_of c.load_at.new.readers)) c.in-Err-advance_at.e c.in-Err-advance_at.ensures.reads)

pub returns-in-Err-advance_at-clause-works : goal.returns-in-Err-advance_at-clause-works
returns-in-Err-advance_at-clause-works g c =
    let seen = g.S.Spill.seen in
    let m = objects_of seen c.load_at.new.lanes c.load_at.new.spool in
    let n = objects_of seen c.advance_at.new.lanes c.advance_at.new.spool in
    let e = c.in-Err-advance_at.e in
    let stops = fails_stop m n (runs_of (cursors_of c.load_at.new.readers)) e c.in-Err-advance_at.ensures.reads in
    subst (λ (ob : Objects g.row.R.Denot). StopsIn ob n (runs_of (cursors_of c.args.readers.now)) e) c.in-Ok.ensures.reads
    (subst (λ (runs : List NamedRun). StopsIn m n runs e) (ap runs_of c.in-Ok.ensures.loads.cursors) stops)

pub returns-then-len-lt-BLOCK-clause-keeps : goal.returns-then-len-lt-BLOCK-clause-keeps
returns-then-len-lt-BLOCK-clause-keeps g c =
    let seen = g.S.Spill.seen in
    let o = objects_of seen c.args.lanes.now c.args.spool.now in
    let n = objects_of seen c.advance_at.new.lanes c.advance_at.new.spool in
    keeps_same o n (c.in-Ok-advance_at.ensures.reads ∙ c.in-Ok.ensures.reads)

pub returns-then-len-lt-BLOCK-clause-puts : goal.returns-then-len-lt-BLOCK-clause-puts
returns-then-len-lt-BLOCK-clause-puts g c =
    let seen = g.S.Spill.seen in
    let o = objects_of seen c.args.lanes.now c.args.spool.now in
    let n = objects_of seen c.advance_at.new.lanes c.advance_at.new.spool in
    let mid = c.load_at.new.readers in
    let after = c.advance_at.new.readers in
    let same : n ≡ o = c.in-Ok-advance_at.ensures.reads ∙ c.in-Ok.ensures.reads in
    let spool : n.spool ≡ o.spool = ap (λ (ob : Objects g.row.R.Denot). ob.spool) same in
    let advances = subst (λ (ob : Objects g.row.R.Denot). AdvancesAt ob c.args.layers c.args.number c.args.head mid after) c.in-Ok.ensures.reads c.in-Ok-advance_at.ensures.advances in
    puts_next o n c.args.layers c.args.number c.args.head c.args.readers.now mid after c.in-Ok.field-0 c.args.block.now.items c.load_at.new.out.items c.in-Ok.ensures.loads advances
    (ap (λ (ob : Objects g.row.R.Denot). ob.readers) same)
    (ap (λ (ob : Objects g.row.R.Denot). ob.spills) same)
    (ended_same o.spool.runs n.spool.runs (ap (λ (s : SpillSeen). s.runs) spool))
    (puts_off_none o.spool n.spool c.args.block.now.items c.load_at.new.out.items (item_text c.in-Ok.field-0) spool c.requires.begun c.in-Ok.ensures.text)

pub returns-in-Ok-append-clause-puts : goal.returns-in-Ok-append-clause-puts
returns-in-Ok-append-clause-puts g c =
    let seen = g.S.Spill.seen in
    let o = objects_of seen c.args.lanes.now c.args.spool.now in
    let m = objects_of seen c.advance_at.new.lanes c.advance_at.new.spool in
    let n = objects_of seen c.advance_at.new.lanes c.append.new.self in
    let mid = c.load_at.new.readers in
    let after = c.advance_at.new.readers in
    let same : m ≡ o = c.in-Ok-advance_at.ensures.reads ∙ c.in-Ok.ensures.reads in
    let spool : m.spool ≡ o.spool = ap (λ (ob : Objects g.row.R.Denot). ob.spool) same in
    let advances = subst (λ (ob : Objects g.row.R.Denot). AdvancesAt ob c.args.layers c.args.number c.args.head mid after) c.in-Ok.ensures.reads c.in-Ok-advance_at.ensures.advances in
    let block = c.args.block.now.items in
    let text = item_text c.in-Ok.field-0 in
    let piece : c.as_slice.result.now ≡ block ++ text = c.as_slice.ensures.value ∙ c.in-Ok.ensures.text in
    let puts : PutsOff {A = ⊤} o.spool n.spool block [] text (Ok tt) = puts_off_all o.spool m.spool n.spool block c.as_slice.result.now text spool c.requires.begun piece (c.in-Ok-append.ensures {u = tt}) in
    let none : c.clear.new.self.items ≡ [] = c.clear.ensures.items in
    let ended = ended_trans o.spool.runs m.spool.runs n.spool.runs (ended_same o.spool.runs m.spool.runs (ap (λ (s : SpillSeen). s.runs) spool)) (append_keeps m.spool n.spool c.as_slice.result.now c.append.result c.append.ensures) in
    puts_next o n c.args.layers c.args.number c.args.head c.args.readers.now mid after c.in-Ok.field-0 block c.clear.new.self.items c.in-Ok.ensures.loads advances
    (ap (λ (ob : Objects g.row.R.Denot). ob.readers) same)
    (ap (λ (ob : Objects g.row.R.Denot). ob.spills) same)
    ended
    (subst (λ (l : List ℕ). PutsOff {A = ⊤} o.spool n.spool block l text (Ok tt)) (sym none) puts)

pub returns-in-Ok-append-clause-keeps : goal.returns-in-Ok-append-clause-keeps
returns-in-Ok-append-clause-keeps g c =
    let seen = g.S.Spill.seen in
    let o = objects_of seen c.args.lanes.now c.args.spool.now in
    let m = objects_of seen c.advance_at.new.lanes c.advance_at.new.spool in
    let n = objects_of seen c.advance_at.new.lanes c.append.new.self in
    keeps_trans o m n (keeps_same o m (c.in-Ok-advance_at.ensures.reads ∙ c.in-Ok.ensures.reads)) (keeps_spool m.readers m.spills m.spool n.spool (append_keeps m.spool n.spool c.as_slice.result.now c.append.result c.append.ensures))

pub returns-in-Err-Failed-clause-keeps : goal.returns-in-Err-Failed-clause-keeps
returns-in-Err-Failed-clause-keeps g c =
    let seen = g.S.Spill.seen in
    let o = objects_of seen c.args.lanes.now c.args.spool.now in
    let m = objects_of seen c.advance_at.new.lanes c.advance_at.new.spool in
    let n = objects_of seen c.advance_at.new.lanes c.append.new.self in
    keeps_trans o m n (keeps_same o m (c.in-Ok-advance_at.ensures.reads ∙ c.in-Ok.ensures.reads)) (keeps_spool m.readers m.spills m.spool n.spool (append_keeps m.spool n.spool c.as_slice.result.now c.append.result c.append.ensures))

pub returns-in-Err-Memory-clause-keeps : goal.returns-in-Err-Memory-clause-keeps
returns-in-Err-Memory-clause-keeps g c =
    let seen = g.S.Spill.seen in
    let o = objects_of seen c.args.lanes.now c.args.spool.now in
    let m = objects_of seen c.advance_at.new.lanes c.advance_at.new.spool in
    let n = objects_of seen c.advance_at.new.lanes c.append.new.self in
    keeps_trans o m n (keeps_same o m (c.in-Ok-advance_at.ensures.reads ∙ c.in-Ok.ensures.reads)) (keeps_spool m.readers m.spills m.spool n.spool (append_keeps m.spool n.spool c.as_slice.result.now c.append.result c.append.ensures))
