use Rattle.std.proofs.Common.{◌≤◌, List, length, sym, subst, arith, rules}
use Rattle.std.proofs.lemmas.List.{length-map}
use Rattle.run_merge.specs.declared.named_run.NamedRun.{NamedRun}
use Rattle.run_merge.specs.Objects.{Objects, objects_of}
use Rattle.run_merge.specs.Steps.{RunsAreThere, AreReadable, StopsIn, FailsIn, HaveAll, Opens}
use Rattle.run_merge.specs.Answers.{Starts, named_runs}
use Rattle.run_merge.proofs.ObjectSteps.{keeps_refl, keeps_trans, none_refl, none_trans, fails_keep, fails_stop, stops_after, stops_wider}
use Rattle.run_merge.proofs.Openings.{named_there, have_same, have_then, starts}
use Rattle.run_merge.proofs.merge.Merge.start.Goals as goal

pub loop-waiting-init : goal.loop-waiting-init
loop-waiting-init g c =
    let seen = g.S.Spill.seen in
    let o = objects_of seen c.args.lanes.now c.args.spool.now in
    let listed = named_runs c.args.runs.now in
    let there : RunsAreThere o listed = named_there o 0 c.args.runs.now (omega (arith, c.requires.lists, length-map c.args.lanes.now (λ lane. seen lane.spill))) in
    record {
      keeps = keeps_refl o;
      counts = none_refl o;
      all = subst (λ (l : List NamedRun). HaveAll o o c.args.layers listed l) (sym c.in-Ok.ensures) (have_same o c.args.layers listed there c.requires.told);
    }

pub merge_some-requires-clause-there : goal.merge_some-requires-clause-there
merge_some-requires-clause-there g c =
    let seen = g.S.Spill.seen in
    let now = objects_of seen c.loop-waiting.lanes c.loop-waiting.spool in
    subst (RunsAreThere now) (sym c.deref.ensures.value) c.loop-waiting.invariant.all.there

pub merge_some-requires-clause-readable : goal.merge_some-requires-clause-readable
merge_some-requires-clause-readable g c =
    let seen = g.S.Spill.seen in
    let now = objects_of seen c.loop-waiting.lanes c.loop-waiting.spool in
    subst (AreReadable now c.args.layers) (sym c.deref.ensures.value) c.loop-waiting.invariant.all.readable

pub returns-in-Err-merge_some-clause-answer : goal.returns-in-Err-merge_some-clause-answer
returns-in-Err-merge_some-clause-answer g c =
    let seen = g.S.Spill.seen in
    let o = objects_of seen c.args.lanes.now c.args.spool.now in
    let now = objects_of seen c.loop-waiting.lanes c.loop-waiting.spool in
    let n = objects_of seen c.merge_some.new.lanes c.merge_some.new.spool in
    let inv = c.loop-waiting.invariant in
    let listed = named_runs c.args.runs.now in
    let e = c.in-Err-merge_some.e in
    let works = subst (λ (l : List NamedRun). StopsIn now n l e) c.deref.ensures.value c.in-Err-merge_some.ensures.works in
    stops_after o now n listed e inv.counts inv.keeps (stops_wider now n c.loop-waiting.waiting.items listed e inv.all.names works)

pub returns-in-Err-merge_some-clause-keeps : goal.returns-in-Err-merge_some-clause-keeps
returns-in-Err-merge_some-clause-keeps g c =
    let seen = g.S.Spill.seen in
    let o = objects_of seen c.args.lanes.now c.args.spool.now in
    let now = objects_of seen c.loop-waiting.lanes c.loop-waiting.spool in
    let n = objects_of seen c.merge_some.new.lanes c.merge_some.new.spool in
    keeps_trans o now n c.loop-waiting.invariant.keeps c.merge_some.ensures.keeps

pub loop-waiting-preserved : goal.loop-waiting-preserved
loop-waiting-preserved g c =
    let seen = g.S.Spill.seen in
    let o = objects_of seen c.args.lanes.now c.args.spool.now in
    let now = objects_of seen c.loop-waiting.lanes c.loop-waiting.spool in
    let n = objects_of seen c.merge_some.new.lanes c.merge_some.new.spool in
    let inv = c.loop-waiting.invariant in
    let listed = named_runs c.args.runs.now in
    let merged = c.in-Ok-merge_some.merged.items in
    let more = subst (λ (l : List NamedRun). HaveAll now n c.args.layers l merged) c.deref.ensures.value c.in-Ok-merge_some.ensures.all in
    record {
      keeps = keeps_trans o now n inv.keeps c.merge_some.ensures.keeps;
      counts = none_trans o now n inv.counts c.in-Ok-merge_some.ensures.works;
      all = have_then o now n c.args.layers inv.keeps c.merge_some.ensures.keeps listed c.loop-waiting.waiting.items merged inv.all more;
    }

pub open_all-requires-clause-there : goal.open_all-requires-clause-there
open_all-requires-clause-there g c =
    let seen = g.S.Spill.seen in
    let now = objects_of seen c.loop-waiting.lanes c.loop-waiting.spool in
    subst (RunsAreThere now) (sym c.deref-2.ensures.value) c.loop-waiting.invariant.all.there

pub open_all-requires-clause-readable : goal.open_all-requires-clause-readable
open_all-requires-clause-readable g c =
    let seen = g.S.Spill.seen in
    let now = objects_of seen c.loop-waiting.lanes c.loop-waiting.spool in
    subst (AreReadable now c.args.layers) (sym c.deref-2.ensures.value) c.loop-waiting.invariant.all.readable

pub returns-in-Ok-open_all-clause-answer : goal.returns-in-Ok-open_all-clause-answer
returns-in-Ok-open_all-clause-answer g c =
    let seen = g.S.Spill.seen in
    let o = objects_of seen c.args.lanes.now c.args.spool.now in
    let now = objects_of seen c.loop-waiting.lanes c.loop-waiting.spool in
    let inv = c.loop-waiting.invariant in
    let listed = named_runs c.args.runs.now in
    let waiting = c.loop-waiting.waiting.items in
    let readers = c.in-Ok-open_all.readers.items in
    let opens = subst (λ (l : List NamedRun). Opens now c.args.layers l readers) c.deref-2.ensures.value c.in-Ok-open_all.ensures.opens in
    let few : length waiting ≤ 64 = search rules in
    subst (λ (ob : Objects g.row.R.Denot). Starts o ob c.args.layers listed (record { layers = c.args.layers; readers = readers })) (sym c.in-Ok-open_all.ensures.reads)
    (starts o now c.args.layers listed waiting readers inv.counts inv.all opens few)

pub returns-clause-answer : goal.returns-clause-answer
returns-clause-answer g c =
    let seen = g.S.Spill.seen in
    let o = objects_of seen c.args.lanes.now c.args.spool.now in
    let now = objects_of seen c.loop-waiting.lanes c.loop-waiting.spool in
    let n = objects_of seen c.open_all.new.lanes c.open_all.new.spool in
    let inv = c.loop-waiting.invariant in
    let listed = named_runs c.args.runs.now in
    let waiting = c.loop-waiting.waiting.items in
    let e = c.in-Err-open_all.e in
    let fails = subst (λ (l : List NamedRun). FailsIn now n l e) c.deref-2.ensures.value c.in-Err-open_all.ensures.reads in
    stops_after o now n listed e inv.counts inv.keeps (stops_wider now n waiting listed e inv.all.names (fails_stop now n waiting e fails))

pub returns-clause-keeps : goal.returns-clause-keeps
returns-clause-keeps g c =
    let seen = g.S.Spill.seen in
    let o = objects_of seen c.args.lanes.now c.args.spool.now in
    let now = objects_of seen c.loop-waiting.lanes c.loop-waiting.spool in
    let n = objects_of seen c.open_all.new.lanes c.open_all.new.spool in
    keeps_trans o now n c.loop-waiting.invariant.keeps (fails_keep now n c.deref-2.result.now c.in-Err-open_all.e c.in-Err-open_all.ensures.reads)
