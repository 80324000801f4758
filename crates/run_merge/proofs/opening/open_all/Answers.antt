use Rattle.std.proofs.Common.{◌≡◌, ◌+◌, ◌<◌, List, [], ◌∷◌, ◌++◌, length, take, get_or, sym, subst, ◌∙◌, arith, rules}
use Rattle.std.proofs.lemmas.List.{take_more}
use Rattle.run_merge.specs.declared.named_run.NamedRun.{NamedRun}
use Rattle.run_merge.specs.declared.run_reader.RunReader.{RunReader}
use Rattle.run_merge.specs.Objects.{Objects, objects_of}
use Rattle.run_merge.specs.Cursors.{IsTold}
use Rattle.run_merge.specs.Steps.{FailsIn, Opens}
use Rattle.run_merge.proofs.ObjectSteps.{fails_wider}
use Rattle.run_merge.proofs.Openings.{no_run, named_of, opens_more}
use Rattle.run_merge.proofs.opening.open_all.Goals as goal

pub returns-in-Err-clause-reads : goal.returns-in-Err-clause-reads
returns-in-Err-clause-reads g c =
    let seen = g.S.Spill.seen in
    let now = objects_of seen c.loop-run.lanes c.loop-run.spool in
    let n = objects_of seen c.open.new.lanes c.open.new.spool in
    let runs = c.args.runs.now in
    let i = c.loop-run.run-index in
    let within : i < length runs = omega (arith, c.loop-run-test.true) in
    subst (λ (ob : Objects g.row.R.Denot). FailsIn ob n runs c.in-Err.e) c.loop-run.invariant.objects (fails_wider now n (get_or runs i no_run ∷ []) runs c.in-Err.e (named_of runs i no_run within) c.in-Err.ensures.reads)

pub loop-run-preserved : goal.loop-run-preserved
loop-run-preserved g c =
    let seen = g.S.Spill.seen in
    let o = objects_of seen c.args.lanes.now c.args.spool.now in
    let inv = c.loop-run.invariant in
    let runs = c.args.runs.now in
    let i = c.loop-run.run-index in
    let within : i < length runs = omega (arith, c.loop-run-test.true) in
    let items : c.push.new.self.items ≡ c.loop-run.readers.items ++ c.in-Ok.reader ∷ [] = search rules in
    let told = subst (λ (ob : Objects g.row.R.Denot). IsTold ob c.args.layers c.in-Ok.reader) inv.objects c.in-Ok.ensures.told in
    let more = opens_more o c.args.layers (take i runs) c.loop-run.readers.items (get_or runs i no_run) c.in-Ok.reader inv.opens c.in-Ok.ensures.run c.in-Ok.ensures.at c.in-Ok.ensures.sound told in
    record {
      objects = c.in-Ok.ensures.reads ∙ inv.objects;
      opens = subst (λ (rs : List RunReader). Opens o c.args.layers (take (i + 1) runs) rs) (sym items)
          (subst (λ (l : List NamedRun). Opens o c.args.layers l (c.loop-run.readers.items ++ c.in-Ok.reader ∷ [])) (sym (take_more runs i no_run within)) more);
    }
