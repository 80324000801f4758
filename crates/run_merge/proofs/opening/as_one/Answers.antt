use Rattle.run_merge.specs.Objects.{objects_of}
use Rattle.run_merge.proofs.Openings.{no_run, one_made}
use Rattle.run_merge.proofs.opening.as_one.Goals as goal

pub returns-then-runs-eq1-clause-made : goal.returns-then-runs-eq1-clause-made
returns-then-runs-eq1-clause-made g c =
    let seen = g.S.Spill.seen in
    one_made (objects_of seen c.args.lanes.now c.args.spool.now) c.args.layers c.args.runs.now no_run c.if-runs-eq1.true c.requires.there c.requires.readable
