use Rattle.std.proofs.Common.{◌≡◌, length, sym, rules, arith}
use Rattle.feature_runs.specs.Entry.{bytes_of}
use Rattle.feature_runs.specs.Index.{entries_in}
use Rattle.feature_runs.proofs.Limit.{run_bytes}
use Rattle.feature_runs.proofs.run_writer.write_run.Goals as goal

pub returns-in-Ok-end_run-clause-written : goal.returns-in-Ok-end_run-clause-written
returns-in-Ok-end_run-clause-written g c =
    let all : length (bytes_of (entries_in c.args.arena.now c.args.index.now)) ≡ length c.args.arena.now = run_bytes c.args.arena.now c.args.index.now c.requires.within c.requires.all in
    record { runs = search rules; number = search rules; len = sym all }
