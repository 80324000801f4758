use Rattle.std.proofs.Common.{◌≡◌, ◌++◌, [], map, take, get_or}
use Rattle.run_merge.specs.Answers.{named, named_from}
use Rattle.run_merge.specs.declared.named_run.Store.TheVariants as stores
use Rattle.run_merge.proofs.opening.named_runs.Given as goal

abbrev pub invariant-loop-number : goal.invariant-loop-number
invariant-loop-number l = l.all.items ≡ named_from 0 (take l.number l.lists)

abbrev pub invariant-loop-run : goal.invariant-loop-run
invariant-loop-run l = l.all.items ≡ named_from 0 (take l.number l.lists) ++ map (named (stores.Lane l.lane)) (take l.run-index (get_or l.lists l.number []))
