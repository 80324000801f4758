use Rattle.run_merge.specs.Winners.{PutsNumbers}
use Rattle.run_merge.proofs.tournament.put_numbers.Given as goal

abbrev pub invariant-loop-number : goal.invariant-loop-number
invariant-loop-number l = PutsNumbers l.number l.fn.numbers.items l.numbers.items
