use Rattle.std.proofs.Common.{ℕ, List, subst}
use Rattle.run_merge.specs.Winners.{PutsNumbers}
use Rattle.run_merge.proofs.Rounds.{put_twice}
use Rattle.run_merge.proofs.tournament.numbers_twice.Goals as goal

pub returns : goal.returns
returns c =
    let first = subst (λ (l : List ℕ). PutsNumbers c.args.count l c.put_numbers.new.numbers.items) c.new-numbers.ensures.items c.in_ok-put_numbers.ensures in
    put_twice c.args.count c.put_numbers.new.numbers.items c.put_numbers-2.new.numbers.items first c.in_ok-put_numbers-2.ensures
