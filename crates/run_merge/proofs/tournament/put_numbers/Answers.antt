use Rattle.std.proofs.Common.{◌≡◌, ◌++◌, ◌∷◌, [], rules}
use Rattle.run_merge.proofs.Rounds.{puts_none, puts_one}
use Rattle.run_merge.proofs.tournament.put_numbers.Goals as goal

pub loop-number-init : goal.loop-number-init
loop-number-init c = puts_none c.args.numbers.now.items

pub loop-number-preserved : goal.loop-number-preserved
loop-number-preserved c =
    let items : c.push.new.self.items ≡ c.loop-number.numbers.items ++ c.loop-number.number ∷ [] = search rules in
    puts_one c.loop-number.number c.args.numbers.now.items c.loop-number.numbers.items c.push.new.self.items c.loop-number.invariant items
