use Rattle.std.proofs.Common.{add-one, ap, ◌∙◌}
use Rattle.gen_world.specs.Numbers.{number, next_number}
use Rattle.gen_world.proofs.numbers.Numbers.draw.Goals as goal

pub invariant_of-numbers : goal.invariant_of-numbers
unfolding number
invariant_of-numbers c = rw add-one (record { stands = c.behind.ensures ∙ ap next_number c.args.self.now.stands })
