use Rattle.std.proofs.Common.{◌<◌, ◌+◌, ◌*◌, ◌^◌, ap, ◌∙◌, pos, ◌-ℤ◌, arith}
use Rattle.gen_world.specs.Numbers.{draw, around}
use Rattle.gen_world.proofs.Draws.{stored_difference}
use Rattle.gen_world.proofs.numbers.Numbers.around.Goals as goal

pub returns-clause-drawn : goal.returns-clause-drawn
unfolding around
returns-clause-drawn c =
    let most : c.args.most < 2 ^ 31 = omega arith in
    let small : c.draw-n.result < 2 ^ 31 = omega arith in
    stored_difference c.draw-n.result c.args.most small most
    ∙ ap (λ n. pos n -ℤ pos c.args.most) (c.draw-n.ensures.drawn ∙ ap (λ m. draw c.args.self.now.seed (c.args.self.now.taken + 1) (2 * m + 1)) c.from.ensures)
