-- The law over all that may be drawn.
use Rattle.pass_order.proofs.Turning.{has-end}
use Rattle.pass_order.proofs.laws.every_drawn_pass_ends.Goals as goal

pub returns : goal.returns
returns c = has-end
