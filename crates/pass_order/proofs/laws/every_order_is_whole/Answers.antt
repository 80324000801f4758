-- The law over both orders.
use Rattle.pass_order.proofs.WholePasses.{order-whole}
use Rattle.pass_order.proofs.laws.every_order_is_whole.Goals as goal

pub returns : goal.returns
returns c = order-whole
