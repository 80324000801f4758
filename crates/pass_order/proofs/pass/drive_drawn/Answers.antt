-- What was planned is a whole pass.
use Rattle.std.proofs.Common.{subst, sym, ◌∙◌, length, List}
use Rattle.pass_order.specs.declared.step.Step.{Step}
use Rattle.pass_order.specs.declared.order.Order.TheVariants as orders
use Rattle.pass_order.specs.Whole.{IsWhole}
use Rattle.pass_order.proofs.WholePasses.{order-whole}
use Rattle.pass_order.proofs.pass.drive_drawn.Goals as goal

pub walk-requires-clause-whole : goal.walk-requires-clause-whole
walk-requires-clause-whole g c =
    subst (λ (xs : List Step). IsWhole (length c.args.needs.now) xs) (sym (c.deref.ensures.value ∙ c.in-Ok.ensures.steps)) (order-whole (orders.Drawn c.args.drawn.now) c.args.needs.now c.requires.may)
