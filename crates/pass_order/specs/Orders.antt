-- The steps of a pass by its order, and how the order goes on in the next pass.
use Rattle.std.specs.Prelude.{ℕ, ◌<◌, ◌^◌, List, length}
use Rattle.gen_world.specs.Numbers.{number}
use Rattle.flow_core.specs.declared.event.Event.{Event}
use Rattle.flow_core.specs.State.{CoreState, start_state}
use Rattle.flow_core.specs.Laws.{MayStart}
use Rattle.pass_order.specs.declared.step.Step.{Step}
use Rattle.pass_order.specs.declared.drawn.Drawn.{Drawn}
use Rattle.pass_order.specs.declared.order.Order.{Order}
use Rattle.pass_order.specs.declared.order.Order.TheVariants as orders
use Rattle.pass_order.specs.Turns.{drawn_events}
use Rattle.pass_order.specs.Whole.{steps_in_file, steps_along}

-- where drawn lanes begin with units of these needs, and their events up to the end
abbrev pub lanes_start : Drawn → List ℕ → CoreState
lanes_start d needs = start_state needs d.lanes d.queue d.part

abbrev pub pass_events : Drawn → List ℕ → List Event
pass_events d needs = drawn_events d.last (lanes_start d needs)

-- the steps of a pass over units of these needs
abbrev pub pass_steps : Order → List ℕ → List Step
pass_steps orders.InFile needs = steps_in_file (length needs)
pass_steps (orders.Drawn d) needs = steps_along (pass_events d needs) (lanes_start d needs)

-- The sequence goes on where the pass has ended: one number was taken for each event.
abbrev pub next_drawn : Drawn → List ℕ → Drawn
next_drawn d needs = record d { last = number d.last (length (pass_events d needs)) }

abbrev pub next_order : Order → List ℕ → Order
next_order orders.InFile needs = orders.InFile
next_order (orders.Drawn d) needs = orders.Drawn (next_drawn d needs)

-- what a pass over units of these needs asks
abbrev pub MayPass : Order → List ℕ → Type 0
MayPass orders.InFile needs = length needs < 2 ^ 32
MayPass (orders.Drawn d) needs = MayStart needs d.lanes d.queue d.part
