use Rattle.flow_core.specs.State.{start_state, left_of}
use Rattle.pass_order.proofs.Planning.{Planning}
use Rattle.pass_order.proofs.plan.plan.Given as goal

abbrev pub invariant-loop-numbers : goal.invariant-loop-numbers
invariant-loop-numbers l = Planning l.fn.drawn.last (start_state l.needs l.fn.drawn.lanes l.fn.drawn.queue l.fn.drawn.part) l.core l.planned.items l.numbers.seed l.numbers.taken

abbrev pub decreases-loop-numbers : goal.decreases-loop-numbers
decreases-loop-numbers l = left_of l.core
