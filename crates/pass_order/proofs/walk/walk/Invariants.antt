use Rattle.std.proofs.Common.{take}
use Rattle.pass_order.proofs.Walking.{Walking}
use Rattle.pass_order.proofs.walk.walk.Given as goal

abbrev pub invariant-loop-step : goal.invariant-loop-step
invariant-loop-step g l = Walking g.S.Steps.meaning l.units (take l.step-index l.planned) l.places l.fn.steps l.steps
