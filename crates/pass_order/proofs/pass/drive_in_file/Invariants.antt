use Rattle.pass_order.proofs.InFile.{Doing}
use Rattle.pass_order.proofs.pass.drive_in_file.Given as goal

abbrev pub invariant-loop-unit : goal.invariant-loop-unit
invariant-loop-unit g l = Doing g.S.Steps.meaning l.units l.unit l.fn.steps l.steps
