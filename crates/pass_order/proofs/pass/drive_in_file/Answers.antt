-- One unit more was done, or it failed.
use Rattle.pass_order.proofs.InFile.{next, failed}
use Rattle.pass_order.proofs.pass.drive_in_file.Goals as goal

pub returns-in-Err : goal.returns-in-Err
returns-in-Err g c = failed g.S.Steps.meaning c.args.units c.loop-unit.unit c.in-Err.fault c.args.steps.now c.loop-unit.steps c.drive_unit.new.steps c.loop-unit-test.true c.loop-unit.invariant c.in-Err.ensures.does

pub loop-unit-preserved : goal.loop-unit-preserved
loop-unit-preserved g c = next g.S.Steps.meaning c.args.units c.loop-unit.unit c.args.steps.now c.loop-unit.steps c.drive_unit.new.steps c.loop-unit.invariant c.in-Ok.ensures.does c.in-Ok.ensures.stays
