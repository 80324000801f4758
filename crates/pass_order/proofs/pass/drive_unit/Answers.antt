-- What the steps of one unit did, up to their end or to one that failed.
use Rattle.pass_order.proofs.InFile.{load-failed, put-failed, emitted-last}
use Rattle.pass_order.proofs.pass.drive_unit.Goals as goal

pub put-requires-clause-loaded : goal.put-requires-clause-loaded
put-requires-clause-loaded g c = (c.args.steps.now, c.load.new.self, c.in-Ok.ensures.loads)

pub emit-requires-clause-loaded : goal.emit-requires-clause-loaded
emit-requires-clause-loaded g c = (c.args.steps.now, c.load.new.self, c.in-Ok.ensures.loads)

pub returns-in-Err-clause-does : goal.returns-in-Err-clause-does
returns-in-Err-clause-does g c = load-failed g.S.Steps.meaning c.args.unit c.in-Err.fault c.args.steps.now c.load.new.self c.in-Err.ensures.loads

pub returns-in-Err-put-clause-does : goal.returns-in-Err-put-clause-does
returns-in-Err-put-clause-does g c = put-failed g.S.Steps.meaning c.args.unit c.in-Err-put.fault c.args.steps.now c.put.new.self c.in-Ok.body c.load.new.self c.in-Ok.ensures.loads c.in-Err-put.ensures.puts

pub returns-clause-does : goal.returns-clause-does
returns-clause-does g c = emitted-last g.S.Steps.meaning c.args.unit c.in-Ok.body c.args.steps.now c.load.new.self c.put.new.self c.emit.new.self c.emit.result c.in-Ok.ensures.loads c.in-Ok-put.ensures.puts c.emit.ensures.emits
