use Rattle.std.proofs.Common.{arith}
use Rattle.osm_elements.specs.DenseLists.{behind}
use Rattle.osm_elements.proofs.DenseGroups.{none, group_start, group_step, message_stops}
use Rattle.osm_elements.proofs.dense.Dense.read.Goals as goal

pub loop-message-init : goal.loop-message-init
loop-message-init c = record { within = omega arith; told = (none, group_start c.args.group.now, (c.clear.ensures, c.clear-2.ensures, c.clear-3.ensures, c.clear-4.ensures.items)) }

pub returns-in_err-put : goal.returns-in_err-put
returns-in_err-put c =
    message_stops c.args.group.now c.loop-message.invariant.told.0 c.loop-message.at c.loop-message.invariant.told.1 c.loop-message.self c.put.new.self c.put.new.self c.from_residual-in_err-put.result c.in_err-put.field-0.0 c.in-Some.behind c.in-Some.message.now (rw c.in-Some.is at c.in_ok-message.ensures.exact) c.from_residual-in_err-put.ensures.1 (c.in_err-put.ensures {u = tt})

pub loop-message-preserved : goal.loop-message-preserved
loop-message-preserved c =
    let given = c.in_ok-put.ensures {u = tt} in
    record {
      within = (rw c.in-Some.is at c.in_ok-message.ensures.within).1;
      told = (behind c.loop-message.invariant.told.0 given.0, group_step c.args.group.now c.loop-message.invariant.told.0 c.loop-message.at c.loop-message.invariant.told.1 c.in-Some.behind c.in-Some.message.now given.0 (rw c.in-Some.is at c.in_ok-message.ensures.exact) given.1, given.2 c.loop-message.invariant.told.0 c.loop-message.invariant.told.2);
    }
