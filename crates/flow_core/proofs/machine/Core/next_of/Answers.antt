-- What is found is possible, and where nothing is found nothing is.
use Rattle.std.proofs.Common.{◌∙◌, ap}
use Rattle.std.specs.List.{find}
use Rattle.flow_core.specs.Events.{is_possible}
use Rattle.flow_core.proofs.NextLemmas.{may_if, nothing_if}
use Rattle.flow_core.proofs.machine.Core.next_of.Goals as goal

pub returns-clause-may : goal.returns-clause-may
returns-clause-may c = may_if c.args.lane c.args.self.now c.first_of.result (c.first_of.ensures ∙ ap (find (is_possible c.args.self.now)) c.in_order.ensures)

pub returns-clause-none : goal.returns-clause-none
returns-clause-none c = nothing_if c.args.lane c.args.self.now c.first_of.result (c.first_of.ensures ∙ ap (find (is_possible c.args.self.now)) c.in_order.ensures)
