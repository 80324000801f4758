-- The unit is one that there is.
use Rattle.std.proofs.Common.{subst, ap, ◌∙◌}
use Rattle.flow_core.specs.State.{CoreState}
use Rattle.flow_core.specs.Events.{lane_of, unit_at}
use Rattle.flow_core.specs.Kept.{IsKept}
use Rattle.flow_core.proofs.UnitLemmas.{known_if, read_is}
use Rattle.flow_core.proofs.machine.Core.unit_of.Goals as goal

pub returns-clause-within : goal.returns-clause-within
returns-clause-within c =
    let read = c.in_ok-lane.ensures.lookup in
    let lanes = c.deref.ensures.value ∙ ap (λ (s : CoreState). s.lanes) c.self.view_is in
    let at = read_is c.deref.result.now c.args.self.now.lanes c.lane.result (lane_of c.args.event) c.in_ok-lane.field-0.now lanes c.lane.ensures read.3.0 read.1 in
    known_if c.args.event c.args.self.now c.in_ok-lane.field-0.now c.unit_at.result (subst (λ (s : CoreState). IsKept s) c.self.view_is c.self.invariant.0.0) at (c.unit_at.ensures ∙ ap (λ (s : CoreState). unit_at c.args.event s c.in_ok-lane.field-0.now) c.self.view_is)
