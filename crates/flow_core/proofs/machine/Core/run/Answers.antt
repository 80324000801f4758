-- All events went by, and each that was possible is one less of what is left.
use Rattle.std.proofs.Common.{sym, subst, ap, ◌∙◌, arith}
use Rattle.flow_core.specs.State.{CoreState, left_of}
use Rattle.flow_core.specs.Kept.{IsKept}
use Rattle.flow_core.specs.Runs.{IsSameMachine}
use Rattle.flow_core.proofs.RunLemmas.{ran, run_end, same_run, progresses}
use Rattle.flow_core.proofs.machine.Core.run.Goals as goal

pub overflow_sub-result : goal.overflow_sub-result
overflow_sub-result c =
    let total = ran c.args.events.now c.args.self.now c.loop-event.self c.loop-event.event-index (subst (λ (s : CoreState). IsKept s) c.self.view_is c.self.invariant.0.0) c.loop-event-test.false c.loop-event.invariant in
    let before = c.self.invariant.1 ∙ ap left_of c.self.view_is in
    let now = c.self-2.invariant.1 ∙ ap left_of c.self-2.view_is in omega arith

pub returns-clause-count : goal.returns-clause-count
returns-clause-count c =
    let total = ran c.args.events.now c.args.self.now c.loop-event.self c.loop-event.event-index (subst (λ (s : CoreState). IsKept s) c.self.view_is c.self.invariant.0.0) c.loop-event-test.false c.loop-event.invariant in
    let before = c.self.invariant.1 ∙ ap left_of c.self.view_is in
    let now = c.self-2.invariant.1 ∙ ap left_of c.self-2.view_is in omega arith

pub returns-clause-left : goal.returns-clause-left
returns-clause-left c =
    let total = ran c.args.events.now c.args.self.now c.loop-event.self c.loop-event.event-index (subst (λ (s : CoreState). IsKept s) c.self.view_is c.self.invariant.0.0) c.loop-event-test.false c.loop-event.invariant in
    let before = c.self.invariant.1 ∙ ap left_of c.self.view_is in
    let now = c.self-2.invariant.1 ∙ ap left_of c.self-2.view_is in omega arith

pub returns-clause-progress : goal.returns-clause-progress
returns-clause-progress c =
    progresses c.loop-event.self (subst (λ (s : CoreState). IsKept s) c.self-2.view_is c.self-2.invariant.0.0)

pub returns-clause-machine : goal.returns-clause-machine
returns-clause-machine c =
    subst (λ (s : CoreState). IsSameMachine c.args.self.now s) (sym (run_end c.args.events.now c.args.self.now c.loop-event.self c.loop-event.event-index c.loop-event-test.false c.loop-event.invariant)) (same_run c.args.events.now c.args.self.now)
