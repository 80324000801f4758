-- An event that is possible is one less of what is left, and keeps what is kept.
use Rattle.std.proofs.Common.{sym, ap, ◌∙◌, arith}
use Rattle.flow_core.specs.State.{left_of}
use Rattle.flow_core.specs.Events.{unit_of}
use Rattle.flow_core.proofs.PlaceLemmas.{has_place, acted}
use Rattle.flow_core.proofs.machine.Core.step.Goals as goal

pub act-requires-clause-place : goal.act-requires-clause-place
act-requires-clause-place c = has_place c.args.event c.self.inside.flow c.in-Some.unit c.self.invariant.0 (ap (unit_of c.args.event) c.self.view_is ∙ sym c.in-Some.ensures.value)

pub overflow_sub-self : goal.overflow_sub-self
overflow_sub-self c =
    let now = acted c.args.event c.self.inside.flow c.act.new.self c.in-Some.unit c.self.invariant.0 (ap (unit_of c.args.event) c.self.view_is ∙ sym c.in-Some.ensures.value) c.act.ensures.state c.act.ensures.room in
    let less = now.1 in let left = c.self.invariant.1 in omega arith

pub invariant_of-self : goal.invariant_of-self
invariant_of-self c =
    let now = acted c.args.event c.self.inside.flow c.act.new.self c.in-Some.unit c.self.invariant.0 (ap (unit_of c.args.event) c.self.view_is ∙ sym c.in-Some.ensures.value) c.act.ensures.state c.act.ensures.room in
    let less = now.1 in let left = c.self.invariant.1 in (now.0, omega arith)

pub returns-clause-lowers : goal.returns-clause-lowers
returns-clause-lowers c =
    (acted c.args.event c.self.inside.flow c.act.new.self c.in-Some.unit c.self.invariant.0 (ap (unit_of c.args.event) c.self.view_is ∙ sym c.in-Some.ensures.value) c.act.ensures.state c.act.ensures.room).1 ∙ ap left_of c.self.view_is

pub returns-clause-kept : goal.returns-clause-kept
returns-clause-kept c =
    (acted c.args.event c.self.inside.flow c.act.new.self c.in-Some.unit c.self.invariant.0 (ap (unit_of c.args.event) c.self.view_is ∙ sym c.in-Some.ensures.value) c.act.ensures.state c.act.ensures.room).0.0
