-- Nothing has happened yet, and there is room for all that may.
use Rattle.std.proofs.Common.{sym, subst, ap, ◌∙◌, arith}
use Rattle.flow_core.specs.State.{CoreState, left_of}
use Rattle.flow_core.specs.Kept.{IsKept}
use Rattle.flow_core.specs.Laws.{MayStart}
use Rattle.flow_core.proofs.RunLemmas.{kept_start, left_start}
use Rattle.flow_core.proofs.machine.Core.start.Goals as goal

pub returns-clause-kept : goal.returns-clause-kept
returns-clause-kept c =
    let r = c.requires in
    let may : MayStart c.args.needs.now c.args.lanes c.args.queue c.args.part =
    record { few_units = r.few_units; fit = r.fit; some_lane = r.some_lane; few_lanes = r.few_lanes; some_place = r.some_place; few_places = r.few_places } in
    subst (λ (s : CoreState). IsKept s) (sym c.in_ok-flow.ensures.state) (kept_start c.args.needs.now c.args.lanes c.args.queue c.args.part may)

pub invariant_of-result : goal.invariant_of-result
invariant_of-result c =
    let left = ap left_of c.in_ok-flow.ensures.state ∙ left_start c.args.needs.now c.args.lanes c.args.queue c.args.part in (
      (returns-clause-kept c, c.in_ok-flow.ensures.room),
      omega (arith, c.from.ensures),
    )
