use Rattle.std.proofs.Common.{◌∙◌, ◌+◌, ◌++◌, ◌∷◌, [], ap, sym, subst, refl, length-append}
use Rattle.std.proofs.lemmas.List.{append_assoc}
use Rattle.work_topology.specs.Parts.{DealsRest}
use Rattle.work_topology.proofs.Dealing.{dealt_more}
use Rattle.work_topology.proofs.deal.deal_rest.Goals as goal

pub loop-report-preserved : goal.loop-report-preserved
loop-report-preserved g c =
    let i = c.loop-report.invariant in
    let step = (c.in-Some.ensures {u = tt}).steps.0 in (
      i.0 ∙ ap (λ l. c.loop-report.yielded ++ l) step ∙ sym (append_assoc c.loop-report.yielded (c.in-Some.report ∷ []) c.next.new.self.rest.items),
      subst (λ ps. DealsRest c.args.desk.now c.args.queue.now (c.loop-report.yielded ++ c.in-Some.report ∷ []) c.split.new.seat c.split-in-loop-report.new.pass ps) (sym c.push_reserved.ensures.items)
          (
          dealt_more c.args.desk.now c.args.queue.now c.loop-report.yielded c.loop-report.seat c.split.new.seat c.loop-report.pass c.split-in-loop-report.new.pass c.loop-report.posts.items c.in-Some.report _ i.1 c.split.ensures.seat c.split-in-loop-report.ensures.pass c.split.ensures.result c.split-in-loop-report.ensures.result refl
          ),
      c.push_reserved.ensures.len ∙ ap (λ m. m + 1) i.2 ∙ sym (length-append c.loop-report.yielded (c.in-Some.report ∷ [])),
      c.push_reserved.ensures.capacity ∙ i.3,
    )
