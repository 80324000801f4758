use Rattle.std.proofs.Common.{◌∙◌, ◌++◌, ◌∷◌, [], ap, sym}
use Rattle.std.proofs.lemmas.List.{append_assoc}
use Rattle.work_topology.proofs.lists.ends_of.Goals as goal

pub loop-report-preserved : goal.loop-report-preserved
loop-report-preserved g c =
    let i = c.loop-report.invariant in
    let step = (c.in-Some.ensures {u = tt}).steps.0 in (
      i.0 ∙ ap (λ l. c.loop-report.yielded ++ l) step ∙ sym (append_assoc c.loop-report.yielded (c.in-Some.report ∷ []) c.next.new.self.rest.items),
      c.in_ok-add.ensures {u = tt} c.loop-report.yielded i.1,
    )
