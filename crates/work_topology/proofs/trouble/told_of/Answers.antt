use Rattle.std.proofs.Common.{◌≡◌, ◌∙◌, ◌+◌, ◌++◌, ◌∷◌, [], ap, sym, subst, take}
use Rattle.std.proofs.lemmas.List.{take_more}
use Rattle.work_topology.specs.Told.{IsTold}
use Rattle.work_topology.proofs.Order.{told_more}
use Rattle.work_topology.proofs.trouble.told_of.Goals as goal

pub loop-report-preserved : goal.loop-report-preserved
loop-report-preserved g c =
    let reports = c.args.reports.now in
    let k = c.loop-report.report-index in
    let one = c.report-item.result in
    let more : take (k + 1) reports ≡ take k reports ++ one ∷ [] = take_more reports k one c.loop-report-test.true ∙ ap (λ r. take k reports ++ r ∷ []) (sym c.report-item.is) in
    subst (λ (t : _ × _). IsTold t.0 t.1) (λ i. (sym more i, sym c.first_told-told.ensures i)) (told_more (take k reports) one c.loop-report.told c.loop-report.invariant)
