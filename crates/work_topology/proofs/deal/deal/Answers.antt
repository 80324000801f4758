use Rattle.std.proofs.Common.{sym, subst, refl}
use Rattle.work_topology.specs.Parts.{AreDealt}
use Rattle.work_topology.proofs.Dealing.{first_and_rest, dealt_all}
use Rattle.work_topology.proofs.deal.deal.Goals as goal

pub returns : goal.returns
returns g c =
    subst (λ l. AreDealt c.args.desk.now c.args.queue.now c.args.reports.items l) (sym c.in-Ok.ensures.items)
    (
    dealt_all c.args.desk.now c.args.queue.now c.args.reports.items c.remove-report.new.self.items c.remove-report.result c.deal_rest.new.seat c.deal_rest.new.pass c.deal_rest.new.posts.items _
    (first_and_rest c.args.reports.items c.remove-report.new.self.items c.remove-report.result c.requires.some c.remove-report.ensures.value c.remove-report.ensures.by_index.2)
    c.deal_rest.ensures.dealt
    refl
    refl
    refl
    )
