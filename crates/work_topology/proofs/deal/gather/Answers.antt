use Rattle.std.proofs.Common.{rules, length, ◌≡◌, ◌∙◌, ◌++◌, ◌∷◌, [], ap, subst, refl}
use Rattle.std.proofs.lemmas.List.{nil_from_length}
use Rattle.claim_desk.specs.Facts.{IsSeatOf}
use Rattle.batch_queue.specs.Facts.{IsPassHere}
use Rattle.work_topology.specs.Parts.{AreTogether}
use Rattle.work_topology.proofs.Dealing.{first_and_rest, gathered_all, rest_here}
use Rattle.work_topology.proofs.deal.gather.Goals as goal

pub gather_rest-requires-clause-desk : goal.gather_rest-requires-clause-desk
gather_rest-requires-clause-desk g c =
    let are = first_and_rest c.args.posts.items c.remove-seat.new.self.items c.remove-seat.result c.requires.some c.remove-seat.ensures.value c.remove-seat.ensures.by_index.2 in
    let t = subst (λ l. AreTogether c.args.desk.now c.args.queue.now l) are c.requires.together in
    ((t.here 0 c.remove-seat.result refl).0, t.leads.seat.0)

pub gather_rest-requires-clause-queue : goal.gather_rest-requires-clause-queue
gather_rest-requires-clause-queue g c =
    let are = first_and_rest c.args.posts.items c.remove-seat.new.self.items c.remove-seat.result c.requires.some c.remove-seat.ensures.value c.remove-seat.ensures.by_index.2 in
    let t = subst (λ l. AreTogether c.args.desk.now c.args.queue.now l) are c.requires.together in
    ((t.here 0 c.remove-seat.result refl).1, t.leads.pass.0)

pub gather_rest-requires-clause-here : goal.gather_rest-requires-clause-here
gather_rest-requires-clause-here g c =
    let are = first_and_rest c.args.posts.items c.remove-seat.new.self.items c.remove-seat.result c.requires.some c.remove-seat.ensures.value c.remove-seat.ensures.by_index.2 in
    rest_here (λ post. IsSeatOf c.args.desk.now post.seat × IsPassHere c.args.queue.now post.queue) c.args.posts.items c.remove-seat.new.self.items c.remove-seat.result are c.requires.together.here

pub returns : goal.returns
returns g c =
    let are = first_and_rest c.args.posts.items c.remove-seat.new.self.items c.remove-seat.result c.requires.some c.remove-seat.ensures.value c.remove-seat.ensures.by_index.2 in
    let none : length c.args.reports.items ≡ 0 = search rules in
    let one : c.push_reserved.new.self.items ≡ c.remove-seat.result.report ∷ [] = c.push_reserved.ensures.items ∙ ap (λ l. l ++ c.remove-seat.result.report ∷ []) (nil_from_length c.args.reports.items none) in
    gathered_all c.args.desk.now c.args.queue.now c.args.posts.items c.remove-seat.new.self.items c.remove-seat.result c.gather_rest.new.seat c.gather_rest.new.pass c.push_reserved.new.self.items c.gather_rest.new.reports.items are c.requires.together one c.gather_rest.ensures
