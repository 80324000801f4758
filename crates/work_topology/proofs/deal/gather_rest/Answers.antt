use Rattle.std.proofs.Common.{rules, ◌≡◌, ◌∙◌, ◌++◌, ◌∷◌, [], ap, sym, subst, length, length-append, arith}
use Rattle.std.proofs.lemmas.List.{append_assoc}
use Rattle.std.proofs.lemmas.List.{append-nil, nil_from_length}
use Rattle.claim_desk.specs.Facts.{IsSeatOf}
use Rattle.batch_queue.specs.Facts.{IsPassHere}
use Rattle.work_topology.specs.Parts.{GathersRest}
use Rattle.work_topology.proofs.Pairs.{in_middle}
use Rattle.work_topology.proofs.Dealing.{gathered_more}
use Rattle.work_topology.proofs.deal.gather_rest.Goals as goal

pub loop-post-preserved : goal.loop-post-preserved
loop-post-preserved g c =
    let i = c.loop-post.invariant in
    let step = (c.in-Some.ensures {u = tt}).steps.0 in
    let len = length-append c.loop-post.yielded (c.in-Some.post ∷ []) in
    let was = i.2 in
    let longer = c.push_reserved.ensures.len in (
      i.0 ∙ ap (λ l. c.loop-post.yielded ++ l) step ∙ sym (append_assoc c.loop-post.yielded (c.in-Some.post ∷ []) c.next.new.self.rest.items),
      gathered_more _ _ _ _ c.loop-post.yielded c.in-Some.post c.loop-post.seat c.join.new.seat c.loop-post.pass c.join-in-loop-post.new.pass c.loop-post.reports.items c.push_reserved.new.self.items _ _ _ i.1 c.join.ensures.seat c.join-in-loop-post.ensures c.push_reserved.ensures.items,
      omega arith,
      c.push_reserved.ensures.capacity ∙ i.3,
    )

pub join-requires-clause-desk : goal.join-requires-clause-desk
join-requires-clause-desk g c =
    let i = c.loop-post.invariant in
    let step = (c.in-Some.ensures {u = tt}).steps.0 in
    let here = in_middle (λ post. IsSeatOf c.args.desk.now post.seat × IsPassHere c.args.queue.now post.queue) c.loop-post.yielded c.next.new.self.rest.items c.args.posts.items c.in-Some.post (i.0 ∙ ap (λ l. c.loop-post.yielded ++ l) step) c.requires.here in
    ((i.1.of_seat.0 ∙ c.requires.desk.0.0, i.1.of_seat.1 ∙ c.requires.desk.0.1), here.0)

pub join-requires-in-loop-post-clause-queue : goal.join-requires-in-loop-post-clause-queue
join-requires-in-loop-post-clause-queue g c =
    let i = c.loop-post.invariant in
    let step = (c.in-Some.ensures {u = tt}).steps.0 in
    let here = in_middle (λ post. IsSeatOf c.args.desk.now post.seat × IsPassHere c.args.queue.now post.queue) c.loop-post.yielded c.next.new.self.rest.items c.args.posts.items c.in-Some.post (i.0 ∙ ap (λ l. c.loop-post.yielded ++ l) step) c.requires.here in
    (i.1.of_pass.0 ∙ c.requires.queue.0, here.1)

pub returns : goal.returns
returns g c =
    let i = c.loop-post.invariant in
    let none : length c.loop-post.post-iterator.rest.items ≡ 0 = search rules in
    let all : c.args.posts.items ≡ c.loop-post.yielded = i.0 ∙ ap (λ l. c.loop-post.yielded ++ l) (nil_from_length c.loop-post.post-iterator.rest.items none) ∙ append-nil c.loop-post.yielded in
    subst (λ l. GathersRest c.args.desk.now l c.args.seat.now c.args.pass.now c.args.reports.now.items c.loop-post.seat c.loop-post.pass c.loop-post.reports.items) (sym all) i.1
