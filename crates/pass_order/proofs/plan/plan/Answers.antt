-- Turn by turn, up to where nothing is left.
use Rattle.std.proofs.Common.{ap, refl, ◌∙◌, arith, ◌+◌}
use Rattle.gen_world.specs.Numbers.{draw}
use Rattle.pass_order.proofs.Planning.{start, few, same-lanes, next, all-steps, all-taken}
use Rattle.pass_order.proofs.plan.plan.Goals as goal

pub loop-numbers-init : goal.loop-numbers-init
loop-numbers-init c = let d = c.args.drawn.now in start d.last c.args.needs.now d.lanes d.queue d.part c.requires.may c.in_ok-core.core c.new-planned.result.items c.new-numbers.result.seed c.new-numbers.result.taken c.in_ok-core.ensures.start c.new-planned.ensures.items c.new-numbers.ensures.seed c.new-numbers.ensures.taken

pub draw-first-requires-clause-room : goal.draw-first-requires-clause-room
draw-first-requires-clause-room c = let d = c.args.drawn.now in few d.last c.args.needs.now d.lanes d.queue d.part c.requires.may c.loop-numbers.core c.loop-numbers.planned.items c.loop-numbers.numbers.seed c.loop-numbers.numbers.taken c.loop-numbers.invariant

pub take_turn-requires-clause-lanes : goal.take_turn-requires-clause-lanes
take_turn-requires-clause-lanes c = let d = c.args.drawn.now in same-lanes d.last c.args.needs.now d.lanes d.queue d.part c.requires.may c.loop-numbers.core c.loop-numbers.planned.items c.loop-numbers.numbers.seed c.loop-numbers.numbers.taken c.loop-numbers.invariant

pub loop-numbers-smaller : goal.loop-numbers-smaller
loop-numbers-smaller c = let less = c.in_ok-take_turn.ensures.less in omega (arith, less)

pub loop-numbers-preserved : goal.loop-numbers-preserved
loop-numbers-preserved c =
    let d = c.args.drawn.now in
    let n = c.loop-numbers.numbers in
    next d.last c.args.needs.now d.lanes d.queue d.part c.requires.may c.loop-numbers.core c.take_turn.new.core c.loop-numbers.planned.items c.take_turn.new.planned.items n.seed n.taken c.draw-first.new.self.seed c.draw-first.new.self.taken c.draw-first.result
    c.loop-numbers.invariant c.draw-first.ensures.seed c.draw-first.ensures.taken (c.draw-first.ensures.drawn ∙ ap (draw n.seed (n.taken + 1)) c.from.ensures) c.in_ok-take_turn.ensures

pub returns-clause-steps : goal.returns-clause-steps
returns-clause-steps c =
    let d = c.args.drawn.now in
    all-steps d.last c.args.needs.now d.lanes d.queue d.part c.requires.may c.loop-numbers.core c.loop-numbers.planned.items c.loop-numbers.numbers.seed c.loop-numbers.numbers.taken c.loop-numbers.invariant (c.loop-numbers-test.ensures.exact.0 refl)

pub returns-clause-next : goal.returns-clause-next
returns-clause-next c =
    let d = c.args.drawn.now in
    ap (λ x. record d { last = x }) (all-taken d.last c.args.needs.now d.lanes d.queue d.part c.requires.may c.loop-numbers.core c.loop-numbers.planned.items c.loop-numbers.numbers.seed c.loop-numbers.numbers.taken c.last-drawn.result c.loop-numbers.invariant (c.loop-numbers-test.ensures.exact.0 refl) c.last-drawn.ensures)
