use Rattle.std.proofs.Common.{sym, ap, ◌∙◌, arith}
use Rattle.ring_assembly.specs.Search.{unused_of, grown_from, chain}
use Rattle.ring_assembly.proofs.Growing.{found_one}
use Rattle.ring_assembly.proofs.Turns.{closed_rest, closed_told, alone_rest, alone_told, extended_told}
use Rattle.ring_assembly.proofs.chain.closed_chain.Goals as goal

pub loop-end-smaller : goal.loop-end-smaller
loop-end-smaller c =
    let ways = c.args.ways.now in
    let fewer = found_one c.loop-end.end (unused_of c.loop-end.unused.used.items ways) c.in-Some.next.now (unused_of c.take.new.self.used.items ways) c.in-Some.ensures.lowest in
    omega (arith, fewer)

pub loop-end-preserved : goal.loop-end-preserved
loop-end-preserved c =
    let ways = c.args.ways.now in
    let so_far = chain c.args.way.now.first c.loop-end.end c.loop-end.points.items in
    record {
      indexed = c.take.ensures.indexed;
      stays = record { at = λ k h. c.take.ensures.stays.at k (c.loop-end.invariant.stays.at k h) };
      told = extended_told so_far (unused_of c.loop-end.unused.used.items ways) (grown_from ways c.args.unused.now.used.items c.args.way.now) c.loop-end.invariant.told c.in-Some.next.now (unused_of c.take.new.self.used.items ways) _ (sym c.is_same_node.ensures ∙ c.loop-end-test.true) c.in-Some.ensures.lowest (c.in_ok-end-in-Some.ensures {u = tt} c.args.way.now.first);
    }

pub returns-in-None-clause-rest : goal.returns-in-None-clause-rest
returns-in-None-clause-rest c =
    let ways = c.args.ways.now in
    ap (λ used. unused_of used ways) c.in-None.ensures.kept
    ∙ alone_rest (chain c.args.way.now.first c.loop-end.end c.loop-end.points.items) (unused_of c.loop-end.unused.used.items ways) (grown_from ways c.args.unused.now.used.items c.args.way.now) c.loop-end.invariant.told c.in-None.ensures.lowest

pub returns-in-None-clause-points : goal.returns-in-None-clause-points
returns-in-None-clause-points c =
    let ways = c.args.ways.now in
    alone_told (chain c.args.way.now.first c.loop-end.end c.loop-end.points.items) (unused_of c.loop-end.unused.used.items ways) (grown_from ways c.args.unused.now.used.items c.args.way.now) c.loop-end.invariant.told c.in-None.ensures.lowest (sym c.is_same_node.ensures ∙ c.loop-end-test.true)

pub returns-clause-rest : goal.returns-clause-rest
returns-clause-rest c =
    let ways = c.args.ways.now in
    closed_rest (chain c.args.way.now.first c.loop-end.end c.loop-end.points.items) (unused_of c.loop-end.unused.used.items ways) (grown_from ways c.args.unused.now.used.items c.args.way.now) c.loop-end.invariant.told (sym c.is_same_node.ensures ∙ c.loop-end-test.false)

pub returns-clause-points : goal.returns-clause-points
returns-clause-points c =
    let ways = c.args.ways.now in
    closed_told (chain c.args.way.now.first c.loop-end.end c.loop-end.points.items) (unused_of c.loop-end.unused.used.items ways) (grown_from ways c.args.unused.now.used.items c.args.way.now) c.loop-end.invariant.told (sym c.is_same_node.ensures ∙ c.loop-end-test.false)
