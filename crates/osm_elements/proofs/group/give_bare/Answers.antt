use Rattle.std.proofs.Common.{arith}
use Rattle.osm_elements.proofs.Joins.{ended_on}
use Rattle.osm_elements.proofs.DenseNodes.{bare_stops, bare_end}
use Rattle.osm_elements.proofs.group.give_bare.Goals as goal

pub returns-in_err-give_place : goal.returns-in_err-give_place
returns-in_err-give_place g c =
    ended_on g.T.ElementTaker.steps g.T.ElementTaker.stops (c.args.taker.now, c.args.why) (c.give_place.new.taker, c.args.why) c.from_residual.result c.in_err-give_place.field-0.0 _ c.from_residual.ensures.1
    (bare_stops c.args.granularity c.args.lists.now g.T.ElementTaker.steps g.T.ElementTaker.stops (c.args.taker.now, c.args.why) (c.loop-i.taker, c.args.why) _ c.give_place.new.taker c.in_err-give_place.field-0.0 c.loop-i.i
    (omega (arith, c.places-i-end.ensures, c.loop-i-test.true)) c.loop-i.invariant (c.in_err-give_place.ensures {u = tt}))

pub returns : goal.returns
returns g c =
    bare_end c.args.granularity c.args.lists.now g.T.ElementTaker.steps g.T.ElementTaker.stops (c.args.taker.now, c.args.why) (c.loop-i.taker, c.args.why) _ c.loop-i.i
    (omega (arith, c.places-i-end.ensures, c.loop-i-test.false)) c.loop-i.invariant
