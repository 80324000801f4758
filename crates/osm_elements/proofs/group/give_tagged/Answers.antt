use Rattle.std.proofs.Common.{arith, map}
use Rattle.osm_elements.specs.TagRefs.{seen_tags}
use Rattle.osm_elements.proofs.Joins.{ended_on}
use Rattle.osm_elements.proofs.DenseNodes.{tagged_read, tagged_stops, tagged_end, tagged_refused}
use Rattle.osm_elements.specs.Words.{seen_words}
use Rattle.osm_elements.proofs.group.give_tagged.Goals as goal

pub loop-i-preserved : goal.loop-i-preserved
loop-i-preserved g c =
    let given = c.in_ok-give_place-in-Ok.ensures {u = tt} in
    tagged_read c.args.granularity c.args.lists.now g.T.ElementTaker.steps g.T.ElementTaker.stops (c.args.taker.now, c.args.why.now) (c.loop-i.taker, c.loop-i.why) _ (seen_words c.args.strings.now) (c.give_place.new.taker, c.loop-i.why)
    c.loop-i.i c.loop-i.pairs.now (seen_tags c.first_run.new.tags.tags.items) c.in-Ok.behind.now (omega (arith, c.places-i-end.ensures, c.loop-i-test.true)) c.in-Ok.ensures c.loop-i.invariant
    (rw c.as_slice.ensures.value at given)

pub returns-in_err-give_place-in-Ok : goal.returns-in_err-give_place-in-Ok
returns-in_err-give_place-in-Ok g c =
    let given = c.in_err-give_place-in-Ok.ensures {u = tt} in
    ended_on g.T.ElementTaker.steps g.T.ElementTaker.stops (c.args.taker.now, c.args.why.now) (c.give_place.new.taker, c.loop-i.why) c.from_residual.result c.in_err-give_place-in-Ok.field-0.0 _ c.from_residual.ensures.1
    (tagged_stops c.args.granularity c.args.lists.now g.T.ElementTaker.steps g.T.ElementTaker.stops (c.args.taker.now, c.args.why.now) (c.loop-i.taker, c.loop-i.why) _ (seen_words c.args.strings.now) c.give_place.new.taker
    c.in_err-give_place-in-Ok.field-0.0 c.loop-i.i c.loop-i.pairs.now (seen_tags c.first_run.new.tags.tags.items) c.in-Ok.behind.now (omega (arith, c.places-i-end.ensures, c.loop-i-test.true)) c.in-Ok.ensures c.loop-i.invariant
    (rw c.as_slice.ensures.value at given))

pub returns-in-Err-Bad : goal.returns-in-Err-Bad
returns-in-Err-Bad g c =
    tagged_refused c.args.granularity c.args.lists.now g.T.ElementTaker.steps g.T.ElementTaker.stops (c.args.taker.now, c.args.why.now) (c.loop-i.taker, c.loop-i.why) _ (seen_words c.args.strings.now) (c.loop-i.taker, c.refuse.new.why)
    c.refuse.result c.loop-i.i c.loop-i.pairs.now c.in-Err-Bad.reason (omega (arith, c.places-i-end.ensures, c.loop-i-test.true)) (rw c.in-Err-Bad.field-0-is at c.in-Err-Bad.ensures) c.loop-i.invariant
    (rw c.in-Err-Bad.field-0-is at c.refuse.ensures c.loop-i.taker)

pub returns : goal.returns
returns g c =
    tagged_end c.args.granularity c.args.lists.now g.T.ElementTaker.steps g.T.ElementTaker.stops (c.args.taker.now, c.args.why.now) (c.loop-i.taker, c.loop-i.why) _ (seen_words c.args.strings.now) c.loop-i.i c.loop-i.pairs.now
    (omega (arith, c.places-i-end.ensures, c.loop-i-test.false)) c.loop-i.invariant
