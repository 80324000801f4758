use Rattle.std.proofs.Common.{ℕ, List, map, sym, subst}
use Rattle.osm_elements.specs.Block.{Found, group_of}
use Rattle.osm_elements.specs.SoFar.{Ends}
use Rattle.osm_elements.specs.Walks.{each_from}
use Rattle.osm_elements.proofs.Joins.{ended_on}
use Rattle.osm_elements.proofs.Walks.{each_read, each_stops, each_refused}
use Rattle.osm_elements.specs.Words.{seen_words}
use Rattle.osm_elements.proofs.block.give_groups.Goals as goal

pub returns-in_err-give_group-in-Ok-Some : goal.returns-in_err-give_group-in-Ok-Some
returns-in_err-give_group-in-Ok-Some g c =
    ended_on g.T.ElementTaker.steps g.T.ElementTaker.stops (c.args.taker.now, c.args.why.now) (c.give_group.new.taker, c.give_group.new.why) c.from_residual.result c.in_err-give_group-in-Ok-Some.field-0.0 _
    c.from_residual.ensures.1
    (each_stops g.T.ElementTaker.steps g.T.ElementTaker.stops (group_of (seen_words c.args.strings.now) c.args.granularity) 2 c.args.raw.now (c.args.taker.now, c.args.why.now)
    (c.loop-group.taker, c.loop-group.why) c.loop-group.at _ c.loop-group.invariant.told c.give_group.new.taker c.in_err-give_group-in-Ok-Some.field-0.0 c.in-Ok-Some.group.now c.in-Ok-Some.next
    (rw c.in-Ok-Some.field-0-is at c.in-Ok-Some.ensures.exact) (c.in_err-give_group-in-Ok-Some.ensures {u = tt}))

pub loop-group-preserved : goal.loop-group-preserved
loop-group-preserved g c =
    let place = rw c.in-Ok-Some.field-0-is at c.in-Ok-Some.ensures.within in
    record {
      within = place.1;
      told = each_read g.T.ElementTaker.steps g.T.ElementTaker.stops (group_of (seen_words c.args.strings.now) c.args.granularity) 2 c.args.raw.now (c.args.taker.now, c.args.why.now)
          (c.loop-group.taker, c.loop-group.why) c.loop-group.at _ c.loop-group.invariant.told (c.give_group.new.taker, c.give_group.new.why) c.in-Ok-Some.group.now c.in-Ok-Some.next
          (rw c.in-Ok-Some.field-0-is at c.in-Ok-Some.ensures.exact) (c.in_ok-give_group-in-Ok-Some.ensures {u = tt});
    }

pub returns-in-Err : goal.returns-in-Err
returns-in-Err g c =
    let read : List ℕ → Found = group_of (seen_words c.args.strings.now) c.args.granularity in
    let all : Found = each_from read 2 c.args.raw.now 0 in
    subst (λ e. Ends g.T.ElementTaker.steps g.T.ElementTaker.stops (c.args.taker.now, c.args.why.now) c.loop-group.taker e all) (sym c.from_block.ensures)
    (each_refused g.T.ElementTaker.steps g.T.ElementTaker.stops read 2 c.args.raw.now (c.args.taker.now, c.args.why.now) (c.loop-group.taker, c.loop-group.why) c.loop-group.at all c.loop-group.invariant.told c.in-Err.e
    c.in-Err.ensures.exact)
