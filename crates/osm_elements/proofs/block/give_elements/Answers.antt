use Rattle.std.proofs.Common.{map}
use Rattle.osm_elements.specs.Block.{Found, group_of, unit_check}
use Rattle.osm_elements.specs.Walks.{each_from}
use Rattle.osm_elements.proofs.Joins.{ended_on, first_ends, then_adds}
use Rattle.osm_elements.specs.Words.{seen_words}
use Rattle.osm_elements.proofs.block.give_elements.Goals as goal

pub returns-in_err-give_groups : goal.returns-in_err-give_groups
returns-in_err-give_groups g c =
    let head = c.args.head.now in
    let groups : Found = each_from (group_of (seen_words head.strings.items) head.granularity) 2 c.args.raw.now 0 in
    let given = c.in_err-give_groups.ensures {u = tt} in
    ended_on g.T.ElementTaker.steps g.T.ElementTaker.stops (c.args.taker.now, c.args.why.now) (c.give_groups.new.taker, c.give_groups.new.why) c.from_residual.result c.in_err-give_groups.field-0.0 _ c.from_residual.ensures.1
    (first_ends g.T.ElementTaker.steps g.T.ElementTaker.stops (c.args.taker.now, c.args.why.now) c.give_groups.new.taker c.in_err-give_groups.field-0.0 groups (unit_check head.granularity) (rw c.deref.ensures.value at given))

pub returns : goal.returns
returns g c =
    let head = c.args.head.now in
    let groups : Found = each_from (group_of (seen_words head.strings.items) head.granularity) 2 c.args.raw.now 0 in
    let given = c.in_ok-give_groups.ensures {u = tt} in
    then_adds g.T.ElementTaker.steps g.T.ElementTaker.stops (c.args.taker.now, c.args.why.now) (c.give_groups.new.taker, c.give_groups.new.why) (c.give_groups.new.taker, c.check_unit.new.why) c.check_unit.result groups (unit_check head.granularity) (rw c.deref.ensures.value at given)
    (c.check_unit.ensures c.give_groups.new.taker)
