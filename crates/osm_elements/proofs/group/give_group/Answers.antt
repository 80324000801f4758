use Rattle.std.proofs.Common.{map, sym, subst}
use Rattle.osm_elements.specs.Block.{group_of}
use Rattle.osm_elements.specs.SoFar.{Ends}
use Rattle.osm_elements.proofs.Joins.{ended_on, block_ends}
use Rattle.osm_elements.proofs.Walks.{nodes_stop, dense_stop, ways_stop, relations_stop, group_added}
use Rattle.osm_elements.proofs.Looking.{no_group}
use Rattle.osm_elements.specs.Words.{seen_words}
use Rattle.osm_elements.proofs.group.give_group.Goals as goal

pub returns-in-Err : goal.returns-in-Err
returns-in-Err g c =
    let strings = seen_words c.args.strings.now in
    subst (λ e. Ends g.T.ElementTaker.steps g.T.ElementTaker.stops (c.args.taker.now, c.args.why.now) c.args.taker.now e (group_of strings c.args.granularity c.args.group.now)) (sym c.from_block.ensures)
    (block_ends g.T.ElementTaker.steps g.T.ElementTaker.stops (c.args.taker.now, c.args.why.now) c.in-Err.e (group_of strings c.args.granularity c.args.group.now) (no_group strings c.args.granularity c.args.group.now c.in-Err.e c.in-Err.ensures))

pub returns-in_err-give_each : goal.returns-in_err-give_each
returns-in_err-give_each g c =
    ended_on g.T.ElementTaker.steps g.T.ElementTaker.stops (c.args.taker.now, c.args.why.now) (c.give_each.new.taker, c.give_each.new.why) c.from_residual.result c.in_err-give_each.field-0.0 _ c.from_residual.ensures.1
    (nodes_stop g.T.ElementTaker.steps g.T.ElementTaker.stops (seen_words c.args.strings.now) c.args.granularity c.args.group.now (c.args.taker.now, c.args.why.now) c.give_each.new.taker c.in_err-give_each.field-0.0 (c.in_err-give_each.ensures {u = tt}))

pub returns-in_err-give_dense : goal.returns-in_err-give_dense
returns-in_err-give_dense g c =
    ended_on g.T.ElementTaker.steps g.T.ElementTaker.stops (c.args.taker.now, c.args.why.now) (c.give_dense.new.taker, c.give_dense.new.why) c.from_residual-in_err-give_dense.result c.in_err-give_dense.field-0.0 _ c.from_residual-in_err-give_dense.ensures.1
    (dense_stop g.T.ElementTaker.steps g.T.ElementTaker.stops (seen_words c.args.strings.now) c.args.granularity c.args.group.now (c.args.taker.now, c.args.why.now) (c.give_each.new.taker, c.give_each.new.why) (c.in_ok-give_each.ensures {u = tt}) c.give_dense.new.taker c.in_err-give_dense.field-0.0 (c.in_err-give_dense.ensures {u = tt}))

pub returns-in_err-give_each-2 : goal.returns-in_err-give_each-2
returns-in_err-give_each-2 g c =
    ended_on g.T.ElementTaker.steps g.T.ElementTaker.stops (c.args.taker.now, c.args.why.now) (c.give_each-2.new.taker, c.give_each-2.new.why) c.from_residual-in_err-give_each-2.result c.in_err-give_each-2.field-0.0 _ c.from_residual-in_err-give_each-2.ensures.1
    (ways_stop g.T.ElementTaker.steps g.T.ElementTaker.stops (seen_words c.args.strings.now) c.args.granularity c.args.group.now (c.args.taker.now, c.args.why.now) (c.give_each.new.taker, c.give_each.new.why) (c.in_ok-give_each.ensures {u = tt}) (c.give_dense.new.taker, c.give_dense.new.why) (c.in_ok-give_dense.ensures {u = tt}) c.give_each-2.new.taker c.in_err-give_each-2.field-0.0 (c.in_err-give_each-2.ensures {u = tt}))

pub returns-in_err-give_each-3 : goal.returns-in_err-give_each-3
returns-in_err-give_each-3 g c =
    ended_on g.T.ElementTaker.steps g.T.ElementTaker.stops (c.args.taker.now, c.args.why.now) (c.give_each-3.new.taker, c.give_each-3.new.why) c.from_residual-in_err-give_each-3.result c.in_err-give_each-3.field-0.0 _ c.from_residual-in_err-give_each-3.ensures.1
    (relations_stop g.T.ElementTaker.steps g.T.ElementTaker.stops (seen_words c.args.strings.now) c.args.granularity c.args.group.now (c.args.taker.now, c.args.why.now) (c.give_each.new.taker, c.give_each.new.why) (c.in_ok-give_each.ensures {u = tt}) (c.give_dense.new.taker, c.give_dense.new.why) (c.in_ok-give_dense.ensures {u = tt}) (c.give_each-2.new.taker, c.give_each-2.new.why) (c.in_ok-give_each-2.ensures {u = tt}) c.give_each-3.new.taker c.in_err-give_each-3.field-0.0 (c.in_err-give_each-3.ensures {u = tt}))

pub returns : goal.returns
returns g c =
    group_added g.T.ElementTaker.steps g.T.ElementTaker.stops (seen_words c.args.strings.now) c.args.granularity c.args.group.now (c.args.taker.now, c.args.why.now) (c.give_each.new.taker, c.give_each.new.why) (c.in_ok-give_each.ensures {u = tt}) (c.give_dense.new.taker, c.give_dense.new.why) (c.in_ok-give_dense.ensures {u = tt}) (c.give_each-2.new.taker, c.give_each-2.new.why) (c.in_ok-give_each-2.ensures {u = tt}) (c.give_each-3.new.taker, c.give_each-3.new.why) (c.in_ok-give_each-3.ensures {u = tt})
