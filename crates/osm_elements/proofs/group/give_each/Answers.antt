use Rattle.std.proofs.Common.{ℕ, List, map, sym, subst}
use Rattle.osm_elements.specs.Elements.{element_of, group_field}
use Rattle.osm_elements.specs.Block.{Found, one}
use Rattle.osm_elements.specs.SoFar.{Ends}
use Rattle.osm_elements.specs.Walks.{each_from}
use Rattle.osm_elements.proofs.Joins.{ended_on}
use Rattle.osm_elements.proofs.Walks.{each_read, each_stops, each_refused}
use Rattle.osm_elements.proofs.Looking.{no_messages}
use Rattle.osm_elements.specs.Words.{seen_words}
use Rattle.osm_elements.proofs.group.give_each.Goals as goal

pub returns-then-count-eq0 : goal.returns-then-count-eq0
returns-then-count-eq0 g c =
    no_messages g.T.ElementTaker.steps g.T.ElementTaker.stops (c.args.taker.now, c.args.why.now) (λ body. one (element_of (seen_words c.args.strings.now) c.args.granularity c.args.kind body)) (group_field c.args.kind) c.args.group.now
    (c.requires.none c.if-count-eq0.true)

pub returns-in_err-give_element-in-Ok-Some : goal.returns-in_err-give_element-in-Ok-Some
returns-in_err-give_element-in-Ok-Some g c =
    ended_on g.T.ElementTaker.steps g.T.ElementTaker.stops (c.args.taker.now, c.args.why.now) (c.give_element.new.taker, c.give_element.new.why) c.from_residual-in_err-give_element-in-Ok-Some.result c.in_err-give_element-in-Ok-Some.field-0.0 _
    c.from_residual-in_err-give_element-in-Ok-Some.ensures.1
    (each_stops g.T.ElementTaker.steps g.T.ElementTaker.stops (λ body. one (element_of (seen_words c.args.strings.now) c.args.granularity c.args.kind body)) (group_field c.args.kind) c.args.group.now (c.args.taker.now, c.args.why.now)
    (c.loop-body.taker, c.loop-body.why) c.loop-body.at _ c.loop-body.invariant.told c.give_element.new.taker c.in_err-give_element-in-Ok-Some.field-0.0 c.in-Ok-Some.body.now c.in-Ok-Some.next
    (rw (c.in-Ok-Some.field-0-is, c.group_field-number.ensures) at c.in-Ok-Some.ensures.exact) (c.in_err-give_element-in-Ok-Some.ensures {u = tt}))

pub loop-body-preserved : goal.loop-body-preserved
loop-body-preserved g c =
    let place = rw c.in-Ok-Some.field-0-is at c.in-Ok-Some.ensures.within in
    record {
      within = place.1;
      told = each_read g.T.ElementTaker.steps g.T.ElementTaker.stops (λ body. one (element_of (seen_words c.args.strings.now) c.args.granularity c.args.kind body)) (group_field c.args.kind) c.args.group.now (c.args.taker.now, c.args.why.now)
          (c.loop-body.taker, c.loop-body.why) c.loop-body.at _ c.loop-body.invariant.told (c.give_element.new.taker, c.give_element.new.why) c.in-Ok-Some.body.now c.in-Ok-Some.next
          (rw (c.in-Ok-Some.field-0-is, c.group_field-number.ensures) at c.in-Ok-Some.ensures.exact) (c.in_ok-give_element-in-Ok-Some.ensures {u = tt});
    }

pub returns-in-Err : goal.returns-in-Err
returns-in-Err g c =
    let read : List ℕ → Found = λ body. one (element_of (seen_words c.args.strings.now) c.args.granularity c.args.kind body) in
    let all : Found = each_from read (group_field c.args.kind) c.args.group.now 0 in
    subst (λ e. Ends g.T.ElementTaker.steps g.T.ElementTaker.stops (c.args.taker.now, c.args.why.now) c.loop-body.taker e all) (sym c.from_block.ensures)
    (each_refused g.T.ElementTaker.steps g.T.ElementTaker.stops read (group_field c.args.kind) c.args.group.now (c.args.taker.now, c.args.why.now) (c.loop-body.taker, c.loop-body.why) c.loop-body.at all c.loop-body.invariant.told c.in-Err.e
    (rw c.group_field-number.ensures at c.in-Err.ensures.exact))
