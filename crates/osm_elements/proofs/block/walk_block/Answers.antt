use Rattle.std.proofs.Common.{[]}
use Rattle.osm_elements.specs.Block.{Found, elements_of}
use Rattle.osm_elements.specs.Heads.{seen_head}
use Rattle.osm_elements.proofs.Heads.{groups_under, elements_under, walked_all, walked_bad, walked_part, walked_on}
use Rattle.osm_elements.proofs.block.walk_block.Goals as goal

pub returns-in_err-give_elements : goal.returns-in_err-give_elements
returns-in_err-give_elements g c =
    let old = c.args.taker.now in
    let raw = c.args.raw.now in
    walked_on g.T.ElementTaker.steps g.T.ElementTaker.stops old c.give_elements.new.taker c.from_residual.result c.in_err-give_elements.field-0.0 (elements_of raw) c.from_residual.ensures.1
    (walked_part g.T.ElementTaker.steps g.T.ElementTaker.stops old (g.met.T.ElementTaker.steps_none old) (elements_of raw) (groups_under raw (seen_head c.in-Ok.head)) (elements_under raw (seen_head c.in-Ok.head) c.in-Ok.ensures)
    c.give_elements.new.taker c.in_err-give_elements.field-0.0 (c.in_err-give_elements.ensures {u = tt}))

pub returns-in-Some : goal.returns-in-Some
returns-in-Some g c =
    let old = c.args.taker.now in
    let raw = c.args.raw.now in
    walked_bad g.T.ElementTaker.steps g.T.ElementTaker.stops old (g.met.T.ElementTaker.steps_none old) (elements_of raw) (groups_under raw (seen_head c.in-Ok.head)) (elements_under raw (seen_head c.in-Ok.head) c.in-Ok.ensures)
    c.give_elements.new.taker c.give_elements.new.why c.in-Some.why (c.in_ok-give_elements.ensures {u = tt}) c.in-Some.is

pub returns : goal.returns
returns g c =
    let old = c.args.taker.now in
    let raw = c.args.raw.now in
    walked_all g.T.ElementTaker.steps g.T.ElementTaker.stops old (g.met.T.ElementTaker.steps_none old) (elements_of raw) (groups_under raw (seen_head c.in-Ok.head)) (elements_under raw (seen_head c.in-Ok.head) c.in-Ok.ensures)
    c.give_elements.new.taker c.give_elements.new.why tt (c.in_ok-give_elements.ensures {u = tt}) c.in-None.is
