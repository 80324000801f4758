use Rattle.std.proofs.Common.{map}
use Rattle.osm_elements.proofs.Looking.{no_dense}
use Rattle.osm_elements.specs.Words.{seen_words}
use Rattle.osm_elements.proofs.group.give_dense.Goals as goal

pub returns-then-count-eq0 : goal.returns-then-count-eq0
returns-then-count-eq0 g c =
    no_dense g.T.ElementTaker.steps g.T.ElementTaker.stops (c.args.taker.now, c.args.why.now) (seen_words c.args.strings.now) c.args.granularity c.args.group.now (c.requires.none c.if-count-eq0.true)
