use Rattle.std.proofs.Common.{drop, map}
use Rattle.osm_elements.specs.Lists.{tagged_nodes}
use Rattle.osm_elements.proofs.Joins.{Going}
use Rattle.osm_elements.specs.Words.{seen_words}
use Rattle.osm_elements.proofs.group.give_tagged.Given as goal

abbrev pub invariant-loop-i : goal.invariant-loop-i
invariant-loop-i g l =
    Going g.T.ElementTaker.steps g.T.ElementTaker.stops (l.fn.taker, l.fn.why) (l.taker, l.why)
    (tagged_nodes (seen_words l.strings) l.granularity (drop l.i l.lists.ids.items.items) (drop l.i l.lists.lats.items.items) (drop l.i l.lists.lons.items.items) l.pairs)
    (tagged_nodes (seen_words l.strings) l.granularity l.lists.ids.items.items l.lists.lats.items.items l.lists.lons.items.items l.lists.pairs.items)
