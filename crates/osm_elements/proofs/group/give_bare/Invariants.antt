use Rattle.std.proofs.Common.{drop, Ok}
use Rattle.osm_elements.specs.Lists.{bare_nodes}
use Rattle.osm_elements.proofs.Joins.{Going}
use Rattle.osm_elements.proofs.group.give_bare.Given as goal

abbrev pub invariant-loop-i : goal.invariant-loop-i
invariant-loop-i g l =
    Going g.T.ElementTaker.steps g.T.ElementTaker.stops (l.fn.taker, l.why) (l.taker, l.why) (Ok (bare_nodes l.granularity (drop l.i l.lists.ids.items.items) (drop l.i l.lists.lats.items.items) (drop l.i l.lists.lons.items.items)))
    (Ok (bare_nodes l.granularity l.lists.ids.items.items l.lists.lats.items.items l.lists.lons.items.items))
