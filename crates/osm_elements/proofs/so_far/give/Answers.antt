use Rattle.std.proofs.Common.{[], ◌∷◌}
use Rattle.osm_elements.specs.Elements.{seen_element}
use Rattle.osm_elements.proofs.Joins.{taker_stops}
use Rattle.osm_elements.proofs.so_far.give.Goals as goal

pub returns-in-Err : goal.returns-in-Err
returns-in-Err g c =
    taker_stops g.T.ElementTaker.steps g.T.ElementTaker.stops g.met.T.ElementTaker.steps_on g.met.T.ElementTaker.stops_after c.args.taker.now c.take.new.self c.args.why (seen_element c.args.element ∷ []) c.in-Err.stop c.in-Err.ensures.stops
