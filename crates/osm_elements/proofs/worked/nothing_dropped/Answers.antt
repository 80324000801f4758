use Rattle.osm_elements.proofs.NothingDropped.{nothing_dropped}
use Rattle.osm_elements.proofs.worked.nothing_dropped.Goals as goal

pub returns : goal.returns
returns c = nothing_dropped
