use Rattle.mvt_geom.proofs.Steps.{near_shapes_are_drawable}
use Rattle.mvt_geom.proofs.laws.near_shapes_are_drawable.Goals as goal

pub returns : goal.returns
returns c = near_shapes_are_drawable
