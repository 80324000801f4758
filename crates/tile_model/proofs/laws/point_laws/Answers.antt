use Rattle.tile_model.proofs.Proved.{points}
use Rattle.tile_model.proofs.laws.point_laws.Goals as goal

pub returns : goal.returns
returns c = points
