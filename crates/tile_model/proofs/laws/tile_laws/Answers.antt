use Rattle.tile_model.proofs.Proved.{tiles}
use Rattle.tile_model.proofs.laws.tile_laws.Goals as goal

pub returns : goal.returns
returns g c = tiles _ _ _
