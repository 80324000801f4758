use Rattle.tile_model.proofs.Proved.{differing}
use Rattle.tile_model.proofs.laws.differ_laws.Goals as goal

pub returns : goal.returns
returns g c = differing _ _ _ _ _
