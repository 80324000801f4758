use Rattle.tile_model.proofs.Proved.{extracts}
use Rattle.tile_model.proofs.laws.extract_laws.Goals as goal

pub returns : goal.returns
returns c = extracts
