use Rattle.tile_model.proofs.Proved.{build}
use Rattle.tile_model.proofs.laws.build_laws.Goals as goal

pub returns : goal.returns
returns c = build
