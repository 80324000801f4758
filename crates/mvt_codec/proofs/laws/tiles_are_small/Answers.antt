use Rattle.mvt_codec.proofs.TileSizes.{tiles_are_small}
use Rattle.mvt_codec.proofs.laws.tiles_are_small.Goals as goal

pub returns : goal.returns
returns c = tiles_are_small
