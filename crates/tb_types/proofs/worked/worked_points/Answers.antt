use Rattle.std.proofs.Common.{refl}
use Rattle.tb_types.specs.Points.{turn}
use Rattle.tb_types.proofs.worked.worked_points.Goals as goal

pub returns : goal.returns
unfolding turn
returns c = record { path = refl; ring = refl; one_point = refl; no_point = refl; square = refl; square_back = refl; zigzag = refl; unzigzag = refl }
