use Rattle.std.proofs.Common.{refl}
use Rattle.tb_types.specs.Points.{turn}
use Rattle.ring_assembly.specs.Sides.{on_edge, crosses}
use Rattle.ring_assembly.specs.Nesting.{encloses, contains, depth_of, is_outer_of, outer_of, inners_at, polygon_at, nested}
use Rattle.ring_assembly.proofs.worked.worked_polygons.Goals as goal

pub returns : goal.returns
unfolding on_edge crosses encloses contains depth_of is_outer_of outer_of inners_at polygon_at nested turn
returns c = record { hole = refl; equal = refl; four = refl; touching = refl; beside = refl; dropped = refl; none = refl }
