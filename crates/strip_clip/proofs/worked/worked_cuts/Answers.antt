use Rattle.std.proofs.Common.{refl}
use Rattle.strip_clip.specs.Axes.{rounded_part, forward_crossing, crossing_of}
use Rattle.tb_types.specs.Points.{turn}
use Rattle.strip_clip.specs.Cleaning.{clean_ring}
use Rattle.strip_clip.specs.Cuts.{cut_line, cut_ring, cut_polygon, cut_of}
use Rattle.strip_clip.specs.Edges.{reach}
use Rattle.strip_clip.proofs.worked.worked_cuts.Goals as goal

pub returns : goal.returns
unfolding rounded_part forward_crossing crossing_of reach turn clean_ring cut_line cut_ring cut_polygon cut_of
returns c = record {
  through = refl;
  half_up = refl;
  half_below_0 = refl;
  forth = refl;
  back = refl;
  covered = refl;
  filled = refl;
  rows_too = refl;
  touch = refl;
  hole_stays = refl;
}
