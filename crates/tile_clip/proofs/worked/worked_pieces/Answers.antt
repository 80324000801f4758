use Rattle.std.proofs.Common.{refl}
use Rattle.strip_clip.specs.Axes.{rounded_part, forward_crossing, crossing_of}
use Rattle.tb_types.specs.Points.{turn}
use Rattle.strip_clip.specs.Cleaning.{clean_ring}
use Rattle.strip_clip.specs.Cuts.{cut_line, cut_ring, cut_polygon, cut_of}
use Rattle.strip_clip.specs.Edges.{reach}
use Rattle.tile_clip.specs.Pieces.{pieces_of}
use Rattle.tile_clip.proofs.worked.worked_pieces.Goals as goal

pub returns : goal.returns
unfolding rounded_part forward_crossing crossing_of reach turn clean_ring cut_line cut_ring cut_polygon cut_of pieces_of
returns c = record { line = refl; area = refl }
