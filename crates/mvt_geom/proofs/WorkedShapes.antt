-- The worked shapes, by computing.
use Rattle.std.proofs.Common.{refl}
use Rattle.mvt_geom.specs.Commands.{path_at, paths_of, has_form}
use Rattle.tb_types.specs.Points.{turn}
use Rattle.mvt_geom.specs.Geometry.{in_32_bits, shifted, geometry_of}
use Rattle.mvt_geom.specs.Text.{path_ints}
use Rattle.mvt_geom.specs.Worked.{WorkedGeometry}

pub worked_geometry : WorkedGeometry
unfolding path_at paths_of has_form turn in_32_bits shifted geometry_of path_ints
worked_geometry = record {
  a_point = refl;
  a_street = refl;
  a_cover = refl;
  squares = refl;
  far_apart = refl;
  a_street_again = refl;
  a_cover_again = refl;
  squares_again = refl;
  second_hole = refl;
  half_a_point = refl;
  no_move = refl;
  short_move = refl;
  long_move = refl;
  points = refl;
  no_points = refl;
  far = refl;
  too_far = refl;
  far_below = refl;
  flat = refl;
  no_area = refl;
  inner_first = refl;
  not_closed = refl;
  one_point = refl;
  more_behind = refl;
  no_line = refl;
  two_points = refl;
  other_close = refl;
  unknown = refl;
  no_type = refl;
}
