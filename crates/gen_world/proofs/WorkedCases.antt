-- The worked cases.
use Rattle.std.proofs.Common.{◌++◌, ◌∷◌, [], codes, ap, lit<, refl}
use Rattle.std.proofs.lemmas.Fmt.{decimal_digit}
use Rattle.tb_wire.specs.Varint.{encoding}
use Rattle.tb_wire.specs.Message.{len_text}
use Rattle.gen_world.specs.Numbers.{next_number, number, draw, around}
use Rattle.gen_world.specs.Tables.{with_text, uses_of, place_in}
use Rattle.gen_world.specs.Elements.{counts_of, coordinate, node_of, amenity_tags, way_draws, way_of, corners_of, street_tags, way_tags, relation_of, relation_tags}
use Rattle.gen_world.specs.Blocks.{number_text, packed_text, steps_text, dense_text, tagged_text, relation_text, block_text, node_block, relation_block}
use Rattle.gen_world.specs.Frames.{head_text, frame_text, header_frame, frames_for, relation_frame, frames_with, frames_of}
use Rattle.gen_world.specs.Worked.{WorkedNumbers, WorkedElements, WorkedBytes}

pub worked_numbers : WorkedNumbers
unfolding next_number number draw around
worked_numbers = record { first = refl; second = refl; wraps = refl; upper_half = refl; signed = refl }

pub worked_elements : WorkedElements
unfolding next_number number draw around counts_of coordinate node_of way_draws way_of corners_of street_tags way_tags relation_of
worked_elements = record {
  least_counts = refl;
  rounded_down = refl;
  first_node = refl;
  one_ring = refl;
  building = refl;
  front = refl;
  back = refl;
  named = ap (λ d. (codes "highway", codes "residential") ∷ (codes "name", codes "Way " ++ d) ∷ []) (decimal_digit 5 (lit< tt));
  ring_untagged = refl;
  relation_area = refl;
}

pub worked_bytes : WorkedBytes
unfolding encoding len_text next_number number draw with_text uses_of place_in counts_of amenity_tags way_draws way_tags relation_of relation_tags number_text packed_text steps_text dense_text tagged_text relation_text block_text node_block relation_block head_text frame_text header_frame frames_for relation_frame frames_with frames_of
worked_bytes = record {
  empty_list = refl;
  differences = refl;
  table = refl;
  untagged = refl;
  two_nodes = refl;
  header = refl;
  relations = refl;
  two_frames = refl;
  four_frames = refl;
}
