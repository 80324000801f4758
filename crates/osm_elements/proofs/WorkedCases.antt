-- The worked cases, by computing.
use Rattle.std.proofs.Common.{◌≡◌, refl}
use Rattle.std.specs.Str.{is_utf8, chars}
use lib.Utf8.{encode}
use Rattle.tb_wire.specs.Varint.{varint}
use Rattle.tb_wire.specs.Field.{value_at, field_at}
use Rattle.tb_wire.specs.Message.{message_at, number_at, packed_at}
use Rattle.osm_elements.specs.Elements.{node_of, way_of, relation_of}
use Rattle.osm_elements.specs.Dense.{dense_of}
use Rattle.osm_elements.specs.Block.{group_of, elements_of}
use Rattle.osm_elements.specs.Worked.{WorkedRuns, WorkedLists, Worked, cafe_block, cafe, two_faults, missing, dense_twice, dense_nodes}

one_cafe : elements_of cafe_block ≡ cafe
unfolding elements_of group_of dense_of node_of way_of relation_of message_at number_at packed_at field_at value_at varint is_utf8 chars encode
one_cafe = refl

missing_before_index : elements_of two_faults ≡ missing
unfolding elements_of group_of dense_of node_of way_of relation_of message_at number_at packed_at field_at value_at varint is_utf8 chars encode
missing_before_index = refl

dense_goes_on : elements_of dense_twice ≡ dense_nodes
unfolding elements_of group_of dense_of node_of way_of relation_of message_at number_at packed_at field_at value_at varint is_utf8 chars encode
dense_goes_on = refl

worked_runs : WorkedRuns
unfolding is_utf8 chars encode
worked_runs = record {
  none_at_all = refl;
  no_nodes = refl;
  one_run = refl;
  two_runs = refl;
  value_0 = refl;
  value_0_and_a_run = refl;
  pair_behind_the_last = refl;
  key_behind_the_last = refl;
  run_behind_the_last = refl;
  pair_of_no_node = refl;
  run_of_no_node = refl;
  run_too_few = refl;
  pair_without_end = refl;
  key_without_value = refl;
  cut_in_the_second = refl;
  uneven_before_index = refl;
  index = refl;
  negative_key = refl;
  negative_value = refl;
  low_bits = refl;
}

worked_lists : WorkedLists
worked_lists = record {
  few_latitudes = refl;
  few_longitudes = refl;
  many_latitudes = refl;
  no_ids = refl;
  key_alone = refl;
  value_alone = refl;
  values_of_no_keys = refl;
}

pub worked_cases : Worked
worked_cases = record {
  blocks = record { one_cafe = one_cafe; missing_before_index = missing_before_index; dense_goes_on = dense_goes_on };
  runs = worked_runs;
  lists = worked_lists;
}
