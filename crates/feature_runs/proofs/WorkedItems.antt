-- The worked items, by computing.
use Rattle.std.proofs.Common.{refl}
use Rattle.std.specs.Str.{is_utf8, chars}
use lib.Utf8.{encode}
use Rattle.tb_wire.specs.Varint.{varint, encoding}
use Rattle.tb_wire.specs.Message.{len_text}
use Rattle.mvt_geom.specs.Commands.{has_form, path_at, paths_of}
use Rattle.mvt_codec.specs.Value.{value_text}
use Rattle.mvt_codec.specs.Items.{fixed, key_text, attribute_text, row_text, item_text}
use Rattle.feature_runs.specs.ItemReading.{varint_at, sized_at, int_at, name_at, text_of, float_of, double_of, uint_of, sint_of, truth_of, value_of, attribute_at, ints_at, attributes_at, row_of, key_at, item_at}
use Rattle.feature_runs.specs.WorkedItems.{WorkedItems}

pub worked_items : WorkedItems
unfolding is_utf8 chars encode varint encoding len_text value_text has_form path_at paths_of fixed key_text attribute_text row_text item_text varint_at sized_at int_at name_at text_of float_of double_of uint_of sint_of truth_of value_of attribute_at ints_at attributes_at row_of key_at item_at
worked_items = record {
  written = refl;
  read = refl;
  short = refl;
  long = refl;
  no_tile = refl;
  no_layer = refl;
  no_kind = refl;
  longer = refl;
  no_type = refl;
  other_type = refl;
  no_name = refl;
  a_sint = refl;
  a_uint = refl;
  an_int = refl;
  a_positive_sint = refl;
  no_bool = refl;
  two_fields = refl;
  no_field = refl;
}
