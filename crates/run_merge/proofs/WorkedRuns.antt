-- Worked cases, by computing.
use Rattle.std.proofs.Common.{refl, arith, true≢false}
use Rattle.std.specs.Str.{is_utf8, chars}
use lib.Utf8.{encode}
use Rattle.tb_wire.specs.Varint.{varint, encoding}
use Rattle.tb_wire.specs.Message.{len_text}
use Rattle.mvt_geom.specs.Commands.{has_form, path_at, paths_of}
use Rattle.mvt_codec.specs.Value.{value_text}
use Rattle.mvt_codec.specs.Items.{fixed, key_text, attribute_text, row_text, item_text}
use Rattle.feature_runs.specs.ItemReading.{varint_at, sized_at, int_at, name_at, text_of, value_of, attribute_at, ints_at, attributes_at, row_of, key_at, item_at}
use Rattle.run_merge.specs.Items.{items_in, item_rank}
use Rattle.run_merge.specs.Worked.{at, WorkedRuns}

pub worked : WorkedRuns
unfolding is_utf8 chars encode varint encoding len_text value_text has_form path_at paths_of fixed key_text attribute_text row_text item_text varint_at sized_at int_at name_at text_of value_of attribute_at ints_at attributes_at row_of key_at item_at items_in item_rank
worked = record {
  none = refl;
  two = refl;
  junk = refl;
  groups = refl;
  no_groups = refl;
  not_in_order = λ up. true≢false (up 0 (at 5 0 6) (omega arith) (omega arith));
  need = refl;
  names = refl;
  untold = refl;
}
