use Rattle.std.proofs.Common.{◌≡◌, ◌++◌, take, length, flat_map}
use Rattle.tb_wire.specs.Varint.{encoding}
use Rattle.mvt_codec.specs.Items.{attribute_text}
use Rattle.feature_runs.proofs.item_writer.put_attributes.Given as goal

abbrev pub invariant-loop-attribute : goal.invariant-loop-attribute
invariant-loop-attribute l = l.out.items ≡ l.fn.out.items ++ (encoding (length l.attributes) ++ flat_map attribute_text (take l.attribute-index l.attributes))
