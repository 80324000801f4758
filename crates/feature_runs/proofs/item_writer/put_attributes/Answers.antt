use Rattle.std.proofs.Common.{◌≡◌, ◌<◌, length, get_or, arith, rules}
use Rattle.mvt_codec.specs.Items.{attribute_text}
use Rattle.feature_runs.proofs.ItemLengths.{part_len}
use Rattle.feature_runs.proofs.item_writer.put_attributes.Goals as goal

pub put_attribute-requires-clause-short : goal.put_attribute-requires-clause-short
put_attribute-requires-clause-short c =
    let at : get_or c.args.attributes.now c.loop-attribute.attribute-index c.attribute-item.result ≡ c.attribute-item.result = search rules in
    omega (arith, rw at at (part_len attribute_text c.args.attributes.now c.loop-attribute.attribute-index c.attribute-item.result c.loop-attribute-test.true), c.requires.short)
