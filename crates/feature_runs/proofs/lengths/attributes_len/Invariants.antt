use Rattle.std.proofs.Common.{◌≡◌, ◌-◌, ◌^◌, min, take, length, flat_map}
use Rattle.mvt_codec.specs.Items.{attribute_text}
use Rattle.feature_runs.proofs.lengths.attributes_len.Given as goal

abbrev pub invariant-loop-attribute : goal.invariant-loop-attribute
invariant-loop-attribute l = l.len ≡ min (length (flat_map attribute_text (take l.attribute-index l.attributes))) (2 ^ 64 - 1)
