use Rattle.std.proofs.Common.{◌≡◌, ◌++◌, All}
use Rattle.std.specs.Str.{IsUtf8}
use Rattle.mvt_codec.specs.Groups.{named}
use Rattle.mvt_codec.proofs.group.named_layers.Given as goal

abbrev pub invariant-loop-rows : goal.invariant-loop-rows
invariant-loop-rows l = record {
  layers : l.layers.items ++ named l.rest l.rows-iterator.rest.items ≡ named l.names l.fn.layer_rows.items;
  texts : All (λ layer. IsUtf8 layer.name) l.layers.items;
}
