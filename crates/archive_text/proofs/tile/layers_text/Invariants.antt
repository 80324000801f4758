use Rattle.std.proofs.Common.{◌≡◌, flat_map, take}
use Rattle.archive_text.specs.Show.{layer_text}
use Rattle.archive_text.proofs.tile.layers_text.Given as goal

abbrev pub invariant-loop-layer : goal.invariant-loop-layer
invariant-loop-layer l = l.text ≡ flat_map layer_text (take l.layer-index l.layers)
