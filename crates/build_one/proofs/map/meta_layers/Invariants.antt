use Rattle.std.proofs.Common.{◌≡◌, take, map}
use Rattle.std.specs.List.{enumerate_from}
use Rattle.profile_rules.specs.Fields.{layers_of}
use Rattle.tile_model.specs.Map.{meta_layer}
use Rattle.build_one.proofs.map.meta_layers.Given as goal

abbrev pub invariant-loop-i : goal.invariant-loop-i
invariant-loop-i l = l.found.items ≡ map (meta_layer l.profile) (enumerate_from 0 (take l.i (layers_of l.profile)))
