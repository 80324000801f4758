use Rattle.std.proofs.Common.{◌≡◌, take, map}
use Rattle.profile_rules.specs.declared.parts.LayerInfo.{LayerInfo}
use Rattle.build_one.proofs.map.names_of.Given as goal

abbrev pub invariant-loop-info : goal.invariant-loop-info
invariant-loop-info l = l.names.items ≡ map (λ (info : LayerInfo). info.id) (take l.info-index l.infos)
