use Rattle.std.proofs.Common.{◌≡◌, map, drop}
use Rattle.osm_elements.specs.Header.{are_accepted}
use Rattle.osm_elements.proofs.header.are_accepted.Given as goal

abbrev pub invariant-loop-feature : goal.invariant-loop-feature
invariant-loop-feature l = are_accepted (map (λ b. b.now) (drop l.feature-index l.features)) ≡ are_accepted (map (λ b. b.now) l.features)
