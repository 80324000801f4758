use Rattle.std.proofs.Common.{◌≡◌, [], map, drop}
use Rattle.toml.specs.View.{view}
use Rattle.profile_rules.specs.declared.fault.ProfileWhy.TheVariants as reasons
use Rattle.profile_rules.specs.Turns.{in_turn}
use Rattle.profile_rules.specs.Kinds.{text_or}
use Rattle.profile_rules.proofs.kinds.texts_of.Given as goal

abbrev pub invariant-loop-item : goal.invariant-loop-item
invariant-loop-item l =
    in_turn (λ _. text_or reasons.Shape) (map (λ s. s.now) l.texts.items) (map view (drop l.item-index l.items)) ≡ in_turn (λ _. text_or reasons.Shape) [] (map view l.items)
