use Rattle.std.proofs.Common.{◌≡◌, map, drop}
use Rattle.profile_rules.specs.Turns.{in_turn}
use Rattle.profile_rules.specs.Conditions.{condition_of, conditions_of}
use Rattle.profile_rules.proofs.condition.conditions_of.Given as goal

abbrev pub invariant-loop-text : goal.invariant-loop-text
invariant-loop-text l =
    in_turn (λ _. condition_of) l.conditions.items (map (λ s. s.now) (drop l.text-index l.texts)) ≡ conditions_of (map (λ s. s.now) l.texts)
