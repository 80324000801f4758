use Rattle.std.proofs.Common.{◌≡◌, map, drop}
use Rattle.std.specs.List.{list_all}
use Rattle.profile_rules.specs.Ranges.{is_short}
use Rattle.profile_rules.proofs.rule.all_short.Given as goal

abbrev pub invariant-loop-text : goal.invariant-loop-text
invariant-loop-text l = list_all is_short (map (λ s. s.now) (drop l.text-index l.texts)) ≡ list_all is_short (map (λ s. s.now) l.texts)
