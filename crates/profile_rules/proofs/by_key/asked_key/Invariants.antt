use Rattle.std.proofs.Common.{◌≡◌, drop}
use Rattle.profile_rules.specs.ByKey.{asked_key}
use Rattle.profile_rules.proofs.by_key.asked_key.Given as goal

abbrev pub invariant-loop-condition : goal.invariant-loop-condition
invariant-loop-condition l = asked_key (drop l.condition-index l.conditions) ≡ asked_key l.conditions
