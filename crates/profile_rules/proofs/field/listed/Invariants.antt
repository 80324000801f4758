use Rattle.std.proofs.Common.{◌≡◌, ◌++◌}
use Rattle.profile_rules.specs.SeenFields.{seen_fields}
use Rattle.profile_rules.proofs.field.listed.Given as goal

abbrev pub invariant-loop-name : goal.invariant-loop-name
invariant-loop-name l = l.fields ++ seen_fields l.name-iterator ≡ seen_fields l.found.entries
