use Rattle.std.proofs.Common.{◌≡◌, [], drop}
use Rattle.profile_rules.specs.Fields.{with_fields, attributes_in}
use Rattle.profile_rules.specs.SeenFields.{seen_fields}
use Rattle.profile_rules.proofs.field.fields.Given as goal

abbrev pub invariant-loop-rule : goal.invariant-loop-rule
invariant-loop-rule l = with_fields (seen_fields l.found.entries) (attributes_in l.layer (drop l.rule-index l.rules)) ≡ with_fields [] (attributes_in l.layer l.rules)
