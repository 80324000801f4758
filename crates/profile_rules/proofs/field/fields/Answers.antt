use Rattle.profile_rules.specs.SeenFields.{seen_fields}
use Rattle.profile_rules.proofs.FieldMaps.{rule_added}
use Rattle.profile_rules.proofs.field.fields.Goals as goal

pub loop-rule-preserved : goal.loop-rule-preserved
loop-rule-preserved c =
    let l = c.loop-rule in
    rule_added (seen_fields l.found.entries) (seen_fields c.add_own_fields.new.found.entries) c.args.layer c.as_slice-rules.result.now l.rule-index c.rule-item.result _
    c.loop-rule-test.true c.rule-item.is c.in_ok-add_own_fields.ensures l.invariant
