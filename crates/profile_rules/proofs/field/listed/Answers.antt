use Rattle.std.proofs.Common.{◌≡◌, sym, subst, rules}
use Rattle.profile_rules.specs.Fields.{IsAscending}
use Rattle.profile_rules.specs.SeenFields.{seen_fields}
use Rattle.profile_rules.proofs.FieldMaps.{seen-ascending}
use Rattle.profile_rules.proofs.field.listed.Goals as goal

pub returns-clause-ascending : goal.returns-clause-ascending
returns-clause-ascending c =
    let entries = c.args.found.now.entries in
    let all : c.loop-name.fields ≡ seen_fields entries = search rules in
    subst IsAscending (sym all) (seen-ascending entries c.iter-name-items.ensures.ordered)
