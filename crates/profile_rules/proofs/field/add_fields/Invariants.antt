use Rattle.std.proofs.Common.{◌≡◌, map, drop}
use Rattle.profile_rules.specs.Fields.{with_fields}
use Rattle.profile_rules.proofs.field.add_fields.Given as goal

abbrev pub invariant-loop-attribute : goal.invariant-loop-attribute
invariant-loop-attribute l =
    with_fields (map (λ e. (e.0.now, e.1)) l.found.entries) (drop l.attribute-index l.attributes) ≡ with_fields (map (λ e. (e.0.now, e.1)) l.initial.found.entries) l.attributes
