use Rattle.std.proofs.Common.{◌≡◌, map, drop}
use Rattle.toml.specs.View.{table_view}
use Rattle.profile_rules.specs.Turns.{in_turn}
use Rattle.profile_rules.specs.Attributes.{attributes_of, next_attribute}
use Rattle.profile_rules.proofs.attribute.attributes_of.Given as goal

abbrev pub invariant-loop-table : goal.invariant-loop-table
invariant-loop-table l =
    in_turn next_attribute l.attributes.items (map (λ t. table_view t.now) (drop l.table-index l.tables)) ≡ attributes_of (map (λ t. table_view t.now) l.tables)
