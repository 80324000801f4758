use Rattle.std.proofs.Common.{◌≡◌, map, drop}
use Rattle.std.specs.List.{list_all}
use Rattle.toml.specs.View.{table_view}
use Rattle.profile_rules.specs.Attributes.{has_short_texts}
use Rattle.profile_rules.proofs.rule.all_have_short_texts.Given as goal

abbrev pub invariant-loop-table : goal.invariant-loop-table
invariant-loop-table l = list_all has_short_texts (map (λ t. table_view t.now) (drop l.table-index l.tables)) ≡ list_all has_short_texts (map (λ t. table_view t.now) l.tables)
