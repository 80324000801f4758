use Rattle.std.proofs.Common.{◌≡◌, ◌≤◌, [], map, drop, length}
use Rattle.toml.specs.View.{table_view}
use Rattle.profile_rules.specs.Turns.{in_turn}
use Rattle.profile_rules.specs.Profile.{next_rule}
use Rattle.profile_rules.proofs.rule.rules_of.Given as goal

abbrev pub invariant-loop-table : goal.invariant-loop-table
invariant-loop-table l = record {
  count : length l.rules.items ≡ l.table-index;
  many : length l.tables ≤ 1024;
  few : length l.layers ≤ 64;
  told : in_turn (next_rule l.zooms l.layers) l.rules.items (map (λ t. table_view t.now) (drop l.table-index l.tables)) ≡ in_turn (next_rule l.zooms l.layers) [] (map (λ t. table_view t.now) l.tables);
}
