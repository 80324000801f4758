use Rattle.std.proofs.Common.{◌≡◌, ◌≤◌, [], map, drop, length}
use Rattle.toml.specs.View.{table_view}
use Rattle.profile_rules.specs.Turns.{in_turn}
use Rattle.profile_rules.specs.Profile.{next_layer}
use Rattle.profile_rules.proofs.layer.layers_of.Given as goal

abbrev pub invariant-loop-table : goal.invariant-loop-table
invariant-loop-table l = record {
  count : length l.layers.items ≡ l.table-index;
  few : length l.tables ≤ 64;
  told : in_turn next_layer l.layers.items (map (λ t. table_view t.now) (drop l.table-index l.tables)) ≡ in_turn next_layer [] (map (λ t. table_view t.now) l.tables);
}
