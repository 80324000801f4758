use Rattle.std.proofs.Common.{◌≡◌, [], map, drop}
use Rattle.toml.specs.View.{view, table_view}
use Rattle.profile_rules.specs.Turns.{in_turn}
use Rattle.profile_rules.specs.Kinds.{table_of}
use Rattle.profile_rules.proofs.kinds.tables_of.Given as goal

abbrev pub invariant-loop-item : goal.invariant-loop-item
invariant-loop-item l =
    in_turn (λ _. table_of) (map (λ t. table_view t.now) l.tables.items) (map view (drop l.item-index l.items)) ≡ in_turn (λ _. table_of) [] (map view l.items)
