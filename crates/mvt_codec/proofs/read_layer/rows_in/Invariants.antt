use Rattle.std.proofs.Common.{◌≡◌, drop, map}
use Rattle.mvt_codec.specs.Grammar.{rows_in}
use Rattle.mvt_codec.specs.Reading.{with_list, seen_value}
use Rattle.mvt_codec.proofs.read_layer.rows_in.Given as goal

-- the rows so far, and those of the features that are left, are all
abbrev pub invariant-loop-feature : goal.invariant-loop-feature
invariant-loop-feature l =
    with_list l.rows.items (rows_in (map (λ k. k.now) l.keys) (map seen_value l.values) (map (λ b. b.now) (drop l.feature-index l.features))) ≡ rows_in (map (λ k. k.now) l.keys) (map seen_value l.values) (map (λ b. b.now) l.features)
