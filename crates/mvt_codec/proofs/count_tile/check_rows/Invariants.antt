use Rattle.std.proofs.Common.{◌≡◌, is_some, drop, map}
use Rattle.mvt_codec.specs.Grammar.{rows_in}
use Rattle.mvt_codec.specs.Reading.{seen_value}
use Rattle.mvt_codec.proofs.count_tile.check_rows.Given as goal

-- the features that are left are rows where all are
abbrev pub invariant-loop-feature : goal.invariant-loop-feature
invariant-loop-feature l =
    is_some (rows_in (map (λ k. k.now) l.keys) (map seen_value l.values) (map (λ b. b.now) (drop l.feature-index l.features)))
    ≡ is_some (rows_in (map (λ k. k.now) l.keys) (map seen_value l.values) (map (λ b. b.now) l.features))
