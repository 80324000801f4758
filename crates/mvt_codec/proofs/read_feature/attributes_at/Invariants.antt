use Rattle.std.proofs.Common.{◌≡◌, ◌-◌, ◌≤◌, length, drop, map}
use Rattle.mvt_codec.specs.Grammar.{attributes_at}
use Rattle.mvt_codec.specs.Reading.{with_list, seen_value}
use Rattle.mvt_codec.proofs.read_feature.attributes_at.Given as goal

-- the attributes so far, and those of the tags that are left, are all
abbrev pub invariant-loop-at : goal.invariant-loop-at
invariant-loop-at l = record {
  within : l.at ≤ length l.tags;
  told : with_list l.attributes.items (attributes_at (map (λ k. k.now) l.keys) (map seen_value l.values) (drop l.at l.tags)) ≡ attributes_at (map (λ k. k.now) l.keys) (map seen_value l.values) l.tags;
}

abbrev pub decreases-loop-at : goal.decreases-loop-at
decreases-loop-at l = length l.tags - l.at
