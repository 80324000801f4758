use Rattle.std.proofs.Common.{◌≡◌, ◌-◌, ◌≤◌, length, drop}
use Rattle.mvt_codec.specs.Counting.{are_tags}
use Rattle.mvt_codec.proofs.count_tile.are_tags.Given as goal

abbrev pub invariant-loop-at : goal.invariant-loop-at
invariant-loop-at l = record {
  within : l.at ≤ length l.tags;
  told : are_tags l.keys l.values (drop l.at l.tags) ≡ are_tags l.keys l.values l.tags;
}

abbrev pub decreases-loop-at : goal.decreases-loop-at
decreases-loop-at l = length l.tags - l.at
