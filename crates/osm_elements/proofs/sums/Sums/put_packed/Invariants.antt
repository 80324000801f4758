use Rattle.std.proofs.Common.{◌≡◌, ◌-◌, ◌≤◌, ℕ, List, ◌++◌, length}
use Rattle.tb_wire.specs.Items.{with_prefix}
use Rattle.tb_wire.specs.Message.{packed, packed_at}
use Rattle.osm_elements.specs.Sums.{IsSummed}
use Rattle.osm_elements.proofs.sums.Sums.put_packed.Given as goal

abbrev pub invariant-loop-at : goal.invariant-loop-at
invariant-loop-at g l = record {
  within : l.at ≤ length l.bytes;
  told : (more : List ℕ) × (with_prefix more (packed_at l.bytes l.at) ≡ packed l.bytes) × ((differences : List ℕ) → IsSummed g.T.Summed.made differences l.fn.self → IsSummed g.T.Summed.made (differences ++ more) l.self);
}

abbrev pub decreases-loop-at : goal.decreases-loop-at
decreases-loop-at g l = length l.bytes - l.at
