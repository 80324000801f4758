use Rattle.std.proofs.Common.{◌≡◌, ℕ, ◌<◌, ◌≤◌, length, slice_index}
use Rattle.ring_assembly.proofs.unused.indexes.Given as goal

abbrev pub invariant-loop-index : goal.invariant-loop-index
invariant-loop-index l = record {
  count : length l.indexes.items ≡ l.index;
  below : (s : ℕ) → slice_index l.indexes.items s ≤ s;
  each : (s : ℕ) → s < l.index → s ≤ slice_index l.indexes.items s;
}
