use Rattle.std.proofs.Common.{◌≡◌, ℕ, ◌<◌, Option, length, get_or}
use Rattle.ring_assembly.specs.Nesting.{outer_of}
use Rattle.ring_assembly.proofs.polygon.outers.Given as goal

abbrev pub invariant-loop-inner : goal.invariant-loop-inner
invariant-loop-inner l = record {
  count : length l.outers.items ≡ l.inner;
  each : (k : ℕ) (d : Option ℕ) → k < l.inner → get_or l.outers.items k d ≡ outer_of l.rings k;
}
