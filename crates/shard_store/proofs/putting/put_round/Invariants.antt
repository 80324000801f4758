use Rattle.std.proofs.Common.{◌≡◌, ◌<◌, ◌-◌, ◌≤◌, ℕ, true, [], length}
use Rattle.shard_store.specs.PutAll.{Moves, OnlyPuts, bucket}
use Rattle.shard_store.proofs.putting.put_round.Given as goal

abbrev pub invariant-loop-shard : goal.invariant-loop-shard
invariant-loop-shard g l =
    (l.shard ≤ 64) × (length l.buckets.items ≡ 64) × OnlyPuts l.fn.seat l.seat × Moves l.fn.buckets.items l.buckets.items l.fn.seat.puts l.seat.puts × (l.all ≡ true → (k : ℕ) → k < l.shard → bucket k l.buckets.items ≡ [])

abbrev pub decreases-loop-shard : goal.decreases-loop-shard
decreases-loop-shard g l = 64 - l.shard
