use Rattle.std.proofs.Common.{◌≡◌, length}
use Rattle.shard_store.specs.PutAll.{Moves, OnlyPuts}
use Rattle.shard_store.proofs.putting.put_buckets.Given as goal

abbrev pub invariant-loop : goal.invariant-loop
invariant-loop g l = (length l.buckets.items ≡ 64) × OnlyPuts l.fn.seat l.seat × Moves l.fn.buckets.items l.buckets.items l.fn.seat.puts l.seat.puts
