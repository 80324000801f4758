use Rattle.std.proofs.Common.{◌≡◌, ◌++◌, ℕ, length}
use Rattle.shard_store.specs.PutAll.{bucket, of_shard}
use Rattle.shard_store.proofs.putting.by_shard.Given as goal

abbrev pub invariant-loop-entry : goal.invariant-loop-entry
invariant-loop-entry g l =
    (length l.buckets.items ≡ 64) × (l.fn.entries.items ≡ l.yielded ++ l.entry-iterator.rest.items) × ((k : ℕ) → bucket k l.buckets.items ≡ of_shard k l.yielded)
