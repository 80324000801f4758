-- How a put is refused.
use Rattle.std.specs.Prelude.{◌≡◌, ◌+◌, Result, Ok, Err, List, ⊤}
use Rattle.shard_store.specs.Join.{Entry}
use Rattle.shard_store.specs.Facts.{SeatFacts}
use Rattle.shard_store.specs.declared.shards.PutErr.{PutErr}
use Rattle.shard_store.specs.declared.shards.PutErr.TheVariants as refusals

module _ {V : Type 0} where
  -- The entries come back. The seat put nothing; it counts a turn that was taken, and that alone.
  abbrev pub IsRefusal : Result (Unit {0}) (PutErr V) → List (Entry V) → SeatFacts V → SeatFacts V → Type 0
  IsRefusal (Ok x) entries old new = ⊤
  IsRefusal (Err (refusals.Again back)) entries old new = (back.items ≡ entries) × (new ≡ record old { found_taken = old.found_taken + 1 })
  IsRefusal (Err (refusals.Memory back)) entries old new = (back.items ≡ entries) × (new ≡ old)
