-- Entries that are put shard by shard.
use Rattle.std.specs.Prelude.{◌≡◌, ◌⊎◌, ℕ, ◌==◌, if◌then◌else◌, List, [], ◌∷◌, ◌++◌, slice_index_or}
use Rattle.tb_types.specs.Bags.{IsSameBag}
use Rattle.shard_store.specs.Ids.{shard_number}
use Rattle.shard_store.specs.Join.{Entry}
use Rattle.shard_store.specs.Facts.{SeatFacts, IsOfShard}

module _ {V : Type 0} where
  -- the entries of one shard, in their order
  abbrev pub of_shard : ℕ → List (Entry V) → List (Entry V)
  of_shard k [] = []
  of_shard k (entry ∷ entries) = if shard_number entry.0 == k then entry ∷ of_shard k entries else of_shard k entries

  -- a list of 64 buckets: what lies in the one of a shard
  abbrev pub bucket : ℕ → List (List (Entry V)) → List (Entry V)
  bucket k buckets = slice_index_or buckets k []

  -- Behind what was there, new entries stand: all those that were to be put, each as often, and of each shard in their order.
  pub record PutsAll (old new entries : List (Entry V)) : Type 0 where
    pub added : List (Entry V)
    pub behind : new ≡ old ++ added
    pub each : (k : ℕ) → of_shard k added ≡ of_shard k entries
    pub often : IsSameBag added entries

  -- Behind what was there, new entries stand: of each shard none, or all those that were to be put, in their order.
  pub record PutsSome (old new entries : List (Entry V)) : Type 0 where
    pub added : List (Entry V)
    pub behind : new ≡ old ++ added
    pub each : (k : ℕ) → (of_shard k added ≡ []) ⊎ (of_shard k added ≡ of_shard k entries)

  -- Buckets are emptied: each stays as it was and nothing of its shard was put, or it is empty and all that lay in it was put.
  pub record Moves (before after : List (List (Entry V))) (old new : List (Entry V)) : Type 0 where
    pub added : List (Entry V)
    pub behind : new ≡ old ++ added
    pub each : (k : ℕ) → ((of_shard k added ≡ []) × (bucket k after ≡ bucket k before)) ⊎ ((of_shard k added ≡ bucket k before) × (bucket k after ≡ []))

  -- each bucket has entries of its own shard
  abbrev pub AreSorted : List (List (Entry V)) → Type 0
  AreSorted buckets = (k : ℕ) → IsOfShard k (bucket k buckets)

  -- the seat put entries, and perhaps found turns taken; nothing else of it changed
  abbrev pub OnlyPuts : SeatFacts V → SeatFacts V → Type 0
  OnlyPuts old new = new ≡ record old { found_taken = new.found_taken; puts = new.puts }
