-- What contracts see of a table of shards and of its seats.
use Rattle.std.specs.Prelude.{◌≡◌, ℕ, Bool, true, List, All}
use Rattle.atomic_table.specs.Seated.{TableId}
use Rattle.shard_store.specs.Ids.{shard_number}
use Rattle.shard_store.specs.Join.{Entry}

-- which table it is
pub record ShardsFacts : Type 0 where
  pub place : TableId

-- A seat: its table; whether it is the first one, which counts the seats that are out; how often a step of it found a turn taken; and the entries
-- that it put, in the order in which it put them.
pub record SeatFacts (V : Type 0) : Type 0 where
  pub place : TableId
  pub first : Bool
  pub out : ℕ
  pub found_taken : ℕ
  pub puts : List (Entry V)

-- the seat is of this table
abbrev pub IsSeatOf : {V : Type 0} → ShardsFacts → SeatFacts V → Type 0
IsSeatOf shards seat = seat.place ≡ shards.place

-- all seats are joined into this one: none is out
abbrev pub IsWhole : {V : Type 0} → SeatFacts V → Type 0
IsWhole seat = (seat.first ≡ true) × (seat.out ≡ 0)

-- all entries belong to one shard
abbrev pub IsOfShard : {V : Type 0} → ℕ → List (Entry V) → Type 0
IsOfShard shard entries = All (λ entry. shard_number entry.0 ≡ shard) entries
