-- The rule of the shards: a shard whose turn is free holds the join of all that was put to it.
use Rattle.std.specs.Prelude.{◌≡◌, ◌≢◌, ◌⊎◌, ℕ, ◌+◌, ◌<◌, ◌==◌, if◌then◌else◌, Option, Some, None, List, [], ◌∷◌, ◌++◌, length, drop, slice_index}
use mathlib.Core.Option.{some}
use lib.ListN.{get_elem?}
use Rattle.atomic_table.specs.Table.{State, Me, Step, rest}
use Rattle.tb_types.specs.Seats as seats
use Rattle.tb_types.specs.Seats.{SeatCount, AreSeats}
use Rattle.tb_types.specs.declared.element.OsmId.{OsmId}
use Rattle.shard_store.specs.Ids.{shard_number}
use Rattle.shard_store.specs.Join.{Entry, join, join_all}
use Rattle.shard_store.specs.declared.rule.View.{View}

module _ {V : Type 0} where
  -- what the view has of the count of seats
  abbrev pub count_of : View V → SeatCount
  count_of v = record { first = v.first; live = v.live; out = v.out }

  -- a view of this count whose seat has done nothing
  abbrev pub idle : SeatCount → View V
  idle count = record { first = count.first; live = count.live; out = count.out; found_taken = 0; hold = None; puts = [] }

  -- the first seat of a table
  abbrev pub opener : View V
  opener = idle seats.opener

  -- a seat that took a turn, with what lies in the shard, and one that found the turn taken
  abbrev pub taker : View V → ℕ → List (Entry V) → View V
  taker v shard content = record v { hold = Some (shard, content) }

  abbrev pub misser : View V → View V
  misser v = record v { found_taken = v.found_taken + 1 }

  -- a seat that gave its turn back, and had put these entries
  abbrev pub giver : View V → List (Entry V) → View V
  giver v more = record v { hold = None; puts = v.puts ++ more }

  -- what stands in a slot behind what lay there when the turn was taken
  abbrev pub behind : Option (ℕ × List (Entry V)) → List (ℕ × List (Entry V)) → List (Entry V)
  behind None slots = []
  behind (Some held) [] = []
  behind (Some held) (slot ∷ slots) = drop (length held.1) slot.1

  abbrev pub added : Me (List (Entry V)) (View V) → List (Entry V)
  added me = behind me.0.hold me.1

  -- the first seat after a split, and the new one
  abbrev pub kept_by : View V → View V
  kept_by v = record v { out = (seats.kept_by (count_of v)).out }

  abbrev pub given_by : View V → View V
  given_by v = idle seats.given

  -- the first seat that took in another one, and what is left of that
  abbrev pub gathered : View V → View V → View V
  gathered v w = record v { out = (seats.joined (count_of v)).out; found_taken = v.found_taken + w.found_taken; puts = v.puts ++ w.puts }

  abbrev pub spent : View V
  spent = idle seats.spent

  module _ (both : V → V → V) where
    -- the join of all that all seats put under an id
    abbrev pub put_by_all : List (View V) → OsmId → Option V
    put_by_all [] id = None
    put_by_all (v ∷ vs) id = join both (join_all both v.puts id) (put_by_all vs id)

    -- these are the entries of a shard: under each of its ids the join of all puts, and nothing under any other id
    abbrev pub IsContent : ℕ → List (View V) → List (Entry V) → Type 0
    IsContent shard vs content = (id : OsmId) → join_all both content id ≡ (if shard_number id == shard then put_by_all vs id else None)

    -- what holds of each seat: who has a turn knows what lay in the shard
    pub record IsSound (s : State (List (Entry V)) (View V)) (owner : ℕ → ℕ) (i : ℕ) (v : View V) : Type 0 where
      pub over : v.live ≡ 0 → (v.puts ≡ []) × (v.hold ≡ None)
      pub holds : (k : ℕ) (content : List (Entry V)) → v.hold ≡ Some (k, content) → (k < 64) × (owner k ≡ i) × (slice_index s.words k ≡ 1) × IsContent k s.views content

    -- The rule. A word is a turn: 0 where it is free, 1 where a seat has it, and with it the slot.
    pub record IsKept (s : State (List (Entry V)) (View V)) : Type 0 where
      pub owner : ℕ → ℕ
      pub words : length s.words ≡ 64
      pub homes : length s.homes ≡ 64
      pub seats : AreSeats count_of s.views
      pub free : (k : ℕ) → k < 64 → slice_index s.words k ≡ 0 → (content : List (Entry V)) × (get_elem? s.homes k ≡ some (some content)) × IsContent k s.views content
      pub taken : (k : ℕ) → k < 64 → (slice_index s.words k ≡ 0) ⊎ ((i : ℕ) × (v : View V) × (content : List (Entry V)) × (get_elem? s.views i ≡ some v) × (v.hold ≡ Some (k, content)))
      pub each : (i : ℕ) (v : View V) → get_elem? s.views i ≡ some v → IsSound s owner i v

  -- the turn was free and is taken, with the slot; or it was taken already, and nothing changed but the count
  abbrev pub Taken : Step (List (Entry V)) → Me (List (Entry V)) (View V) → ℕ → Me (List (Entry V)) (View V) → Type 0
  Taken step before found after =
      (found ≡ 0 → (content : List (Entry V)) × (after ≡ (taker before.0 step.word content, (step.word, content) ∷ before.1)))
      × (found ≢ 0 → after ≡ (misser before.0, before.1))

  -- the turn is given back with the slot: what was added to that is what the seat put
  abbrev pub Given : Step (List (Entry V)) → Me (List (Entry V)) (View V) → ℕ → Me (List (Entry V)) (View V) → Type 0
  Given step before found after = after ≡ (giver before.0 (added before), rest before.1)
