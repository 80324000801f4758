-- What the calls of a run buffer do to it and to its spill.
use Rattle.std.specs.Prelude.{◌≡◌, ℕ, ◌+◌, ◌-◌, ◌^◌, min, ◌<◌, ◌≤◌, ◌⊎◌, Bool, true, false, Option, None, Some, IfSome, List, [], ◌∷◌, ◌++◌, length, Result, Ok, Err, OnOk, ⊤}
use Rattle.std.specs.Option.{option_map}
use Rattle.tb_types.specs.Counts.{Rose}
use Rattle.tb_outside.specs.declared.spill.RunAt.{RunAt}
use Rattle.tb_outside.specs.declared.spill.SpillErr.{SpillErr}
use Rattle.tb_outside.specs.declared.spill.SpillErr.TheVariants as spill_errors
use Rattle.tb_outside.specs.Spill.{Runs, SpillSeen, closed}
use Rattle.std.specs.List.Sorted.{IsPermutation}
use Rattle.feature_runs.specs.Entry.{Entry, Buffered, IsInOrder, bytes_of, entry_of}

-- the places of a buffer are numbers of 32 bits
abbrev pub most_bytes : ℕ
most_bytes = 2 ^ 32 - 1

-- the runs after one more was written and ended
abbrev pub with_run : List ℕ → Runs → Runs
with_run bytes runs = record { ended = closed runs ++ bytes ∷ []; begun = None }

-- the ended runs are those of before, and maybe more
abbrev pub KeepsEnded : Option Runs → Option Runs → Type 0
KeepsEnded None new = new ≡ None
KeepsEnded (Some old) None = ⊥
KeepsEnded (Some old) (Some new) = (more : List (List ℕ)) × (new.ended ≡ old.ended ++ more)

-- a run with these bytes was written, and is listed with its number and its length
pub record Writes (old new : Option Runs) (bytes : List ℕ) (run : RunAt) : Type 0 where
  pub runs : new ≡ option_map (with_run bytes) old
  pub number : IfSome old (λ runs. run.run ≡ length (closed runs))
  pub len : run.len ≡ length bytes

-- what every call does to the counts and the ended runs of the spill
pub record Frames {A : Type 0} (old new : SpillSeen) (result : Result A SpillErr) : Type 0 where
  pub kept : KeepsEnded old.runs new.runs
  pub ok : OnOk result (new.faults ≡ old.faults)
  pub memory : result ≡ Err spill_errors.Memory → new.faults ≡ old.faults
  pub failed : result ≡ Err spill_errors.Failed → Rose old.faults new.faults
  pub never_falls : old.faults ≤ new.faults

-- something was held, and was written as one more run, in order of its keys
pub record IsWritten (old new : SpillSeen) (before after : Buffered) : Type 0 where
  pub some : 0 < length before.entries
  pub sorted : List Entry
  pub run : RunAt
  pub order : IsInOrder before.entries sorted
  pub writes : Writes old.runs new.runs (bytes_of sorted) run
  -- a run is at most as long as the limit, or is one item
  pub limit : (length (bytes_of sorted) ≤ before.limit) ⊎ (length sorted ≤ 1)
  pub buffer : after ≡ record { limit = before.limit; runs = before.runs ++ run ∷ []; entries = [] }

-- where nothing was held, nothing changes, and else it is written
abbrev pub Flushes : SpillSeen → SpillSeen → Buffered → Buffered → Type 0
Flushes old new before after = ((before.entries ≡ []) × (new ≡ old) × (after ≡ before)) ⊎ IsWritten old new before after

-- it holds the same, in any order, and lists the same runs
pub record IsSameBuffer (before after : Buffered) : Type 0 where
  pub limit : after.limit ≡ before.limit
  pub runs : after.runs ≡ before.runs
  pub entries : IsPermutation before.entries after.entries

-- one more is held, beside what was held before or after it was written
abbrev pub Holds : Buffered → Buffered → Entry → Type 0
Holds before after entry = after ≡ record { limit = before.limit; runs = before.runs; entries = before.entries ++ entry ∷ [] }

-- something is held, and with one more it would be longer than a run may be
abbrev pub IsFull : Buffered → Entry → Type 0
IsFull before entry = (0 < length before.entries) × (min before.limit most_bytes < length (bytes_of before.entries) + length entry.text)

-- an item was held, or doesn't fit beside what is held
abbrev pub IfHeld : Bool → Buffered → Buffered → Entry → Type 0
IfHeld true before after entry = Holds before after entry
IfHeld false before after entry = (after ≡ before) × IsFull before entry

-- an item is held behind what was held, or, where it didn't fit, alone, after what was held was written
abbrev pub Adds : SpillSeen → SpillSeen → Buffered → Buffered → Entry → Type 0
Adds old new before after entry = ((new ≡ old) × Holds before after entry) ⊎ ((middle : Buffered) × IsFull before entry × IsWritten old new before middle × Holds middle after entry)

-- where memory is wanting, the item isn't added: what was held is still held, or was written
abbrev pub StaysOrWrites : SpillSeen → SpillSeen → Buffered → Buffered → Type 0
StaysOrWrites old new before after = IsSameBuffer before after ⊎ IsWritten old new before after
