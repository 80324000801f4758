-- Contents in runs of a spool.
use Rattle.std.specs.Prelude.{◌≡◌, ℕ, ◌+◌, ◌<◌, ◌≤◌, ◌≢◌, Option, None, Some, List, [], ◌++◌, length, get_or, slice_index_or, map, ◌∷◌, Result, Ok, Err, IfOk, IfSome, OnOk}
use Rattle.std.specs.Str.{bytes_eq}
use Rattle.tb_types.specs.Counts.{Rose}
use Rattle.tb_outside.specs.declared.failed.Failed.{Failed}
use Rattle.tb_outside.specs.declared.spill.SpillErr.{SpillErr}
use Rattle.tb_outside.specs.declared.spill.SpillErr.TheVariants as spill_errors
use Rattle.tb_outside.specs.Spill.{SpillSeen, Runs, closed}
use Rattle.pmtiles_file.specs.declared.stored.Stored.{Stored}

-- the bytes of a stored content
abbrev pub content_in : List (List ℕ) → Stored → List ℕ
content_in ended s = slice_index_or ended s.run []

-- the content stands in its run, ended and as written
abbrev pub Stands : List (List ℕ) → Stored → Type 0
Stands ended s = (s.run < length ended) × (length (content_in ended s) ≡ s.len)

abbrev pub AllStand : List (List ℕ) → List Stored → Type 0
AllStand ended stored = (n : ℕ) (d : Stored) → n < length stored → Stands ended (get_or stored n d)

-- what reading a spool does to it
abbrev pub CountsFor : {A E : Type 0} → Result A E → ℕ → ℕ → Type 0
CountsFor (Ok x) old new = new ≡ old
CountsFor (Err e) old new = Rose old new

pub record Reads {A : Type 0} (old new : SpillSeen) (result : Result A Failed) : Type 0 where
  pub runs : new.runs ≡ old.runs
  pub counts : CountsFor result old.faults new.faults
  pub never_falls : old.faults ≤ new.faults

-- the number of a content with these bytes, or none where no content of this hash has them
abbrev pub Finds : List (List ℕ) → List ℕ → List Stored → ℕ → List ℕ → Option ℕ → Type 0
Finds ended hashes stored hash bytes None = (n : ℕ) (d : Stored) → n < length stored → get_or hashes n 0 ≡ hash → bytes ≢ content_in ended (get_or stored n d)
Finds ended hashes stored hash bytes (Some n) = (n < length stored) × ((d : Stored) → bytes ≡ content_in ended (get_or stored n d))

-- The runs are told, and those that were ended before stay as they were, whatever comes behind them.
abbrev pub HasKept : Runs → Option Runs → Type 0
HasKept before None = ⊥
HasKept before (Some after) = (more : List (List ℕ)) × (after.ended ≡ before.ended ++ more)

abbrev pub KeepsEnded : Option Runs → Option Runs → Type 0
KeepsEnded old new = (before : Runs) → old ≡ Some before → HasKept before new

-- the runs after one more is written and ended
abbrev pub with_run : Runs → List ℕ → Runs
with_run runs bytes = record { ended = closed runs ++ bytes ∷ []; begun = None }

abbrev pub ran : Option Runs → List ℕ → Option Runs
ran None bytes = None
ran (Some runs) bytes = Some (with_run runs bytes)

-- a count rose where a spill failed, and else stays
abbrev pub SpillCounts : {A : Type 0} → Result A SpillErr → ℕ → ℕ → Type 0
SpillCounts (Ok x) old new = new ≡ old
SpillCounts (Err spill_errors.Failed) old new = Rose old new
SpillCounts (Err spill_errors.Memory) old new = new ≡ old

-- what storing bytes as one run does
pub record StoreAnswers (old new : SpillSeen) (bytes : List ℕ) (result : Result ℕ SpillErr) : Type 0 where
  pub number : IfOk result (λ run. IfSome old.runs (λ runs. run ≡ length (closed runs)))
  pub stored : OnOk result (new.runs ≡ ran old.runs bytes)
  pub kept : KeepsEnded old.runs new.runs
  pub counts : SpillCounts result old.faults new.faults
  pub never_falls : old.faults ≤ new.faults
