-- What a contract sees of a spill and its runs.
use Rattle.std.specs.Prelude.{◌≡◌, ℕ, ◌+◌, ◌≤◌, Bool, true, false, Option, None, Some, IfSome, List, [], ◌++◌, length, ◌⊎◌, slice_index_or, slice_range, option_to_list, Result, Ok, Err, IfOk, OnOk, OnErr, ⊤}
use Rattle.std.specs.Option.{option_map}
use Rattle.tb_types.specs.Counts.{Rose}
use Rattle.tb_outside.specs.declared.failed.Failed.{Failed}
use Rattle.tb_outside.specs.declared.spill.SpillErr.{SpillErr}
use Rattle.tb_outside.specs.declared.spill.SpillErr.TheVariants as spill_errors

-- the runs that are ended, and the one that is begun
pub record Runs : Type 0 where
  pub ended : List (List ℕ)
  pub begun : Option (List ℕ)

-- the runs, where the spill tells them; its count of faults
pub record SpillSeen : Type 0 where
  pub runs : Option Runs
  pub faults : ℕ

-- all runs, with the begun one ended as it stands
abbrev pub closed : Runs → List (List ℕ)
closed runs = runs.ended ++ option_to_list runs.begun

-- the runs after a new one is begun
abbrev pub with_begun : Runs → Runs
with_begun runs = record { ended = closed runs; begun = Some [] }

-- the runs after the begun one is ended
abbrev pub with_ended : Runs → Runs
with_ended runs = record { ended = closed runs; begun = None }

-- the runs after more bytes for the begun one
abbrev pub with_bytes : Runs → List ℕ → Runs
with_bytes runs more = record { ended = runs.ended; begun = option_map (λ bytes. bytes ++ more) runs.begun }

-- told runs grow by a prefix of the piece
abbrev pub RunsGrowByPrefix : Option Runs → Option Runs → List ℕ → Type 0
RunsGrowByPrefix old new piece = (prefix rest : List ℕ) × (piece ≡ prefix ++ rest) × (new ≡ option_map (λ runs. with_bytes runs prefix) old)

-- told runs stay, or the begun one is ended
abbrev pub StaysOrEnds : Option Runs → Option Runs → Type 0
StaysOrEnds old new = (new ≡ old) ⊎ (new ≡ option_map with_ended old)

-- it failed, and memory wasn't wanting
abbrev pub is_failed : {A : Type 0} → Result A SpillErr → Bool
is_failed (Ok x) = false
is_failed (Err spill_errors.Failed) = true
is_failed (Err spill_errors.Memory) = false

pub record BeginAnswers (old new : SpillSeen) (result : Result ℕ SpillErr) : Type 0 where
  pub number : IfOk result (λ n. IfSome old.runs (λ runs. n ≡ length (closed runs)))
  pub begun : OnOk result (new.runs ≡ option_map with_begun old.runs)
  pub failed_runs : result ≡ Err spill_errors.Failed → StaysOrEnds old.runs new.runs
  pub failed : result ≡ Err spill_errors.Failed → Rose old.faults new.faults
  pub ok : OnOk result (new.faults ≡ old.faults)
  pub memory : result ≡ Err spill_errors.Memory → new ≡ old
  pub never_falls : old.faults ≤ new.faults

pub record AppendAnswers (old new : SpillSeen) (piece : List ℕ) (result : Result ⊤ SpillErr) : Type 0 where
  pub appended : OnOk result (new.runs ≡ option_map (λ runs. with_bytes runs piece) old.runs)
  pub failed_runs : result ≡ Err spill_errors.Failed → RunsGrowByPrefix old.runs new.runs piece
  pub failed : result ≡ Err spill_errors.Failed → Rose old.faults new.faults
  pub ok : OnOk result (new.faults ≡ old.faults)
  pub memory : result ≡ Err spill_errors.Memory → new ≡ old
  pub never_falls : old.faults ≤ new.faults

pub record EndAnswers (old new : SpillSeen) (result : Result ℕ Failed) : Type 0 where
  pub len : IfOk result (λ n. IfSome old.runs (λ runs. IfSome runs.begun (λ bytes. n ≡ length bytes)))
  pub ended : OnOk result (new.runs ≡ option_map with_ended old.runs)
  pub failed_runs : OnErr result (new.runs ≡ old.runs)
  pub ok : OnOk result (new.faults ≡ old.faults)
  pub err : OnErr result (Rose old.faults new.faults)
  pub never_falls : old.faults ≤ new.faults

pub record ReadAnswers (old new : SpillSeen) (run at : ℕ) (out : List ℕ) (result : Result ⊤ Failed) : Type 0 where
  pub value : OnOk result (IfSome old.runs (λ runs. out ≡ slice_range (slice_index_or runs.ended run []) at (at + length out)))
  pub runs : new.runs ≡ old.runs
  pub ok : OnOk result (new.faults ≡ old.faults)
  pub err : OnErr result (Rose old.faults new.faults)
  pub never_falls : old.faults ≤ new.faults
