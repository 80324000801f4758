-- The runs that a buffer wrote since it was made: just these came to the spill, and with what it holds they are what was added.
use Rattle.std.specs.Prelude.{◌≡◌, ℕ, ◌+◌, ◌<◌, ◌≤◌, ◌⊎◌, Some, List, [], ◌∷◌, ◌++◌, length, map, All}
use Rattle.std.specs.List.Sorted.{IsPermutation}
use Rattle.tb_outside.specs.declared.spill.RunAt.{RunAt}
use Rattle.tb_outside.specs.Spill.{Runs, SpillSeen, closed}
use Rattle.feature_runs.specs.Added.{joined}
use Rattle.feature_runs.specs.Entry.{Entry, Buffered, AreSorted, bytes_of}
use Rattle.feature_runs.specs.Writing.{with_run}

-- the runs after these were written and ended, one behind another
abbrev pub with_runs : List (List ℕ) → Runs → Runs
with_runs [] runs = runs
with_runs (bytes ∷ more) runs = with_runs more (with_run bytes runs)

-- runs of these bytes, listed from this number on
abbrev pub listed_at : ℕ → List (List ℕ) → List RunAt
listed_at number [] = []
listed_at number (bytes ∷ more) = record { run = number; len = length bytes } ∷ listed_at (number + 1) more

-- a run is of some entries, in order of their keys, and not longer than the limit, or of one
pub record IsRun (limit : ℕ) (entries : List Entry) : Type 0 where
  pub some : 0 < length entries
  pub sorted : AreSorted entries
  pub short : (length (bytes_of entries) ≤ limit) ⊎ (length entries ≤ 1)

-- Since the spill told these runs, just those that the buffer lists were ended there; each entry that was added stands in one of
-- them or is held, once.
pub record IsSince (start : Runs) (seen : SpillSeen) (b : Buffered) (added : List Entry) : Type 0 where
  pub lists : List (List Entry)
  pub told : seen.runs ≡ Some (with_runs (map bytes_of lists) start)
  pub listed : b.runs ≡ listed_at (length (closed start)) (map bytes_of lists)
  pub each : All (IsRun b.limit) lists
  pub same : IsPermutation added (joined lists ++ b.entries)

-- a call keeps that, and adds these
abbrev pub KeepsSince : SpillSeen → SpillSeen → Buffered → Buffered → List Entry → Type 0
KeepsSince old new before after more = (start : Runs) (added : List Entry) → IsSince start old before added → IsSince start new after (added ++ more)
