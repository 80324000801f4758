-- What was added to a buffer stands in the runs that it listed, or is held.
use Rattle.std.specs.Prelude.{◌≡◌, ℕ, ◌<◌, ◌≤◌, ◌⊎◌, Some, List, [], ◌∷◌, ◌++◌, length, flat_map, slice_index_or, ⊤}
use Rattle.std.specs.List.Sorted.{IsPermutation}
use Rattle.tb_outside.specs.declared.spill.RunAt.{RunAt}
use Rattle.tb_outside.specs.Spill.{Runs, SpillSeen}
use Rattle.feature_runs.specs.Entry.{Entry, Buffered, AreSorted, bytes_of}

-- a run stands among the ended runs of a spill, has the listed length, and is of these entries, in order: not longer than the limit, or one
pub record IsListed (limit : ℕ) (ended : List (List ℕ)) (run : RunAt) (entries : List Entry) : Type 0 where
  pub stands : run.run < length ended
  pub bytes : slice_index_or ended run.run [] ≡ bytes_of entries
  pub len : run.len ≡ length (bytes_of entries)
  pub sorted : AreSorted entries
  pub short : (length (bytes_of entries) ≤ limit) ⊎ (length entries ≤ 1)

-- each run is of the entries in its place
abbrev pub AreListed : ℕ → List (List ℕ) → List RunAt → List (List Entry) → Type 0
AreListed limit ended [] [] = ⊤
AreListed limit ended [] (entries ∷ lists) = ⊥
AreListed limit ended (run ∷ runs) [] = ⊥
AreListed limit ended (run ∷ runs) (entries ∷ lists) = IsListed limit ended run entries × AreListed limit ended runs lists

abbrev pub joined : List (List Entry) → List Entry
joined lists = flat_map (λ entries. entries) lists

-- these entries were added: the listed runs and the buffer have each of them once
pub record WereAdded (b : Buffered) (ended : List (List ℕ)) (added : List Entry) : Type 0 where
  pub lists : List (List Entry)
  pub listed : AreListed b.limit ended b.runs lists
  pub same : IsPermutation added (joined lists ++ b.entries)

pub record AreThere (b : Buffered) (seen : SpillSeen) (added : List Entry) : Type 0 where
  pub runs : Runs
  pub told : seen.runs ≡ Some runs
  pub added_are : WereAdded b runs.ended added

-- where a spill tells its runs, a call leaves what was added before, and adds these
abbrev pub KeepsAdded : SpillSeen → SpillSeen → Buffered → Buffered → List Entry → Type 0
KeepsAdded old new before after more = (runs : Runs) (added : List Entry) → old.runs ≡ Some runs → WereAdded before runs.ended added → AreThere after new (added ++ more)

-- runs that are ended behind those of a buffer change nothing
abbrev pub RunsBehindChangeNothing : Type 0
RunsBehindChangeNothing = (b : Buffered) (ended more : List (List ℕ)) (added : List Entry) → WereAdded b ended added → WereAdded b (ended ++ more) added
