-- What a contract sees of a writer, and of the tiles that were added to it.
use Rattle.std.specs.Prelude.{◌≡◌, ℕ, ◌+◌, ◌≤◌, Option, None, Some, List, [], ◌∷◌, ◌++◌, length, Result, OnOk, ⊤}
use Rattle.tb_outside.specs.declared.spill.SpillErr.{SpillErr}
use Rattle.tb_outside.specs.Spill.{SpillSeen, Runs}
use Rattle.pmtiles_dirs.specs.declared.entry.DirEntry.{DirEntry}
use Rattle.pmtiles_dirs.specs.declared.meta.Meta.{Meta}
use Rattle.pmtiles_dirs.specs.Contents.{Tile, AreTiles, contents_of, entries_of}
use Rattle.pmtiles_file.specs.Spool.{KeepsEnded, SpillCounts}
use Rattle.pmtiles_file.specs.Distinct.{DistinctSeen, Holds, runs_with, StandIn}
use Rattle.pmtiles_file.specs.Listed.{next_behind}

-- a writer: what it says of its map, its distinct contents, its entries, and how many tiles they name
pub record WriterSeen : Type 0 where
  pub meta : Meta
  pub contents : DistinctSeen
  pub entries : List DirEntry
  pub tiles : ℕ

-- the least id that the next tile may have
abbrev pub next_id : WriterSeen → ℕ
next_id w = next_behind 0 w.entries

-- where a spool tells its runs, those that the writer wrote stand there, ended and as written
abbrev pub RunsStand : WriterSeen → Option Runs → Type 0
RunsStand w runs = StandIn runs w.contents.stored

-- these tiles were added: their contents stand in the ended runs of a spool
pub record Wrote (w : WriterSeen) (ended : List (List ℕ)) (tiles : List Tile) : Type 0 where
  pub holds : Holds w.contents ended (contents_of tiles)
  pub entries_are : w.entries ≡ entries_of tiles
  pub count : w.tiles ≡ length tiles
  pub are : AreTiles 0 tiles

-- the tiles were added, and the runs are told
pub record HasAdded (w : WriterSeen) (runs : Option Runs) (after : Runs) (tiles : List Tile) : Type 0 where
  pub told : runs ≡ Some after
  pub wrote : Wrote w after.ended tiles

-- what adding a tile answers
pub record AddAnswers (old new : WriterSeen) (id : ℕ) (bytes : List ℕ) (spool after : SpillSeen) (result : Result ⊤ SpillErr) : Type 0 where
  pub next : OnOk result (next_id new ≡ id + 1)
  pub meta : new.meta ≡ old.meta
  pub added : OnOk result ((runs : Runs) (tiles : List Tile) → spool.runs ≡ Some runs → Wrote old runs.ended tiles
      → HasAdded new after.runs (runs_with (contents_of tiles) runs bytes) (tiles ++ record { id = id; bytes = bytes } ∷ []))
  pub stands : OnOk result (RunsStand new after.runs)
  pub untold : OnOk result (spool.runs ≡ None → after.runs ≡ None)
  pub kept : KeepsEnded spool.runs after.runs
  pub counts : SpillCounts result spool.faults after.faults
  pub never_falls : spool.faults ≤ after.faults

-- runs that come behind those of a writer change nothing
abbrev pub RunsBehindChangeNothing : Type 0
RunsBehindChangeNothing = (w : WriterSeen) (ended more : List (List ℕ)) (tiles : List Tile) → Wrote w ended tiles → Wrote w (ended ++ more) tiles
