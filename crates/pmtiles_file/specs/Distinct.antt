-- The distinct contents of a writer: where each lies in the spool and in the archive.
use Rattle.std.specs.Prelude.{◌≡◌, ℕ, ◌+◌, ◌^◌, ◌<◌, ◌≤◌, if◌then◌else◌, Option, None, Some, List, [], ◌∷◌, ◌++◌, length, get_or, map, Result, IfOk, IfSome, OnOk}
use Rattle.std.specs.List.{concat, list_any}
use Rattle.std.specs.Str.{bytes_eq}
use Rattle.tb_outside.specs.declared.spill.SpillErr.{SpillErr}
use Rattle.tb_outside.specs.Spill.{SpillSeen, Runs, closed}
use Rattle.pmtiles_dirs.specs.Contents.{with_content, offset_in}
use Rattle.pmtiles_file.specs.declared.stored.Stored.{Stored}
use Rattle.pmtiles_file.specs.Hashes.{hash_of}
use Rattle.pmtiles_file.specs.Spool.{content_in, AllStand, KeepsEnded, SpillCounts, with_run, ran}

-- their hashes, their places, and how long all of them are
pub record DistinctSeen : Type 0 where
  pub hashes : List ℕ
  pub stored : List Stored
  pub end : ℕ

-- a content has bytes, and lies within those of all
pub record IsPlaced (end : ℕ) (s : Stored) : Type 0 where
  pub some : 1 ≤ s.len
  pub len : s.len < 2 ^ 32
  pub within : s.offset + s.len ≤ end

pub record IsDistinct (c : DistinctSeen) (size : ℕ) : Type 0 where
  pub len : length c.stored ≡ length c.hashes
  pub placed : (n : ℕ) (d : Stored) → n < length c.stored → IsPlaced c.end (get_or c.stored n d)
  pub fits : c.end < 2 ^ 64
  pub room : 0 < size

-- these are the contents, and they stand in the ended runs of a spool
pub record Holds (c : DistinctSeen) (ended contents : List (List ℕ)) : Type 0 where
  pub stand : AllStand ended c.stored
  pub are : map (content_in ended) c.stored ≡ contents
  pub hashed : c.hashes ≡ map hash_of contents
  pub places : (n : ℕ) (d : Stored) → n < length c.stored → offset_in contents (content_in ended (get_or c.stored n d)) ≡ (get_or c.stored n d).offset
  pub all : c.end ≡ length (concat contents)

-- the runs after a content is placed: one more, if it isn't among the contents
abbrev pub runs_with : List (List ℕ) → Runs → List ℕ → Runs
runs_with contents runs bytes = if list_any (bytes_eq bytes) contents then runs else with_run runs bytes

-- a content was placed: it is one of the contents, which stand in the runs
pub record HasPlace (new : DistinctSeen) (runs : Option Runs) (after : Runs) (contents : List (List ℕ)) (bytes : List ℕ) (s : Stored) : Type 0 where
  pub told : runs ≡ Some after
  pub holds : Holds new after.ended contents
  pub offset : s.offset ≡ offset_in contents bytes
  pub len : s.len ≡ length bytes

-- where a spool tells its runs, those of all contents stand there, ended and as written
abbrev pub StandIn : Option Runs → List Stored → Type 0
StandIn runs stored = IfSome runs (λ r. AllStand r.ended stored)

-- a content more, behind the others
pub record HasMore (old new : DistinctSeen) (hash count : ℕ) (s : Stored) : Type 0 where
  pub hashed : new.hashes ≡ old.hashes ++ hash ∷ []
  pub more : new.stored ≡ old.stored ++ s ∷ []
  pub offset : s.offset ≡ old.end
  pub len : s.len ≡ count
  pub all : new.end ≡ old.end + count
  pub fits : new.end < 2 ^ 64

-- what storing a content answers
pub record PutAnswers (old new : DistinctSeen) (hash : ℕ) (bytes : List ℕ) (spool after : SpillSeen) (result : Result Stored SpillErr) : Type 0 where
  pub more : IfOk result (HasMore old new hash (length bytes))
  pub number : IfOk result (λ s. IfSome spool.runs (λ runs. s.run ≡ length (closed runs)))
  pub stored : OnOk result (after.runs ≡ ran spool.runs bytes)
  pub kept : KeepsEnded spool.runs after.runs
  pub counts : SpillCounts result spool.faults after.faults
  pub never_falls : spool.faults ≤ after.faults

-- a content that an entry can name
pub record CanBeNamed (s : Stored) : Type 0 where
  pub some : 1 ≤ s.len
  pub len : s.len < 2 ^ 32
  pub fits : s.offset + s.len < 2 ^ 64

-- what placing a content answers
pub record PlaceAnswers (old new : DistinctSeen) (bytes : List ℕ) (spool after : SpillSeen) (result : Result Stored SpillErr) : Type 0 where
  pub named : IfOk result CanBeNamed
  pub told : IfOk result (λ s. (runs : Runs) (contents : List (List ℕ)) → spool.runs ≡ Some runs → Holds old runs.ended contents → HasPlace new after.runs (runs_with contents runs bytes) (with_content contents bytes) bytes s)
  pub stands : OnOk result (StandIn spool.runs old.stored → StandIn after.runs new.stored)
  pub untold : OnOk result (spool.runs ≡ None → after.runs ≡ None)
  pub kept : KeepsEnded spool.runs after.runs
  pub counts : SpillCounts result spool.faults after.faults
  pub never_falls : spool.faults ≤ after.faults
