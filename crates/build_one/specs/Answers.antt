-- What a build's answer says, and what it leaves of the objects that it uses, on any number of lanes.
use Rattle.std.specs.Prelude.{◌≡◌, ◌⊎◌, ℕ, ◌<◌, ◌≤◌, Option, Some, None, IfSome, option_map, Result, Ok, Err, List, [], ◌∷◌, length, map, flat_map, All, ⊤}
use Rattle.std.specs.List.Sorted.{IsPermutation}
use Rattle.tb_outside.specs.Sink.{SinkSeen, with_more, GrowsByPrefix}
use Rattle.tb_outside.specs.Spill.{Runs, SpillSeen}
use Rattle.profile_rules.specs.declared.parts.Parts.{Parts}
use Rattle.profile_rules.specs.Faults.{Fault}
use Rattle.mvt_codec.specs.declared.item.RunItem.{RunItem}
use Rattle.mvt_codec.specs.Grammar.{tile_of}
use Rattle.mvt_codec.specs.Groups.{layers_of}
use Rattle.mvt_codec.specs.Items.{items_bytes}
use Rattle.feature_runs.specs.Since.{with_runs}
use Rattle.run_merge.specs.Items.{AreInOrder}
use Rattle.tile_model.specs.declared.from.ProfileFrom.{ProfileFrom}
use Rattle.tile_model.specs.declared.stop.Stop.{Stop}
use Rattle.tile_model.specs.declared.stop.Stop.TheVariants as stops
use Rattle.pmtiles_dirs.specs.Back.{read_back}
use Rattle.pmtiles_dirs.specs.Contents.{Tile}
use Rattle.pmtiles_dirs.specs.declared.totals.Totals.{Totals}
use Rattle.pmtiles_file.specs.Spool.{KeepsEnded}
use Rattle.tile_model.specs.Loads.{AreLoaded}
use Rattle.tile_model.specs.Needs.{run_limit}
use Rattle.tile_model.specs.Objects.{extract_in, reading, spilling, writing, Objects, CountsStay, NoneRose, NoneFell, LeastRose, TellTheSame, runs_told, all_told}
use Rattle.tile_model.specs.Stops.{Cause, contents, items, count, altered, changed, memory, cause_of, stage_of}
use Rattle.tile_model.specs.Due.{Due, Built, items_of, due_in, parts_from}
use Rattle.tile_model.specs.From.{IsAlone}

-- an archive is due, and P holds of it
abbrev pub OnBuilt : Due → (Built → Type 0) → Type 0
OnBuilt (Ok built) P = P built
OnBuilt (Err stop) P = ⊥

-- an archive may be written: one is due, or a tile that needs too much, which is known of the items alone
abbrev pub MayBuild : Due → Type 0
MayBuild (Ok built) = Unit {0}
MayBuild (Err stop) = cause_of stop ≡ items

-- what is known where the spool tells its runs
abbrev pub IfTold : Option Runs → Type 0 → Type 0
IfTold runs P = IfSome runs (λ told. P)

-- The stop is one of contents, and P holds; or one of what was read back from runs, and P holds where all spills told theirs.
abbrev pub IfContents : Cause → Option Runs → Type 0 → Type 0
IfContents contents runs P = P
IfContents items runs P = IfTold runs P
IfContents (count role w) runs P = Unit {0}
IfContents (altered w) runs P = Unit {0}
IfContents changed runs P = Unit {0}
IfContents memory runs P = Unit {0}

-- An archive, or a stop that contents decide, is what is due. What an archive holds is known where the spool and all spills tell
-- their runs.
abbrev pub IsDue : Option Runs → Result Totals Stop → Due → Type 0
IsDue runs (Ok totals) due = MayBuild due × IfTold runs (OnBuilt due (λ built. totals ≡ built.totals))
IsDue runs (Err stop) due = IfContents (cause_of stop) runs (due ≡ Err stop)

-- a refused profile has this as its first fault, and another stop of contents means that it has none, whatever the reader tells
abbrev pub HasNoFault : Result Parts Fault → Type 0
HasNoFault (Ok parts) = Unit {0}
HasNoFault (Err fault) = ⊥

abbrev pub IsJudged : Result Totals Stop → Result Parts Fault → Type 0
IsJudged (Err (stops.Profile spot why)) found = found ≡ Err (spot, why)
IsJudged (Ok totals) found = HasNoFault found
IsJudged (Err (stops.Damage damage)) found = HasNoFault found
IsJudged (Err (stops.Budget stage need)) found = HasNoFault found
IsJudged (Err (stops.Source w)) found = Unit {0}
IsJudged (Err (stops.Spill w)) found = HasNoFault found
IsJudged (Err (stops.Outside w run at)) found = HasNoFault found
IsJudged (Err (stops.Changed pass block)) found = HasNoFault found
IsJudged (Err stops.Sink) found = HasNoFault found
IsJudged (Err stops.Memory) found = Unit {0}

-- The count that a stop tells of rose, of all that did the least. On any other answer all counts stay; and a spill that gave back
-- something else doesn't tell its runs, readers that gave something else don't all tell the same bytes.
abbrev pub IsCaused : Cause → Objects → Objects → Type 0
IsCaused contents before after = CountsStay before after
IsCaused items before after = CountsStay before after
IsCaused (count role w) before after = LeastRose before after role w
IsCaused (altered w) before after = CountsStay before after × (runs_told before w ≡ None)
IsCaused changed before after = CountsStay before after × (TellTheSame before.readers → ⊥)
IsCaused memory before after = CountsStay before after

abbrev pub HasCause : Result Totals Stop → Objects → Objects → Type 0
HasCause (Ok totals) before after = CountsStay before after
HasCause (Err stop) before after = IsCaused (cause_of stop) before after

-- the sink has a prefix of the archive more
abbrev pub GrowsToPrefix : Option Runs → Option Due → SinkSeen → SinkSeen → Type 0
GrowsToPrefix runs due old new = IfTold runs (IfSome due (λ d. OnBuilt d (λ built. GrowsByPrefix old.bytes new.bytes built.bytes)))

-- The archive's sink has the archive more. Where it failed, it has a prefix of it more, and where a spill failed, that or
-- nothing. On another stop it is as it was.
abbrev pub WritesFor : Cause → Option Runs → Option Due → SinkSeen → SinkSeen → Type 0
WritesFor contents runs due old new = new ≡ old
WritesFor items runs due old new = new ≡ old
WritesFor (count reading w) runs due old new = new ≡ old
WritesFor (count spilling w) runs due old new = (new ≡ old) ⊎ GrowsToPrefix runs due old new
WritesFor (count writing w) runs due old new = GrowsToPrefix runs due old new
WritesFor (altered w) runs due old new = new ≡ old
WritesFor changed runs due old new = new ≡ old
WritesFor memory runs due old new = new ≡ old

abbrev pub Writes : Result Totals Stop → Option Runs → Option Due → SinkSeen → SinkSeen → Type 0
Writes (Ok totals) runs due old new = IfTold runs (IfSome due (λ d. OnBuilt d (λ built. new.bytes ≡ with_more old.bytes built.bytes)))
Writes (Err stop) runs due old new = WritesFor (cause_of stop) runs due old new

-- the tiles are read back from what was written
abbrev pub ReadsBack : Result Totals Stop → Option Runs → Option Due → Type 0
ReadsBack (Ok totals) runs due = IfTold runs (IfSome due (λ d. OnBuilt d (λ built. read_back built.bytes ≡ Some built.tiles)))
ReadsBack (Err stop) runs due = Unit {0}

-- decoding the tiles gives of each the rows of its layers that have some
abbrev pub AreDecoded : Built → Type 0
AreDecoded built = map (λ (tile : Tile). tile_of tile.bytes) built.tiles ≡ map (λ (group : ℕ × List RunItem). Ok (layers_of built.names group.1)) built.groups

abbrev pub Decodes : Result Totals Stop → Option Runs → Option Due → Type 0
Decodes (Ok totals) runs due = IfTold runs (IfSome due (λ d. OnBuilt d AreDecoded))
Decodes (Err stop) runs due = Unit {0}

-- a run is of some items, in order of their keys, and not longer than the limit, or of one
pub record IsRun (limit : ℕ) (items : List RunItem) : Type 0 where
  pub some : 0 < length items
  pub sorted : AreInOrder items
  pub short : (length (items_bytes items) ≤ limit) ⊎ (length items ≤ 1)

-- a spill has just these runs more, one behind another, of whole items
pub record HasRuns (limit : ℕ) (before after : SpillSeen) (runs : List (List RunItem)) : Type 0 where
  pub ended : after.runs ≡ option_map (with_runs (map items_bytes runs)) before.runs
  pub each : All (IsRun limit) runs

-- each spill has the runs in its place more
abbrev pub AllHaveRuns : ℕ → List SpillSeen → List SpillSeen → List (List (List RunItem)) → Type 0
AllHaveRuns limit [] after runs = ⊤
AllHaveRuns limit (s ∷ before) [] runs = ⊤
AllHaveRuns limit (s ∷ before) (t ∷ after) [] = HasRuns limit s t [] × AllHaveRuns limit before after []
AllHaveRuns limit (s ∷ before) (t ∷ after) (own ∷ runs) = HasRuns limit s t own × AllHaveRuns limit before after runs

-- All these items were written, each once: together they are the runs that the spills have more.
pub record RunsAre (limit : ℕ) (items : List RunItem) (before after : List SpillSeen) : Type 0 where
  pub runs : List (List (List RunItem))
  pub have : AllHaveRuns limit before after runs
  pub same : IsPermutation items (flat_map (λ own. flat_map (λ run. run) own) runs)

-- the items of the archive's tiles went through runs
abbrev pub WritesRuns : Result Totals Stop → ℕ → Option Runs → Option Due → List SpillSeen → List SpillSeen → Type 0
WritesRuns (Ok totals) limit runs due before after = IfTold runs (IfSome due (λ d. OnBuilt d (λ built. RunsAre limit (items_of built) before after)))
WritesRuns (Err stop) limit runs due before after = Unit {0}

-- the bodies of blocks were loaded, each so often as is due
abbrev pub Loads : Result Totals Stop → Objects → Objects → Type 0
Loads (Ok totals) before after = IfSome (extract_in before) (λ extract. AreLoaded extract before.readers after.readers)
Loads (Err stop) before after = Unit {0}

-- how far a build came: to its end, where there is an archive
abbrev pub reached : Result Totals Stop → ℕ
reached (Ok totals) = 3
reached (Err stop) = stage_of stop

-- the spills are the same ones, and their ended runs stay
abbrev pub AllKeep : List SpillSeen → List SpillSeen → Type 0
AllKeep [] [] = ⊤
AllKeep [] (t ∷ after) = ⊥
AllKeep (s ∷ before) [] = ⊥
AllKeep (s ∷ before) (t ∷ after) = KeepsEnded s.runs t.runs × AllKeep before after

-- The promise of a build within a budget, which so many lanes share for their runs, by its answer. What is due is known as far as profile and extract are told, and what is
-- written of it where the spool and all spills tell their runs too.
pub record BuildAnswers (from : ProfileFrom) (budget lanes : ℕ) (before after : Objects) (result : Result Totals Stop) : Type 0 where
  -- what contents decide is what is due
  pub told : IfSome (due_in from budget before) (IsDue (all_told before) result)
  pub judged : IfSome (parts_from from before.profile.bytes) (IsJudged result)
  -- another stop is caused by the least object whose count rose, by one that doesn't tell its content, or memory wants
  pub cause : HasCause result before after
  pub never_falls : NoneFell before after
  pub written : Writes result (all_told before) (due_in from budget before) before.archive after.archive
  pub back : ReadsBack result (all_told before) (due_in from budget before)
  pub decoded : Decodes result (all_told before) (due_in from budget before)
  pub runs : WritesRuns result (run_limit budget lanes) (all_told before) (due_in from budget before) before.spills after.spills
  pub loads : Loads result before after
  -- a refused profile or its source's fault leaves the readers untouched
  pub untouched : reached result ≡ 0 → after.readers ≡ before.readers
  -- what sources tell of their bytes stays, and what isn't used is as it was
  pub profile_bytes : after.profile.bytes ≡ before.profile.bytes
  pub reader_bytes : map (λ r. r.bytes) after.readers ≡ map (λ r. r.bytes) before.readers
  pub alone : IsAlone from → after.profile ≡ before.profile
  -- the ended runs of spills and spool stay; before there are items no spill is touched, and before there are tiles not the spool
  pub spills_kept : AllKeep before.spills after.spills
  pub spills : reached result ≤ 1 → after.spills ≡ before.spills
  pub kept : KeepsEnded before.spool.runs after.spool.runs
  pub spool : reached result ≤ 2 → after.spool ≡ before.spool

-- an answer is what is due, where what it rests on is told
abbrev pub FitsFor : Cause → Objects → Type 0 → Type 0
FitsFor contents before P = P
FitsFor items before P = IfTold (all_told before) P
FitsFor (count role w) before P = P
FitsFor (altered w) before P = IfTold (all_told before) P
FitsFor changed before P = TellTheSame before.readers → P
FitsFor memory before P = P

abbrev pub Fits : Objects → Result Totals Stop → Due → Type 0
Fits before (Ok totals) due = MayBuild due × IfTold (all_told before) (OnBuilt due (λ built. totals ≡ built.totals))
Fits before (Err stop) due = FitsFor (cause_of stop) before (due ≡ Err stop)

-- where no count rose, the answer is what is due, or memory wants
abbrev pub BuildsAreComplete : Type 0
BuildsAreComplete = (from : ProfileFrom) (budget lanes : ℕ) (before after : Objects) (result : Result Totals Stop) → BuildAnswers from budget lanes before after result → NoneRose before after →
    IfSome (due_in from budget before) (λ due. Fits before result due ⊎ (result ≡ Err stops.Memory))
