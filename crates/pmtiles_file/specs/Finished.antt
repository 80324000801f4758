-- What finishing an archive answers.
use Rattle.std.specs.Prelude.{◌≡◌, ℕ, ◌^◌, ◌<◌, ◌≤◌, Option, Some, List, [], ◌∷◌, ◌++◌, length, map, take, drop, Result, Ok, Err, IfOk, OnOk}
use Rattle.std.specs.List.{concat}
use Rattle.tb_types.specs.Counts.{Rose}
use Rattle.tb_outside.specs.Sink.{SinkSeen, with_more, GrowsByPrefix}
use Rattle.tb_outside.specs.Spill.{SpillSeen, Runs}
use Rattle.pmtiles_dirs.specs.Contents.{Tile, contents_of, entries_of}
use Rattle.pmtiles_dirs.specs.declared.sizes.Sizes.{Sizes}
use Rattle.pmtiles_dirs.specs.Header.{header_text}
use Rattle.pmtiles_dirs.specs.Meta.{metadata_text}
use Rattle.pmtiles_dirs.specs.Leaves.{plan_of}
use Rattle.pmtiles_dirs.specs.Archive.{archive_text, map_header, length_of}
use Rattle.pmtiles_dirs.specs.Back.{read_back}
use Rattle.pmtiles_file.specs.declared.stored.Stored.{Stored}
use Rattle.pmtiles_file.specs.declared.finish_err.FinishErr.{FinishErr}
use Rattle.pmtiles_file.specs.declared.finish_err.FinishErr.TheVariants as finish_errors
use Rattle.pmtiles_dirs.specs.declared.totals.Totals.{Totals}
use Rattle.pmtiles_file.specs.Spool.{content_in}
use Rattle.pmtiles_file.specs.Writing.{WriterSeen, Wrote}

-- what a sink got: all of a text, or a prefix of it, or nothing where memory was wanting
abbrev pub Writes : {A : Type 0} → Result A FinishErr → Option (List ℕ) → Option (List ℕ) → List ℕ → Type 0
Writes (Ok x) old new text = new ≡ with_more old text
Writes (Err finish_errors.Memory) old new text = new ≡ old
Writes (Err finish_errors.Spill) old new text = GrowsByPrefix old new text
Writes (Err finish_errors.Sink) old new text = GrowsByPrefix old new text

-- which counts of a spool and a sink rose
abbrev pub FinishCounts : {A : Type 0} → Result A FinishErr → SpillSeen → SpillSeen → SinkSeen → SinkSeen → Type 0
FinishCounts (Ok x) spool spool_after sink sink_after = (spool_after.faults ≡ spool.faults) × (sink_after.faults ≡ sink.faults)
FinishCounts (Err finish_errors.Memory) spool spool_after sink sink_after = (spool_after ≡ spool) × (sink_after ≡ sink)
FinishCounts (Err finish_errors.Spill) spool spool_after sink sink_after = Rose spool.faults spool_after.faults × (sink_after.faults ≡ sink.faults)
FinishCounts (Err finish_errors.Sink) spool spool_after sink sink_after = (spool_after.faults ≡ spool.faults) × Rose sink.faults sink_after.faults

-- what an archive of tiles holds
abbrev pub totals_of : WriterSeen → List Tile → Totals
totals_of w tiles = record { tiles = length tiles; entries = length (entries_of tiles); contents = length (contents_of tiles); bytes = length (archive_text w.meta tiles) }

-- what finishing an archive answers
pub record FinishAnswers (w : WriterSeen) (spool spool_after : SpillSeen) (sink sink_after : SinkSeen) (result : Result Totals FinishErr) : Type 0 where
  pub told : (runs : Runs) (tiles : List Tile) → spool.runs ≡ Some runs → Wrote w runs.ended tiles → Writes result sink.bytes sink_after.bytes (archive_text w.meta tiles)
  pub totals : (runs : Runs) (tiles : List Tile) → spool.runs ≡ Some runs → Wrote w runs.ended tiles → IfOk result (λ t. t ≡ totals_of w tiles)
  pub back : (runs : Runs) (tiles : List Tile) → spool.runs ≡ Some runs → Wrote w runs.ended tiles → length (entries_of tiles) < 2 ^ 35 → IfOk result (λ t. read_back (archive_text w.meta tiles) ≡ Some tiles)
  pub runs : spool_after.runs ≡ spool.runs
  pub counts : FinishCounts result spool spool_after sink sink_after
  pub spool_never_falls : spool.faults ≤ spool_after.faults
  pub sink_never_falls : sink.faults ≤ sink_after.faults

-- What a sink got of what is pending and of what comes behind it: a part was written and the rest is pending, or it failed
-- after a prefix.
abbrev pub Passes : {A : Type 0} → (A → List ℕ) → Result A FinishErr → Option (List ℕ) → Option (List ℕ) → List ℕ → Type 0
Passes pending (Ok x) old new due = (written : List ℕ) × (new ≡ with_more old written) × (written ++ pending x ≡ due)
Passes pending (Err e) old new due = GrowsByPrefix old new due

-- memory isn't wanting
abbrev pub IsNotMemory : {A : Type 0} → Result A FinishErr → Type 0
IsNotMemory (Ok x) = Unit {0}
IsNotMemory (Err finish_errors.Memory) = ⊥
IsNotMemory (Err finish_errors.Spill) = Unit {0}
IsNotMemory (Err finish_errors.Sink) = Unit {0}

-- what a step of writing answers: it appends from what is due, which it knows where the spool tells its runs
pub record StepAnswers {A : Type 0} (pending : A → List ℕ) (due : Runs → List ℕ) (spool spool_after : SpillSeen) (sink sink_after : SinkSeen) (result : Result A FinishErr) : Type 0 where
  pub told : (runs : Runs) → spool.runs ≡ Some runs → Passes pending result sink.bytes sink_after.bytes (due runs)
  pub runs : spool_after.runs ≡ spool.runs
  pub counts : FinishCounts result spool spool_after sink sink_after
  pub never_memory : IsNotMemory result
  pub spool_never_falls : spool.faults ≤ spool_after.faults
  pub sink_never_falls : sink.faults ≤ sink_after.faults

-- the sink's count rose where it failed, and else stays
abbrev pub SinkCounts : {A : Type 0} → Result A FinishErr → ℕ → ℕ → Type 0
SinkCounts (Ok x) old new = new ≡ old
SinkCounts (Err e) old new = (e ≡ finish_errors.Sink) × Rose old new

-- what appending what is pending answers: some of it may still be pending
pub record RoomAnswers {A : Type 0} (pending : A → List ℕ) (due : List ℕ) (old new : SinkSeen) (result : Result A FinishErr) : Type 0 where
  pub told : Passes pending result old.bytes new.bytes due
  pub counts : SinkCounts result old.faults new.faults
  pub never_falls : old.faults ≤ new.faults

-- the spool's count rose where it failed, and else stays
abbrev pub ReadCounts : {A : Type 0} → Result A FinishErr → ℕ → ℕ → Type 0
ReadCounts (Ok x) old new = new ≡ old
ReadCounts (Err e) old new = (e ≡ finish_errors.Spill) × Rose old new

-- what reading a part of a content behind some bytes answers
pub record PartAnswers {A : Type 0} (content : Stored) (at n : ℕ) (spool spool_after : SpillSeen) (before after : List ℕ) (result : Result A FinishErr) : Type 0 where
  pub told : OnOk result ((runs : Runs) → spool.runs ≡ Some runs → after ≡ before ++ take n (drop at (content_in runs.ended content)))
  pub runs : spool_after.runs ≡ spool.runs
  pub counts : ReadCounts result spool.faults spool_after.faults
  pub never_falls : spool.faults ≤ spool_after.faults

-- the contents of a writer, one behind another
abbrev pub all_contents : List Stored → Runs → List ℕ
all_contents stored runs = concat (map (content_in runs.ended) stored)

-- the sizes of the archive of a writer
abbrev pub sizes_in : WriterSeen → Sizes
sizes_in w = record {
  root_len = length (plan_of w.entries).root;
  meta_len = length (metadata_text w.meta.name w.meta.layers);
  leaves_len = length (plan_of w.entries).leaves;
  tiles_len = w.contents.end;
  tile_count = w.tiles;
  entry_count = length w.entries;
  content_count = length w.contents.stored;
}

-- header, root, metadata and leaves, one behind another
unfoldable pub parts_text : WriterSeen → List ℕ
parts_text w = header_text (map_header w.meta (sizes_in w)) ++ ((plan_of w.entries).root ++ (metadata_text w.meta.name w.meta.layers ++ (plan_of w.entries).leaves))

-- the totals of the archive of a writer
abbrev pub totals_in : WriterSeen → Totals
totals_in w = record { tiles = w.tiles; entries = length w.entries; contents = length w.contents.stored; bytes = length_of (sizes_in w) }

-- what a sink got of a piece: all of it, or a prefix
abbrev pub Puts : {A : Type 0} → Result A FinishErr → Option (List ℕ) → Option (List ℕ) → List ℕ → Type 0
Puts (Ok x) old new piece = new ≡ with_more old piece
Puts (Err e) old new piece = GrowsByPrefix old new piece

-- what appending a piece answers
pub record PutAnswers {A : Type 0} (old new : SinkSeen) (piece : List ℕ) (result : Result A FinishErr) : Type 0 where
  pub put : Puts result old.bytes new.bytes piece
  pub counts : SinkCounts result old.faults new.faults
  pub never_falls : old.faults ≤ new.faults
