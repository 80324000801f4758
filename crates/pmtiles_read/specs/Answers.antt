-- What the reading of an archive answers.
use Rattle.std.specs.Prelude.{◌≡◌, ℕ, ◌+◌, ◌^◌, ◌<◌, ◌≤◌, Option, None, Some, IfSome, IfNone, List, ◌++◌, length, Result, Ok, Err, IfOk, OnOk, IsSome, Vec, ⊤}
use Rattle.tb_types.specs.Counts.{Rose}
use Rattle.tb_outside.specs.Source.{SourceSeen}
use Rattle.pmtiles_dirs.specs.declared.entry.DirEntry.{DirEntry}
use Rattle.pmtiles_dirs.specs.declared.fault.ArcFault.{ArcFault}
use Rattle.pmtiles_dirs.specs.declared.header.Header.{Header}
use Rattle.pmtiles_dirs.specs.Contents.{Tile}
use Rattle.pmtiles_dirs.specs.Back.{read_back, tiles_of, tile_at}
use Rattle.pmtiles_dirs.specs.Fault.{Walk, Opened, read_header, opened, content_at}
use Rattle.pmtiles_read.specs.declared.error.ReadErr.{ReadErr}
use Rattle.pmtiles_read.specs.declared.error.ReadErr.TheVariants as errors
use Rattle.pmtiles_read.specs.declared.found.Found.{Found}
use Rattle.pmtiles_read.specs.Tiles.{AreTiles, IsSound, covering_entry}

-- an answer gives what is defined, or its fault, where no count rose and memory wasn't wanting
abbrev pub Gives : {A B : Type 0} → (A → B) → Result A ReadErr → Result B ArcFault → Type 0
Gives view (Ok x) due = due ≡ Ok (view x)
Gives view (Err (errors.Bad fault)) due = due ≡ Err fault
Gives view (Err errors.Failed) due = Unit {0}
Gives view (Err errors.Memory) due = Unit {0}

-- A count of faults rises where the answer is `Failed`, and else stays.
abbrev pub CountsFor : {A : Type 0} → Result A ReadErr → ℕ → ℕ → Type 0
CountsFor (Ok x) old new = new ≡ old
CountsFor (Err (errors.Bad fault)) old new = new ≡ old
CountsFor (Err errors.Failed) old new = Rose old new
CountsFor (Err errors.Memory) old new = new ≡ old

-- an answer that is no fault of the bytes
abbrev pub IsNotBad : {A : Type 0} → Result A ReadErr → Type 0
IsNotBad (Ok x) = Unit {0}
IsNotBad (Err (errors.Bad fault)) = ⊥
IsNotBad (Err errors.Failed) = Unit {0}
IsNotBad (Err errors.Memory) = Unit {0}

-- an answer that is no fault of a source
abbrev pub IsNotFailed : {A : Type 0} → Result A ReadErr → Type 0
IsNotFailed (Ok x) = Unit {0}
IsNotFailed (Err (errors.Bad fault)) = Unit {0}
IsNotFailed (Err errors.Failed) = ⊥
IsNotFailed (Err errors.Memory) = Unit {0}

-- what a call does to a source
pub record Reads {A : Type 0} (old new : SourceSeen) (result : Result A ReadErr) : Type 0 where
  pub bytes : new.bytes ≡ old.bytes
  pub counts : CountsFor result old.faults new.faults
  pub never_falls : old.faults ≤ new.faults

abbrev pub walk_of : Found → Walk
walk_of found = record { found = found.entries; next = found.next }

-- Entries that may go on: whatever may follow them makes, with them, the entries of an archive.
pub record MayGoOn (tiles_at : ℕ) (walk : Walk) : Type 0 where
  pub next : walk.next ≤ 2 ^ 64
  pub rest : (entries : List DirEntry) → AreTiles tiles_at walk.next entries → AreTiles tiles_at 0 (walk.found ++ entries)

-- the sections of a header end within 64 bits
abbrev pub HasEnds : Header → Type 0
HasEnds h = (h.leaves_at + h.leaves_len < 2 ^ 64) × (h.tiles_at + h.tiles_len < 2 ^ 64)

-- what a part of the walk through the directories does
pub record WalkAnswers (tiles_at : ℕ) (old new : SourceSeen) (before after : Walk) (result : Result ⊤ ReadErr) (due : List ℕ → Result Walk ArcFault) : Type 0 where
  pub told : (archive : List ℕ) → old.bytes ≡ Some archive → Gives (λ _. after) result (due archive)
  pub reads : Reads old new result
  pub sound : OnOk result (MayGoOn tiles_at before → MayGoOn tiles_at after)

-- the sections of a header end within so many bytes
abbrev pub IsWithin : Header → ℕ → Type 0
IsWithin h size = (h.root_at + h.root_len ≤ size) × (h.leaves_at + h.leaves_len ≤ size) × (h.tiles_at + h.tiles_len ≤ size)

-- what reading a header answers
pub record HeaderAnswers (old new : SourceSeen) (result : Result Header ReadErr) : Type 0 where
  pub told : (archive : List ℕ) → old.bytes ≡ Some archive → Gives (λ h. h) result (read_header archive)
  pub reads : Reads old new result
  pub ends : IfOk result HasEnds
  pub within : IfOk result (λ h. IfSome old.bytes (λ archive. IsWithin h (length archive)))

-- what opening an archive answers
pub record OpenAnswers (old new : SourceSeen) (result : Result Opened ReadErr) : Type 0 where
  pub told : (archive : List ℕ) → old.bytes ≡ Some archive → Gives (λ o. o) result (opened archive)
  pub reads : Reads old new result
  pub back : (archive : List ℕ) → old.bytes ≡ Some archive → IfOk result (λ o. read_back archive ≡ Some (tiles_of archive o))
  pub sound : IfOk result IsSound

-- what asking for a tile answers
pub record TileAnswers (o : Opened) (old new : SourceSeen) (id : ℕ) (result : Result (Option (List ℕ)) ReadErr) : Type 0 where
  pub none : IfOk result (λ found. IfNone found (covering_entry o.entries id ≡ None))
  pub some : IfOk result (λ found. IfSome found (λ tile. IfSome (covering_entry o.entries id) (λ e. length tile ≡ e.len) × IsSome (covering_entry o.entries id)))
  pub told : (archive : List ℕ) → old.bytes ≡ Some archive → IfOk result (λ found. IfSome found (λ tile. IfSome (covering_entry o.entries id) (λ e. tile ≡ content_at archive o e)))
  pub back : (archive : List ℕ) (tiles : List Tile) → old.bytes ≡ Some archive → read_back archive ≡ Some tiles → IfOk result (λ found. found ≡ tile_at tiles id)
  pub reads : Reads old new result
  pub never_bad : IsNotBad result

-- what loading the content of an entry answers
pub record ContentAnswers (o : Opened) (e : DirEntry) (old new : SourceSeen) (content : List ℕ) (result : Result ⊤ ReadErr) : Type 0 where
  pub len : OnOk result (length content ≡ e.len)
  pub told : (archive : List ℕ) → old.bytes ≡ Some archive → OnOk result (content ≡ content_at archive o e)
  pub reads : Reads old new result
  pub never_bad : IsNotBad result

-- an answer with the bytes of a vector
abbrev pub tile_seen : {A : Type 0} → Result (Option (Vec ℕ A)) ReadErr → Result (Option (List ℕ)) ReadErr
tile_seen (Ok None) = Ok None
tile_seen (Ok (Some tile)) = Ok (Some tile.items)
tile_seen (Err e) = Err e
