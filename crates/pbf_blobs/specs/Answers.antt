-- What the calls that read from a source answer, and what they leave of it.
use Rattle.std.specs.Prelude.{◌≡◌, ℕ, ◌+◌, ◌^◌, ◌<◌, ◌≤◌, ◌⊎◌, Option, None, Some, IfSome, Result, Ok, Err, IfOk, List, ◌++◌, length, map}
use Rattle.std.specs.List.{All}
use Rattle.std.specs.Option.{ForSome}
use Rattle.tb_types.specs.declared.damage.Why.{Why}
use Rattle.tb_types.specs.declared.damage.Damage.{Damage}
use Rattle.tb_types.specs.Bags.{below}
use Rattle.tb_types.specs.Counts.{Rose}
use Rattle.tb_outside.specs.Source.{SourceSeen}
use Rattle.pbf_blobs.specs.declared.block.BlockAt.{BlockAt}
use Rattle.pbf_blobs.specs.declared.block.Index.{Index}
use Rattle.pbf_blobs.specs.declared.stop.ScanStop.{ScanStop}
use Rattle.pbf_blobs.specs.declared.stop.ScanStop.TheVariants as stops
use Rattle.pbf_blobs.specs.declared.stop.FrameStop.{FrameStop}
use Rattle.pbf_blobs.specs.declared.stop.FrameStop.TheVariants as frame_stops
use Rattle.pbf_blobs.specs.Frames.{Frames, body_from, reach, frames_before, frames_of}

-- the end of a scan at a frame
abbrev pub damage_at : ℕ → Why → ScanStop
damage_at n reason = stops.Damage (record { block = n; why = reason })

abbrev pub stop_of : ℕ → FrameStop → ScanStop
stop_of n frame_stops.Failed = stops.Failed
stop_of n (frame_stops.Bad reason) = damage_at n reason

-- a told log grows by loads of which P holds
abbrev pub Grows : Option (List (ℕ × ℕ)) → Option (List (ℕ × ℕ)) → (ℕ × ℕ → Type 0) → Type 0
Grows None new P = new ≡ None
Grows (Some loads) new P = (more : List (ℕ × ℕ)) × (new ≡ Some (loads ++ more)) × All P more

-- a load ends before a body begins, or begins behind it: it touches no byte of it
abbrev pub Misses : ℕ × ℕ → BlockAt → Type 0
Misses load block = (load.0 + load.1 ≤ block.at) ⊎ (block.at + block.len ≤ load.0)

-- a load that lies in the length and the header of the frame at a place
abbrev pub IsInHead : List ℕ → ℕ → ℕ × ℕ → Type 0
IsInHead bytes at load = (at ≤ load.0) × (load.0 + load.1 ≤ body_from bytes at)

-- a load that touches no body that stands before the first fault, and no byte behind the header of the frame with the fault
abbrev pub IsOfHeads : List ℕ → Frames → ℕ × ℕ → Type 0
IsOfHeads bytes frames load = All (Misses load) frames.blocks × (load.0 + load.1 ≤ reach bytes frames)

-- what was read is what the extract's bytes give, unless the source failed
abbrev pub Reads : {A : Type 0} → Result A FrameStop → Result A Why → Type 0
Reads (Ok x) found = found ≡ Ok x
Reads (Err (frame_stops.Bad reason)) found = found ≡ Err reason
Reads (Err frame_stops.Failed) found = Unit {0}

-- the count of faults rose where the source failed, and else it stays
abbrev pub Counts : {A : Type 0} → Result A FrameStop → ℕ → ℕ → Type 0
Counts (Ok x) old new = new ≡ old
Counts (Err (frame_stops.Bad reason)) old new = new ≡ old
Counts (Err frame_stops.Failed) old new = Rose old new

-- a part of a frame is read, with loads of which P holds
pub record ReadAnswers {A : Type 0} (old new : SourceSeen) (result : Result A FrameStop) (found : List ℕ → Result A Why) (P : List ℕ → ℕ × ℕ → Type 0) : Type 0 where
  pub told : ForSome old.bytes (λ bytes. Reads result (found bytes))
  pub bytes : new.bytes ≡ old.bytes
  pub counts : Counts result old.faults new.faults
  pub never_falls : old.faults ≤ new.faults
  pub loads : ForSome old.bytes (λ bytes. Grows old.log new.log (P bytes))

-- the block of a frame that begins at a place
pub record FitsFrame (size n at : ℕ) (block : BlockAt) : Type 0 where
  pub number : block.no ≡ n
  pub behind : at < block.at
  pub within : block.at + block.len ≤ size
  pub short : block.len ≤ 33619968

-- the index has the blocks that the extract's bytes give, or the damage is the first fault of the frames
abbrev pub Tells : Result Index ScanStop → Result (List BlockAt) Damage → Type 0
Tells (Ok index) frames = frames ≡ Ok index.blocks
Tells (Err (stops.Damage damage)) frames = frames ≡ Err damage
Tells (Err stops.Failed) frames = Unit {0}
Tells (Err stops.Memory) frames = Unit {0}

-- the count of faults rose where the scan failed, and else it stays
abbrev pub ScanCounts : Result Index ScanStop → ℕ → ℕ → Type 0
ScanCounts (Ok index) old new = new ≡ old
ScanCounts (Err (stops.Damage damage)) old new = new ≡ old
ScanCounts (Err stops.Memory) old new = new ≡ old
ScanCounts (Err stops.Failed) old new = Rose old new

-- the numbers of the blocks ascend from 0 one by one, and are below 2 ^ 24
pub record IsNumbered (blocks : List BlockAt) : Type 0 where
  pub ascend : map (λ block. block.no) blocks ≡ below (length blocks)
  pub few : length blocks ≤ 2 ^ 24

-- no body is longer than 33,619,968 bytes or ends behind a place
abbrev pub IsShort : ℕ → BlockAt → Type 0
IsShort end block = (block.len ≤ 33619968) × (block.at + block.len ≤ end)

-- What a scan promises.
pub record ScanAnswers (old new : SourceSeen) (result : Result Index ScanStop) : Type 0 where
  -- where the source tells its bytes: exactly the frames, or exactly their first fault
  pub told : IfSome old.bytes (λ extract. Tells result (frames_of extract))
  pub within : IfSome old.bytes (λ extract. IfOk result (λ index. All (IsShort (length extract)) index.blocks))
  -- no body is loaded, whatever its type, and nothing behind the header of the first frame with a fault, as elements before
  -- any header; an extract that is too long is not loaded at all
  pub loads : IfSome old.bytes (λ extract. Grows old.log new.log (IsOfHeads extract (frames_before extract)))
  pub unread : IfSome old.bytes (λ extract. 2 ^ 40 < length extract → new.log ≡ old.log)
  -- of every source
  pub numbered : IfOk result (λ index. IsNumbered index.blocks)
  pub short : IfOk result (λ index. All (IsShort (2 ^ 40)) index.blocks)
  pub counts : ScanCounts result old.faults new.faults
  pub never_falls : old.faults ≤ new.faults
  pub bytes : new.bytes ≡ old.bytes
