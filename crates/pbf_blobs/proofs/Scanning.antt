-- The scan goes from frame to frame: what it keeps, and what it answers from there.
use Rattle.std.proofs.Common.{◌≡◌, ℕ, zero, suc, ◌+◌, ◌-◌, ◌^◌, ◌<◌, ◌≤◌, ◌||◌, Bool, true, false, nat_le, nat_lt, if◌then◌else◌, inl, inr, Option, None, Some, IfSome, Result, Ok, Err, IfOk, List, [], ◌∷◌, ◌++◌, length, map, refl, sym, ap, subst, ◌∙◌, arith, append_assoc, length-append, add-one}
use Rattle.std.specs.List.{All}
use Rattle.std.specs.Option.{ForSome}
use Rattle.std.proofs.lemmas.Bool.{le-leb, lt-leb, le-ltb, lt-ltb}
use Rattle.std.proofs.lemmas.List.{map-append, append-nil}
use Rattle.std.proofs.lemmas.List.Elements.{All-nil, All-cons, All-append, All-push, All-weaker}
use Rattle.std.proofs.lemmas.Result.{IfOk-weaker}
use Rattle.tb_types.specs.Bags.{below}
use Rattle.tb_types.specs.declared.damage.Why.{Why}
use Rattle.tb_types.specs.declared.damage.Why.TheVariants as why
use Rattle.tb_outside.specs.declared.failed.Failed.{Failed as SourceFailed}
use Rattle.tb_outside.specs.Source.{SourceSeen, SizeAnswers}
use Rattle.pbf_blobs.specs.declared.block.BlockAt.{BlockAt}
use Rattle.pbf_blobs.specs.declared.block.Index.{Index}
use Rattle.pbf_blobs.specs.declared.stop.ScanStop.{ScanStop}
use Rattle.pbf_blobs.specs.declared.stop.ScanStop.TheVariants as stops
use Rattle.pbf_blobs.specs.declared.stop.FrameStop.{FrameStop}
use Rattle.pbf_blobs.specs.declared.stop.FrameStop.TheVariants.{Failed, Bad}
use Rattle.pbf_blobs.specs.Kinds.{is_header}
use Rattle.pbf_blobs.specs.Frames.{block_at, Frames, body_from, end_of, faulty, end_at, with_rest, frames_from, all_frames, frames_before, outcome}
use Rattle.pbf_blobs.specs.Answers.{Grows, Misses, IsInHead, IsOfHeads, ReadAnswers, FitsFrame, Tells, ScanCounts, IsNumbered, IsShort, ScanAnswers, damage_at, stop_of}
use Rattle.pbf_blobs.proofs.Reading.{grows-same, grows-more, grows-weaker, at_told}
use Rattle.pbf_blobs.proofs.FrameSteps.{block-place, block-behind}

-- blocks that were found, before what is found of the rest
abbrev pub with_blocks : List BlockAt → Frames → Frames
with_blocks prefix frames = record { blocks = prefix ++ frames.blocks; fault = frames.fault }

pub if_told : (o : Option (List ℕ)) (P : List ℕ → Type 0) → ForSome o P → IfSome o P
if_told None P h = tt
if_told (Some bytes) P h = h bytes refl

pub frames-end : (bytes : List ℕ) (most n at : ℕ) (headed : Bool) → length bytes ≤ at → frames_from bytes (suc most) n at headed ≡ end_at n headed
unfolding frames_from
frames-end bytes most n at headed h = rw (le-leb (length bytes) at h) refl

pub frames-step : (bytes : List ℕ) (most n at : ℕ) (headed : Bool) → at < length bytes
    → frames_from bytes (suc most) n at headed ≡ with_rest n (λ block. frames_from bytes most (n + 1) (block.at + block.len) (headed || is_header block.kind)) (block_at bytes n at headed)
unfolding frames_from
frames-step bytes most n at headed h = rw (lt-leb (length bytes) at h) refl

-- blocks that begin at a place or behind it
abbrev AreBehind : ℕ → List BlockAt → Type 0
AreBehind at blocks = All (λ block. at ≤ block.at) blocks

either-behind : (at : ℕ) (b : Bool) (x y : Frames) → AreBehind at x.blocks → AreBehind at y.blocks → AreBehind at (if b then x else y).blocks
either-behind at true x y h k = h
either-behind at false x y h k = k

rest-behind : (n at : ℕ) (read_on : BlockAt → Frames) (r : Result BlockAt Why) → IfOk r (λ block. at + 4 ≤ block.at) → ((block : BlockAt) → AreBehind (block.at + block.len) (read_on block).blocks) → AreBehind at (with_rest n read_on r).blocks
rest-behind n at read_on (Ok block) h k =
    All-cons (λ b. at ≤ b.at) block (read_on block).blocks (omega (arith, h)) (All-weaker (λ b. block.at + block.len ≤ b.at) (λ b. at ≤ b.at) (λ b l. omega (arith, h, l)) (read_on block).blocks (k block))
rest-behind n at read_on (Err e) h k = All-nil (λ b. at ≤ b.at)

-- what follows lies behind
pub frames-behind : (bytes : List ℕ) (most n at : ℕ) (headed : Bool) → AreBehind at (frames_from bytes most n at headed).blocks
unfolding frames_from
frames-behind bytes zero n at headed = All-nil (λ b. at ≤ b.at)
frames-behind bytes (suc most) n at headed =
    either-behind at (nat_le (length bytes) at) (end_at n headed) (with_rest n (λ block. frames_from bytes most (n + 1) (block.at + block.len) (headed || is_header block.kind)) (block_at bytes n at headed))
    (either-behind at headed (record { blocks = []; fault = None }) (faulty n why.NoHeader) (All-nil (λ b. at ≤ b.at)) (All-nil (λ b. at ≤ b.at)))
    (rest-behind n at (λ block. frames_from bytes most (n + 1) (block.at + block.len) (headed || is_header block.kind)) (block_at bytes n at headed) (block-behind bytes n at headed)
    (λ block. frames-behind bytes most (n + 1) (block.at + block.len) (headed || is_header block.kind)))

-- what follows ends behind
rest-end : (n at : ℕ) (read_on : BlockAt → Frames) (r : Result BlockAt Why) → IfOk r (λ block. at + 4 ≤ block.at)
    → ((block : BlockAt) → block.at + block.len ≤ end_of (block.at + block.len) (read_on block).blocks) → at ≤ end_of at (with_rest n read_on r).blocks
rest-end n at read_on (Ok block) h k = omega (arith, h, k block)
rest-end n at read_on (Err e) h k = omega arith

either-end : (at : ℕ) (b : Bool) (x y : Frames) → at ≤ end_of at x.blocks → at ≤ end_of at y.blocks → at ≤ end_of at (if b then x else y).blocks
either-end at true x y h k = h
either-end at false x y h k = k

frames-end_behind : (bytes : List ℕ) (most n at : ℕ) (headed : Bool) → at ≤ end_of at (frames_from bytes most n at headed).blocks
unfolding frames_from
frames-end_behind bytes zero n at headed = omega arith
frames-end_behind bytes (suc most) n at headed =
    either-end at (nat_le (length bytes) at) (end_at n headed) (with_rest n (λ block. frames_from bytes most (n + 1) (block.at + block.len) (headed || is_header block.kind)) (block_at bytes n at headed))
    (either-end at headed (record { blocks = []; fault = None }) (faulty n why.NoHeader) (omega arith) (omega arith))
    (rest-end n at (λ block. frames_from bytes most (n + 1) (block.at + block.len) (headed || is_header block.kind)) (block_at bytes n at headed) (block-behind bytes n at headed)
    (λ block. frames-end_behind bytes most (n + 1) (block.at + block.len) (headed || is_header block.kind)))

-- a load in the head of the frame at a place misses all bodies from there on, and reaches no further than the last head
abbrev ClearFrom : List ℕ → ℕ → Frames → ℕ × ℕ → Type 0
ClearFrom bytes at frames load = All (Misses load) frames.blocks × (load.0 + load.1 ≤ body_from bytes (end_of at frames.blocks))

rest-clear : (bytes : List ℕ) (n at : ℕ) (load : ℕ × ℕ) (read_on : BlockAt → Frames) (r : Result BlockAt Why) → IsInHead bytes at load → IfOk r (λ block. block.at ≡ body_from bytes at)
    → ((block : BlockAt) → AreBehind (block.at + block.len) (read_on block).blocks) → ((block : BlockAt) → block.at + block.len ≤ end_of (block.at + block.len) (read_on block).blocks)
    → ClearFrom bytes at (with_rest n read_on r) load
rest-clear bytes n at load read_on (Ok block) h e k l = (
  All-cons (Misses load) block (read_on block).blocks (inl (omega (arith, h.1, e))) (All-weaker (λ b. block.at + block.len ≤ b.at) (Misses load) (λ b m. inl (omega (arith, h.1, e, m))) (read_on block).blocks (k block)),
  omega (arith, h.1, e, l block),
)
rest-clear bytes n at load read_on (Err e) h f k l = (All-nil (Misses load), h.1)

pub frames-clear : (bytes : List ℕ) (most n at : ℕ) (headed : Bool) (load : ℕ × ℕ) → at < length bytes → IsInHead bytes at load → ClearFrom bytes at (frames_from bytes (suc most) n at headed) load
frames-clear bytes most n at headed load h before =
    let read_on : BlockAt → Frames = λ block. frames_from bytes most (n + 1) (block.at + block.len) (headed || is_header block.kind) in
    rw (frames-step bytes most n at headed h)
    (rest-clear bytes n at load read_on (block_at bytes n at headed) before (block-place bytes n at headed) (λ block. frames-behind bytes most (n + 1) (block.at + block.len) (headed || is_header block.kind))
    (λ block. frames-end_behind bytes most (n + 1) (block.at + block.len) (headed || is_header block.kind)))

end_of-append : (at : ℕ) (xs ys : List BlockAt) → end_of at (xs ++ ys) ≡ end_of (end_of at xs) ys
end_of-append at [] ys = refl
end_of-append at (x ∷ xs) ys = end_of-append (x.at + x.len) xs ys

-- What the scan keeps: blocks and loads so far, before frame n at a place of an extract of so many bytes.
pub record Scanning (size : ℕ) (old new : SourceSeen) (blocks : List BlockAt) (n at : ℕ) (headed : Bool) : Type 0 where
  pub within : at ≤ size
  pub few : n ≤ 2 ^ 24
  pub bytes : new.bytes ≡ old.bytes
  pub faults : new.faults ≡ old.faults
  pub told : ForSome old.bytes (λ bytes. with_blocks blocks (frames_from bytes (2 ^ 24 + 1 - n) n at headed) ≡ all_frames bytes)
  pub count : length blocks ≡ n
  pub ends : end_of 0 blocks ≡ at
  pub ascend : map (λ block. block.no) blocks ≡ below n
  pub short : All (IsShort at) blocks
  pub loads : ForSome old.bytes (λ bytes. Grows old.log new.log (IsOfHeads bytes (all_frames bytes)))

abbrev pub IsSize : ℕ → SourceSeen → Type 0
IsSize size s = IfSome s.bytes (λ bytes. length bytes ≡ size)

pub scanning-start : (size : ℕ) (s : SourceSeen) → Scanning size s s [] 0 0 false
scanning-start size s = record {
  within = omega arith;
  few = omega arith;
  bytes = refl;
  faults = refl;
  told = λ bytes is. refl;
  count = refl;
  ends = refl;
  ascend = refl;
  short = All-nil (IsShort 0);
  loads = λ bytes is. grows-same s.log s.log (IsOfHeads bytes (all_frames bytes)) refl;
}

-- a load for the next frame
load-clear : (bytes : List ℕ) (blocks : List BlockAt) (n at : ℕ) (headed : Bool) (load : ℕ × ℕ) → at < length bytes → n ≤ 2 ^ 24 → All (IsShort at) blocks → end_of 0 blocks ≡ at
    → with_blocks blocks (frames_from bytes (2 ^ 24 + 1 - n) n at headed) ≡ all_frames bytes → IsInHead bytes at load → IsOfHeads bytes (all_frames bytes) load
load-clear bytes blocks n at headed load more few short ends told before =
    let left : 2 ^ 24 + 1 - n ≡ suc (2 ^ 24 - n) = omega arith in
    let rest = frames_from bytes (suc (2 ^ 24 - n)) n at headed in
    let whole : with_blocks blocks rest ≡ all_frames bytes = rw left at told in
    let prefix : All (Misses load) blocks = All-weaker (IsShort at) (Misses load) (λ b h. inr (omega (arith, h.1, before.0))) blocks short in
    let clear : ClearFrom bytes at rest load = frames-clear bytes (2 ^ 24 - n) n at headed load more before in
    let last : end_of 0 (blocks ++ rest.blocks) ≡ end_of at rest.blocks = end_of-append 0 blocks rest.blocks ∙ ap (λ (p : ℕ). end_of p rest.blocks) ends in
    subst (λ (f : Frames). IsOfHeads bytes f load) whole
    (All-append (Misses load) blocks rest.blocks prefix clear.0, subst (λ (p : ℕ). load.0 + load.1 ≤ body_from bytes p) (sym last) clear.1)

pub scanning-loads : (size : ℕ) (old mid new : SourceSeen) (blocks : List BlockAt) (n at : ℕ) (headed : Bool) (result : Result BlockAt FrameStop) → Scanning size old mid blocks n at headed → at < size → IsSize size old
    → ReadAnswers mid new result (λ bytes. block_at bytes n at headed) (λ bytes load. IsInHead bytes at load) → ForSome old.bytes (λ bytes. Grows old.log new.log (IsOfHeads bytes (all_frames bytes)))
scanning-loads size old mid new blocks n at headed result s more is_size h = λ bytes is.
    let long : length bytes ≡ size = at_told old.bytes bytes (λ bs. length bs ≡ size) is is_size in
    let P : ℕ × ℕ → Type 0 = IsOfHeads bytes (all_frames bytes) in
    grows-more old.log mid.log new.log P (s.loads bytes is)
    (grows-weaker mid.log new.log (λ load. IsInHead bytes at load) P (λ load before. load-clear bytes blocks n at headed load (omega arith) s.few s.short s.ends (s.told bytes is) before) (h.loads bytes (s.bytes ∙ is)))

-- a block that was read is the next
next-told : (bytes : List ℕ) (blocks : List BlockAt) (n at : ℕ) (headed : Bool) (block : BlockAt) → at < length bytes → n ≤ 2 ^ 24 → block_at bytes n at headed ≡ Ok block
    → with_blocks blocks (frames_from bytes (2 ^ 24 + 1 - n) n at headed) ≡ all_frames bytes
    → with_blocks (blocks ++ block ∷ []) (frames_from bytes (2 ^ 24 + 1 - (n + 1)) (n + 1) (block.at + block.len) (headed || is_header block.kind)) ≡ all_frames bytes
next-told bytes blocks n at headed block more few read told =
    let left : 2 ^ 24 + 1 - n ≡ suc (2 ^ 24 - n) = omega arith in
    let less : 2 ^ 24 + 1 - (n + 1) ≡ 2 ^ 24 - n = omega arith in
    let rest = frames_from bytes (2 ^ 24 - n) (n + 1) (block.at + block.len) (headed || is_header block.kind) in
    let read_on : BlockAt → Frames = λ b. frames_from bytes (2 ^ 24 - n) (n + 1) (b.at + b.len) (headed || is_header b.kind) in
    let step : frames_from bytes (2 ^ 24 + 1 - n) n at headed ≡ with_rest n read_on (Ok block) = rw left (frames-step bytes (2 ^ 24 - n) n at headed more) ∙ ap (with_rest n read_on) read in
    let joined : with_blocks (blocks ++ block ∷ []) rest ≡ with_blocks blocks (with_rest n read_on (Ok block)) = ap (λ (bs : List BlockAt). let f : Frames = record { blocks = bs; fault = rest.fault } in f) (append_assoc blocks (block ∷ []) rest.blocks) in
    rw less (joined ∙ (ap (with_blocks blocks) (sym step) ∙ told))

pub scanning-more : (size : ℕ) (old mid new : SourceSeen) (blocks : List BlockAt) (n at : ℕ) (headed : Bool) (block : BlockAt) → Scanning size old mid blocks n at headed → at < size → IsSize size old
    → ReadAnswers mid new (Ok block) (λ bytes. block_at bytes n at headed) (λ bytes load. IsInHead bytes at load) → FitsFrame size n at block → n < 2 ^ 24
    → Scanning size old new (blocks ++ block ∷ []) (n + 1) (block.at + block.len) (headed || is_header block.kind)
scanning-more size old mid new blocks n at headed block s more is_size h fits few = record {
  within = fits.within;
  few = omega arith;
  bytes = h.bytes ∙ s.bytes;
  faults = h.counts ∙ s.faults;
  told = λ bytes is.
      let long : length bytes ≡ size = at_told old.bytes bytes (λ bs. length bs ≡ size) is is_size in
      next-told bytes blocks n at headed block (omega arith) s.few (h.told bytes (s.bytes ∙ is)) (s.told bytes is);
  count = omega (arith, length-append blocks (block ∷ []), s.count);
  ends = end_of-append 0 blocks (block ∷ []);
  ascend = map-append (λ (b : BlockAt). b.no) blocks (block ∷ []) ∙ rw (add-one n, s.ascend, fits.number) refl;
  short = All-push (IsShort (block.at + block.len)) blocks block (All-weaker (IsShort at) (IsShort (block.at + block.len)) (λ b k. (k.0, omega (arith, k.1, fits.behind))) blocks s.short) (fits.short, omega arith);
  loads = scanning-loads size old mid new blocks n at headed (Ok block) s more is_size h;
}

-- an answer of a scan over an extract that isn't too long
pub scan-answers : (size : ℕ) (old new : SourceSeen) (result : Result Index ScanStop) → size ≤ 2 ^ 40 → IsSize size old → new.bytes ≡ old.bytes → ScanCounts result old.faults new.faults → old.faults ≤ new.faults
    → ForSome old.bytes (λ bytes. Tells result (outcome (all_frames bytes).blocks (all_frames bytes).fault)) → ForSome old.bytes (λ bytes. Grows old.log new.log (IsOfHeads bytes (all_frames bytes)))
    → IfOk result (λ index. IsNumbered index.blocks) → IfOk result (λ index. All (IsShort size) index.blocks) → ScanAnswers old new result
unfolding frames_before
scan-answers size old new result small is_size bytes counts never_falls told loads numbered short = record {
  told = if_told old.bytes _ (λ bs is.
      let long : length bs ≡ size = at_told old.bytes bs (λ b. length b ≡ size) is is_size in
      let fits : nat_lt (2 ^ 40) (length bs) ≡ false = le-ltb (2 ^ 40) (length bs) (omega arith) in
      rw fits (told bs is));
  within = if_told old.bytes _ (λ bs is.
      let long : length bs ≡ size = at_told old.bytes bs (λ b. length b ≡ size) is is_size in
      rw long short);
  loads = if_told old.bytes _ (λ bs is.
      let long : length bs ≡ size = at_told old.bytes bs (λ b. length b ≡ size) is is_size in
      let fits : nat_lt (2 ^ 40) (length bs) ≡ false = le-ltb (2 ^ 40) (length bs) (omega arith) in
      rw fits (loads bs is));
  unread = if_told old.bytes _ (λ bs is large. absurd (let long : length bs ≡ size = at_told old.bytes bs (λ b. length b ≡ size) is is_size in omega arith));
  numbered = numbered;
  short = IfOk-weaker result (λ index. All (IsShort size) index.blocks) (λ index. All (IsShort (2 ^ 40)) index.blocks)
      (λ index h. All-weaker (IsShort size) (IsShort (2 ^ 40)) (λ b k. (k.0, omega (arith, k.1))) index.blocks h) short;
  counts = counts;
  never_falls = never_falls;
  bytes = bytes;
}

pub scanning-memory : (size : ℕ) (old new : SourceSeen) (blocks : List BlockAt) (n at : ℕ) (headed : Bool) → size ≤ 2 ^ 40 → IsSize size old → Scanning size old new blocks n at headed → ScanAnswers old new (Err stops.Memory)
scanning-memory size old new blocks n at headed small is_size s =
    scan-answers size old new (Err stops.Memory) small is_size s.bytes s.faults (omega (arith, s.faults)) (λ bytes is. tt) s.loads tt tt

-- the fault of the next frame is the first
fault-told : (bytes : List ℕ) (blocks : List BlockAt) (n at : ℕ) (headed : Bool) (reason : Why) → at < length bytes → n ≤ 2 ^ 24 → block_at bytes n at headed ≡ Err reason
    → with_blocks blocks (frames_from bytes (2 ^ 24 + 1 - n) n at headed) ≡ all_frames bytes → outcome (all_frames bytes).blocks (all_frames bytes).fault ≡ Err (record { block = n; why = reason })
fault-told bytes blocks n at headed reason more few read told =
    let left : 2 ^ 24 + 1 - n ≡ suc (2 ^ 24 - n) = omega arith in
    let read_on : BlockAt → Frames = λ b. frames_from bytes (2 ^ 24 - n) (n + 1) (b.at + b.len) (headed || is_header b.kind) in
    let step : frames_from bytes (2 ^ 24 + 1 - n) n at headed ≡ faulty n reason = rw left (frames-step bytes (2 ^ 24 - n) n at headed more) ∙ ap (with_rest n read_on) read in
    ap (λ (f : Frames). outcome f.blocks f.fault) (sym told ∙ ap (with_blocks blocks) step)

pub scanning-stop : (size : ℕ) (old mid new : SourceSeen) (blocks : List BlockAt) (n at : ℕ) (headed : Bool) (stop : FrameStop) → size ≤ 2 ^ 40 → IsSize size old → Scanning size old mid blocks n at headed → at < size
    → ReadAnswers mid new (Err stop) (λ bytes. block_at bytes n at headed) (λ bytes load. IsInHead bytes at load) → ScanAnswers old new (Err (stop_of n stop))
scanning-stop size old mid new blocks n at headed Failed small is_size s more h =
    scan-answers size old new (Err stops.Failed) small is_size (h.bytes ∙ s.bytes) (rw s.faults at h.counts) (omega (arith, s.faults, h.never_falls)) (λ bytes is. tt) (scanning-loads size old mid new blocks n at headed (Err Failed) s more is_size h) tt tt
scanning-stop size old mid new blocks n at headed (Bad reason) small is_size s more h =
    scan-answers size old new (Err (damage_at n reason)) small is_size (h.bytes ∙ s.bytes) (h.counts ∙ s.faults) (omega (arith, s.faults, h.never_falls))
    (λ bytes is.
    let long : length bytes ≡ size = at_told old.bytes bytes (λ bs. length bs ≡ size) is is_size in
    fault-told bytes blocks n at headed reason (omega arith) s.few (h.told bytes (s.bytes ∙ is)) (s.told bytes is))
    (scanning-loads size old mid new blocks n at headed (Err (Bad reason)) s more is_size h) tt tt

-- behind the last frame
end-told : (bytes : List ℕ) (blocks : List BlockAt) (n at : ℕ) (headed : Bool) → length bytes ≤ at → n ≤ 2 ^ 24 → with_blocks blocks (frames_from bytes (2 ^ 24 + 1 - n) n at headed) ≡ all_frames bytes
    → all_frames bytes ≡ with_blocks blocks (end_at n headed)
end-told bytes blocks n at headed end few told =
    let left : 2 ^ 24 + 1 - n ≡ suc (2 ^ 24 - n) = omega arith in
    sym told ∙ ap (with_blocks blocks) (rw left (frames-end bytes (2 ^ 24 - n) n at headed end))

pub scanning-end : (size : ℕ) (old new : SourceSeen) (blocks : List BlockAt) (n at : ℕ) (headed : Bool) → size ≤ 2 ^ 40 → IsSize size old → Scanning size old new blocks n at headed → size ≤ at → headed ≡ true
    → ScanAnswers old new (Ok (record { blocks = blocks }))
scanning-end size old new blocks n at headed small is_size s end heads =
    scan-answers size old new (Ok (record { blocks = blocks })) small is_size s.bytes s.faults (omega (arith, s.faults))
    (λ bytes is.
    let long : length bytes ≡ size = at_told old.bytes bytes (λ bs. length bs ≡ size) is is_size in
    let ends : all_frames bytes ≡ with_blocks blocks (end_at n true) = rw heads at (end-told bytes blocks n at headed (omega arith) s.few (s.told bytes is)) in
    ap (λ (f : Frames). outcome f.blocks f.fault) ends ∙ ap Ok (append-nil blocks))
    s.loads (record { ascend = rw s.count s.ascend; few = omega (arith, s.count, s.few) }) (All-weaker (IsShort at) (IsShort size) (λ b k. (k.0, omega (arith, k.1, s.within))) blocks s.short)

pub scanning-no_header : (size : ℕ) (old new : SourceSeen) (blocks : List BlockAt) (n at : ℕ) (headed : Bool) → size ≤ 2 ^ 40 → IsSize size old → Scanning size old new blocks n at headed → size ≤ at → headed ≡ false
    → ScanAnswers old new (Err (damage_at n why.NoHeader))
scanning-no_header size old new blocks n at headed small is_size s end none =
    scan-answers size old new (Err (damage_at n why.NoHeader)) small is_size s.bytes s.faults (omega (arith, s.faults))
    (λ bytes is.
    let long : length bytes ≡ size = at_told old.bytes bytes (λ bs. length bs ≡ size) is is_size in
    let ends : all_frames bytes ≡ with_blocks blocks (end_at n false) = rw none at (end-told bytes blocks n at headed (omega arith) s.few (s.told bytes is)) in
    ap (λ (f : Frames). outcome f.blocks f.fault) ends)
    s.loads tt tt

-- the same under other names
pub scanning-same : (size : ℕ) (old new : SourceSeen) (blocks others : List BlockAt) (n at place : ℕ) (headed heads : Bool) → Scanning size old new blocks n at headed → others ≡ blocks → place ≡ at → heads ≡ headed
    → Scanning size old new others n place heads
scanning-same size old new blocks others n at place headed heads s e f h = rw (e, f, h) s

-- nothing is done yet
pub scan-nothing : (s : SourceSeen) → ScanAnswers s s (Err stops.Memory)
scan-nothing s = record {
  told = if_told s.bytes _ (λ bs is. tt);
  within = if_told s.bytes _ (λ bs is. tt);
  loads = if_told s.bytes _ (λ bs is. grows-same s.log s.log (IsOfHeads bs (frames_before bs)) refl);
  unread = if_told s.bytes _ (λ bs is large. refl);
  numbered = tt;
  short = tt;
  counts = refl;
  never_falls = omega arith;
  bytes = refl;
}

-- an extract that is too long
pub scan-too_long : (old new : SourceSeen) (size : ℕ) → SizeAnswers old new (Ok size) → 2 ^ 40 < size → ScanAnswers old new (Err (damage_at 0 why.FileLong))
unfolding frames_before
scan-too_long old new size h large = record {
  told = if_told old.bytes _ (λ bs is.
      let long : size ≡ length bs = at_told old.bytes bs (λ b. size ≡ length b) is h.value in
      let passes : nat_lt (2 ^ 40) (length bs) ≡ true = lt-ltb (2 ^ 40) (length bs) (omega arith) in
      rw passes refl);
  within = if_told old.bytes _ (λ bs is. tt);
  loads = if_told old.bytes _ (λ bs is. grows-same old.log new.log (IsOfHeads bs (frames_before bs)) h.log);
  unread = if_told old.bytes _ (λ bs is l. h.log);
  numbered = tt;
  short = tt;
  counts = h.ok;
  never_falls = h.never_falls;
  bytes = h.bytes;
}

same_source : (a b : SourceSeen) → a.bytes ≡ b.bytes → a.log ≡ b.log → a.faults ≡ b.faults → a ≡ b
same_source a b e f h =
    ap (λ (x : Option (List ℕ)). let s : SourceSeen = record { bytes = x; log = a.log; faults = a.faults } in s) e
    ∙ (ap (λ (x : Option (List (ℕ × ℕ))). let s : SourceSeen = record { bytes = b.bytes; log = x; faults = a.faults } in s) f
    ∙ ap (λ (x : ℕ). let s : SourceSeen = record { bytes = b.bytes; log = b.log; faults = x } in s) h)

-- the size was asked before
pub scan-sized : (old mid new : SourceSeen) (size : ℕ) (result : Result Index ScanStop) → SizeAnswers old mid (Ok size) → ScanAnswers mid new result → ScanAnswers old new result
scan-sized old mid new size result h answers = subst (λ (s : SourceSeen). ScanAnswers s new result) (same_source mid old h.bytes h.log h.ok) answers

-- the size was refused
pub scan-failed : (old new : SourceSeen) (e : SourceFailed) → SizeAnswers old new (Err e) → ScanAnswers old new (Err stops.Failed)
scan-failed old new e h = record {
  told = if_told old.bytes _ (λ bs is. tt);
  within = if_told old.bytes _ (λ bs is. tt);
  loads = if_told old.bytes _ (λ bs is. grows-same old.log new.log (IsOfHeads bs (frames_before bs)) h.log);
  unread = if_told old.bytes _ (λ bs is large. h.log);
  numbered = tt;
  short = tt;
  counts = h.err;
  never_falls = h.never_falls;
  bytes = h.bytes;
}

pub size-told : (old new : SourceSeen) (size : ℕ) → SizeAnswers old new (Ok size) → IsSize size new
size-told old new size h =
    subst (λ (o : Option (List ℕ)). IfSome o (λ bs. length bs ≡ size)) (sym h.bytes) (if_told old.bytes (λ bs. length bs ≡ size) (λ bs is. sym (at_told old.bytes bs (λ b. size ≡ length b) is h.value)))
