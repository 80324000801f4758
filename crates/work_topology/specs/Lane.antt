-- What one lane did, from the start of its run up to a moment of it.
use Rattle.std.specs.Prelude.{◌≡◌, ℕ, Bool, true, false, ◌+◌, IfSome, slice_range, ◌<◌, ◌≤◌, ◌++◌, ◌∷◌, [], None, Option, List, length, map, Result, IfOk, IfErr, OnOk, OnErr, MatchOption, ⊤}
use Rattle.std.specs.Option.{option_map}
use Rattle.tb_types.specs.Counts.{Rose}
use Rattle.tb_types.specs.Needs.{block_need}
use Rattle.tb_types.specs.declared.trouble.Trouble.{Trouble}
use Rattle.tb_types.specs.declared.trouble.Trouble.TheVariants as troubles
use Rattle.tb_types.specs.declared.trouble.Whom.TheVariants as whoms
use Rattle.tb_outside.specs.declared.lane.Lane.{Lane}
use Rattle.tb_outside.specs.Source.{SourceSeen}
use Rattle.tb_outside.specs.Spill.{SpillSeen}
use Rattle.pbf_blobs.specs.declared.block.BlockAt.{BlockAt}
use Rattle.claim_desk.specs.Facts.{DeskFacts, SeatFacts, IsSeatOf, has_ended}
use Rattle.batch_queue.specs.Facts.{QueueFacts, PassFacts, BatchFacts, IsPassHere}
use Rattle.batch_queue.specs.declared.entry.Entry.{Entry}
use Rattle.work_topology.specs.declared.ends.Done.{Done}
use Rattle.work_topology.specs.declared.post.Report.{Report}
use Rattle.work_topology.specs.declared.post.Post.{Post}
use Rattle.work_topology.specs.Lists.{Each, Paired}
use Rattle.work_topology.specs.Blocks.{IsLoaded, IsSomeBlock, FitIn, load_at, GrewByBlocks}
use Rattle.work_topology.specs.Objects.{objects_of, AreUncounted, NoneFell, IsLeastRisen}
use Rattle.work_topology.specs.Job.{Meaning, Worked, JobCause, MayChange, SomeChanges, NeverChanges}

-- what all lanes of a pass share: the job's meaning, what sources and spills tell, the blocks, the desk and the queue
pub record Scene (Seed Out R S : Type 0) : Type 1 where
  pub job : Meaning Seed Out S
  pub source : R → SourceSeen
  pub spill : S → SpillSeen
  pub blocks : List BlockAt
  pub desk : DeskFacts
  pub queue : QueueFacts

abbrev pub scene : {Seed Out R S : Type 0} → Meaning Seed Out S → (R → SourceSeen) → (S → SpillSeen) → List BlockAt → DeskFacts → QueueFacts → Scene Seed Out R S
scene m see tells list at among = record { job = m; source = see; spill = tells; blocks = list; desk = at; queue = among }

-- what a lane's reader tells of its bytes
abbrev pub told_by : {Seed Out R S : Type 0} → Scene Seed Out R S → Lane R S → Option (List ℕ)
told_by c lane = (c.source lane.reader).bytes

-- a block that a lane worked: the entry that it popped, and what it listed
pub record IsDone (number : ℕ) (entry : Entry) (d : Done) : Type 0 where
  pub lane : d.lane ≡ number
  pub block : d.block ≡ entry.no
  pub covers : block_need (length entry.bytes) ≤ d.granted

-- a seat and a pass are the same ones, with other lists
abbrev pub IsSameSeat : SeatFacts → SeatFacts → Type 0
IsSameSeat old new = new ≡ record old { seen = new.seen; past = new.past; drawn = new.drawn }

abbrev pub IsSamePass : PassFacts → PassFacts → Type 0
IsSamePass old new = new ≡ record old { pushed = new.pushed; popped = new.popped }

-- A lane that is well, since a start: it loaded and it pushed the blocks at these places, it worked all that it popped, and no count of its objects rose.
pub record Going {L Seed Out R S : Type 0} (c : Scene Seed Out R S) (number : ℕ) (first : Lane R S) (start : Post L Out) (loaded pushed : List ℕ) (lane : Lane R S) (post : Post L Out) : Type 0 where
  pub limit : c.desk.limit ≡ length c.blocks
  pub fit : FitIn c.blocks (told_by c first)
  pub at_desk : IsSeatOf c.desk post.seat
  pub at_queue : IsPassHere c.queue post.queue
  pub seat : IsSameSeat start.seat post.seat
  pub queue : IsSamePass start.queue post.queue
  pub claims : post.report.claims ≡ post.seat.drawn
  pub within : Each (λ place. place < length c.blocks) post.seat.drawn
  pub loads_within : Each (λ place. place < length c.blocks) loaded
  pub entries : Paired (IsLoaded c.blocks (told_by c first)) pushed post.queue.pushed
  pub done : Paired (IsDone number) post.queue.popped post.report.done
  pub worked : Worked c.job number post.queue.popped start.report.out post.report.out (objects_of first) (objects_of lane)
  pub fits : c.job.fits number post.report.out (objects_of lane)
  pub moves : c.job.moves (objects_of first) (objects_of lane)
  pub bytes : told_by c lane ≡ told_by c first
  pub log : (c.source lane.reader).log ≡ option_map (λ loads. loads ++ map (load_at c.blocks) loaded) (c.source first.reader).log
  pub read_well : (c.source lane.reader).faults ≡ (c.source first.reader).faults
  pub spilled_well : AreUncounted c.spill (objects_of first) (objects_of lane)

-- The causes of a lane's trouble, over the lane before its run and now: `Source` names the lane whose reader's count rose, and on any other trouble it didn't.
-- `Spill` names the least of the lane's other objects whose count rose, and on any other trouble but `Source` none of theirs did. `Changed` comes only where `changed` holds.
abbrev pub LaneCause : {Seed Out R S : Type 0} → Meaning Seed Out S → (R → SourceSeen) → (S → SpillSeen) → ℕ → (ℕ → ℕ → Type 0) → Lane R S → Lane R S → Trouble → Type 0
LaneCause m source spill number changed old new (troubles.Source whom) =
    (whom ≡ whoms.Lane number) × Rose (source old.reader).faults (source new.reader).faults × AreUncounted spill (objects_of old) (objects_of new)
LaneCause m source spill number changed old new (troubles.Spill whom) =
    IsLeastRisen spill number (objects_of old) (objects_of new) whom × ((source new.reader).faults ≡ (source old.reader).faults)
LaneCause m source spill number changed old new (troubles.Outside whom run at) =
    m.may_be_outside × (whom ≡ whoms.Lane number) × ((spill new.spill).runs ≡ None) × ((source new.reader).faults ≡ (source old.reader).faults) × AreUncounted spill (objects_of old) (objects_of new)
LaneCause m source spill number changed old new (troubles.Changed pass block) =
    changed pass block × ((source new.reader).faults ≡ (source old.reader).faults) × AreUncounted spill (objects_of old) (objects_of new)
LaneCause m source spill number changed old new troubles.Memory =
    ((source new.reader).faults ≡ (source old.reader).faults) × AreUncounted spill (objects_of old) (objects_of new)

-- no count of the lane's objects fell
abbrev pub NoCountFell : {R S : Type 0} → (R → SourceSeen) → (S → SpillSeen) → Lane R S → Lane R S → Type 0
NoCountFell source spill old new = ((source old.reader).faults ≤ (source new.reader).faults) × NoneFell spill (objects_of old) (objects_of new)

-- a lane that leaves early
pub record Leaving {L Seed Out R S : Type 0} (c : Scene Seed Out R S) (number : ℕ) (first : Lane R S) (start : Post L Out) (lane : Lane R S) (post : Post L Out) (trouble : Trouble) : Type 0 where
  pub seat : IsSameSeat start.seat post.seat
  pub queue : IsSamePass start.queue post.queue
  pub entries : Each (IsSomeBlock c.blocks (told_by c first)) post.queue.pushed
  pub moves : c.job.moves (objects_of first) (objects_of lane)
  pub bytes : told_by c lane ≡ told_by c first
  pub log : GrewByBlocks c.blocks (c.source first.reader).log (c.source lane.reader).log
  pub never_falls : NoCountFell c.source c.spill first lane
  pub cause : LaneCause c.job c.source c.spill number (SomeChanges c.job post.queue.popped) first lane trouble

-- the lane is well, since some start
abbrev pub IsWell : {L Seed Out R S : Type 0} → Scene Seed Out R S → ℕ → Lane R S → Post L Out → Type 0
IsWell {L} {Seed} {Out} {R} {S} c number lane post = (first : Lane R S) × (start : Post L Out) × (loaded : List ℕ) × (pushed : List ℕ) × Going c number first start loaded pushed lane post

-- the same of a lane that has pushed all that it claimed
abbrev pub IsReady : {L Seed Out R S : Type 0} → Scene Seed Out R S → ℕ → Lane R S → Post L Out → Type 0
IsReady {L} {Seed} {Out} {R} {S} c number lane post = (first : Lane R S) × (start : Post L Out) × Going c number first start post.seat.drawn post.seat.drawn lane post

-- what a step of a lane that is well does, since whatever start: it is well, or it leaves
abbrev pub GoesOnWell : {L Seed Out R S A : Type 0} → Scene Seed Out R S → ℕ → Lane R S → Post L Out → Lane R S → Post L Out → Result A Trouble → Type 0
GoesOnWell {L} {Seed} {Out} {R} {S} c number lane post lane' post' result =
    (first : Lane R S) (start : Post L Out) (loaded pushed : List ℕ) → Going c number first start loaded pushed lane post
    → OnOk result (Going c number first start loaded pushed lane' post' × (post'.seat ≡ post.seat)) × IfErr result (Leaving c number first start lane' post')

-- a lane that is well stays so, with the same seat
abbrev pub KeepsWell : {L Seed Out R S : Type 0} → Scene Seed Out R S → ℕ → Lane R S → Post L Out → Lane R S → Post L Out → Type 0
KeepsWell {L} {Seed} {Out} {R} {S} c number lane post lane' post' =
    (first : Lane R S) (start : Post L Out) (loaded pushed : List ℕ) → Going c number first start loaded pushed lane post → Going c number first start loaded pushed lane' post' × (post'.seat ≡ post.seat)

-- a call of the job on a batch, by a lane, which lists what was granted
pub record TakesUp {Seed Out R S : Type 0} (m : Meaning Seed Out S) (spill : S → SpillSeen) (number : ℕ) (batch : BatchFacts) (lane : Lane R S) (report : Report Out) (lane' : Lane R S) (report' : Report Out) (result : Result ⊤ Trouble) : Type 0 where
  pub reader : lane'.reader ≡ lane.reader
  pub claims : report'.claims ≡ report.claims
  pub moves : m.moves (objects_of lane) (objects_of lane')
  pub never_falls : NoneFell spill (objects_of lane) (objects_of lane')
  pub worked :
      OnOk result
      (m.works number batch.entry report.out report'.out (objects_of lane) (objects_of lane') × m.fits number report'.out (objects_of lane') × AreUncounted spill (objects_of lane) (objects_of lane'))
  pub listed : OnOk result ((d : Done) × (report'.done ≡ report.done ++ d ∷ []) × IsDone number batch.entry d × (d.granted ≡ batch.granted))
  pub cause : IfErr result (JobCause m spill number (MayChange m batch.entry) (objects_of lane) (objects_of lane'))

-- the causes of a refused load
abbrev pub LoadCause : ℕ → SourceSeen → SourceSeen → Trouble → Type 0
LoadCause number old new (troubles.Source whom) = (whom ≡ whoms.Lane number) × Rose old.faults new.faults
LoadCause number old new troubles.Memory = new.faults ≡ old.faults
LoadCause number old new _ = ⊥

-- a load of a block's body
pub record Loads {R S : Type 0} (source : R → SourceSeen) (number : ℕ) (block : BlockAt) (lane lane' : Lane R S) (result : Result BatchFacts Trouble) : Type 0 where
  pub spill : lane'.spill ≡ lane.spill
  pub bytes : (source lane'.reader).bytes ≡ (source lane.reader).bytes
  pub numbered : IfOk result (λ batch. batch.entry.no ≡ block.no)
  pub size : IfOk result (λ batch. length batch.entry.bytes ≡ block.len)
  pub body : IfOk result (λ batch. IfSome (source lane.reader).bytes (λ bytes. batch.entry.bytes ≡ slice_range bytes block.at (block.at + block.len)))
  pub log : OnOk result ((source lane'.reader).log ≡ option_map (λ loads. loads ++ (block.at, block.len) ∷ []) (source lane.reader).log)
  pub kept : OnErr result ((source lane'.reader).log ≡ (source lane.reader).log)
  pub well : OnOk result ((source lane'.reader).faults ≡ (source lane.reader).faults)
  pub never_falls : (source lane.reader).faults ≤ (source lane'.reader).faults
  pub cause : IfErr result (LoadCause number (source lane.reader) (source lane'.reader))

-- a push of a batch, whose block stands at some place
abbrev pub PushesOn : {L Seed Out R S : Type 0} → Scene Seed Out R S → ℕ → Lane R S → Post L Out → Entry → Lane R S → Post L Out → Result ⊤ Trouble → Type 0
PushesOn {L} {Seed} {Out} {R} {S} c number lane post entry lane' post' result =
    (first : Lane R S) (start : Post L Out) (loaded pushed : List ℕ) (place : ℕ) → Going c number first start loaded pushed lane post → IsLoaded c.blocks (told_by c first) place entry
    → OnOk result (Going c number first start loaded (pushed ++ place ∷ []) lane' post' × (post'.seat ≡ post.seat)) × IfErr result (Leaving c number first start lane' post')

-- the lane is well, and has pushed all that it claimed
abbrev pub AllPushed : {L Seed Out R S : Type 0} → Scene Seed Out R S → ℕ → Lane R S → Post L Out → Lane R S → Post L Out → Type 0
AllPushed c number first start lane post = Going c number first start post.seat.drawn post.seat.drawn lane post

-- no block was left to claim
abbrev pub HasSeenEnd : {L Seed Out R S : Type 0} → Scene Seed Out R S → Post L Out → Type 0
HasSeenEnd c post = has_ended c.desk.limit post.seat.seen ≡ true

-- one block more is claimed and pushed, or none was left
abbrev pub TakesOn : {L Seed Out R S : Type 0} → Scene Seed Out R S → ℕ → Lane R S → Post L Out → Lane R S → Post L Out → Result Bool Trouble → Type 0
TakesOn {L} {Seed} {Out} {R} {S} c number lane post lane' post' result =
    (first : Lane R S) (start : Post L Out) → AllPushed c number first start lane post
    → IfOk result (λ more. AllPushed c number first start lane' post' × (more ≡ false → HasSeenEnd c post')) × IfErr result (Leaving c number first start lane' post')

-- the lane claimed and pushed until no block was left
abbrev pub FillsUp : {L Seed Out R S : Type 0} → Scene Seed Out R S → ℕ → Lane R S → Post L Out → Lane R S → Post L Out → Result ⊤ Trouble → Type 0
FillsUp {L} {Seed} {Out} {R} {S} c number lane post lane' post' result =
    (first : Lane R S) (start : Post L Out) → AllPushed c number first start lane post
    → OnOk result (AllPushed c number first start lane' post' × HasSeenEnd c post') × IfErr result (Leaving c number first start lane' post')

-- the lane claimed blocks and pushed them all
abbrev pub FillsSoFar : {L Seed Out R S : Type 0} → Scene Seed Out R S → ℕ → Lane R S → Post L Out → Lane R S → Post L Out → Type 0
FillsSoFar {L} {Seed} {Out} {R} {S} c number lane post lane' post' =
    (first : Lane R S) (start : Post L Out) → AllPushed c number first start lane post → AllPushed c number first start lane' post'

-- a lane's whole run: it is well and has seen the end, or its trouble is told
abbrev pub RunsOut : {L Seed Out R S : Type 0} → Scene Seed Out R S → ℕ → Lane R S → Post L Out → Lane R S → Post L Out → Type 0
RunsOut {L} {Seed} {Out} {R} {S} c number lane post lane' post' =
    (first : Lane R S) (start : Post L Out) → AllPushed c number first start lane post
    → MatchOption post'.report.trouble (AllPushed c number first start lane' post' × HasSeenEnd c post') (Leaving c number first start lane' post')

-- the end of a lane's part
pub record EndsPart {Seed Out R S : Type 0} (m : Meaning Seed Out S) (spill : S → SpillSeen) (number : ℕ) (lane : Lane R S) (report : Report Out) (lane' : Lane R S) (report' : Report Out) : Type 0 where
  pub reader : lane'.reader ≡ lane.reader
  pub claims : report'.claims ≡ report.claims
  pub done : report'.done ≡ report.done
  pub moves : m.moves (objects_of lane) (objects_of lane')
  pub never_falls : NoneFell spill (objects_of lane) (objects_of lane')
  pub ended : MatchOption report'.trouble (m.ends number report.out report'.out (objects_of lane) (objects_of lane') × AreUncounted spill (objects_of lane) (objects_of lane')) (JobCause m spill number NeverChanges (objects_of lane) (objects_of lane'))
