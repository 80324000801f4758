-- How a pass over lanes ends: what it answers, and what it leaves of the lanes.
use Rattle.std.specs.Prelude.{◌≡◌, ℕ, true, ◌==◌, ◌<◌, ◌≤◌, ◌^◌, ◌++◌, None, List, length, map}
use Rattle.std.specs.List.{concat, filter, flat_map}
use Rattle.std.specs.declared.cmp.Ordering.TheVariants.{Less}
use Rattle.std.specs.Option.{option_map}
use mathlib.Core.Option.{some}
use lib.ListN.{get_elem?}
use Rattle.tb_types.specs.Bags.{IsSameBag, below}
use Rattle.tb_types.specs.Counts.{Rose}
use Rattle.tb_types.specs.Needs.{block_need}
use Rattle.tb_types.specs.Orders.{whom_order}
use Rattle.tb_types.specs.declared.trouble.Trouble.{Trouble}
use Rattle.tb_types.specs.declared.trouble.Trouble.TheVariants as troubles
use Rattle.tb_types.specs.declared.trouble.Whom.{Whom}
use Rattle.tb_types.specs.declared.trouble.Whom.TheVariants as whoms
use Rattle.tb_outside.specs.declared.lane.Lane.{Lane}
use Rattle.tb_outside.specs.Source.{SourceSeen}
use Rattle.tb_outside.specs.Spill.{SpillSeen}
use Rattle.pbf_blobs.specs.declared.block.BlockAt.{BlockAt}
use Rattle.claim_desk.specs.Facts as desks
use Rattle.batch_queue.specs.Facts as queues
use Rattle.batch_queue.specs.declared.entry.Entry.{Entry}
use Rattle.flow_core.specs.Settled.{Settled, list_at}
use Rattle.work_topology.specs.declared.ends.Done.{Done}
use Rattle.work_topology.specs.declared.ends.Ends.{Ends}
use Rattle.work_topology.specs.Lists.{Each, Paired}
use Rattle.work_topology.specs.Blocks.{IsLoaded, block_at, number_at, numbers_at, place_of, load_at, FitIn, AreAffordable, Ascend, GrewByBlocks}
use Rattle.work_topology.specs.Objects.{Objects, objects_of, AreUncounted, HasRisen, StayBefore}
use Rattle.work_topology.specs.Job.{Meaning, Worked, MayChange}
use Rattle.work_topology.specs.Lane.{NoCountFell}

-- what one lane worked, in order, and the places of these blocks
abbrev pub done_by : List Done → ℕ → List Done
done_by done lane = filter (λ d. d.lane == lane) done

abbrev pub places_done : List BlockAt → ℕ → List Done → List (List ℕ)
places_done blocks lanes done = map (λ lane. map (λ d. place_of blocks d.block) (done_by done lane)) (below lanes)

-- The conditions of a pass. For each lane, whatever `start` may give on its seed meets the job's fact with that lane's objects.
pub record MayPass {Seed Out R S : Type 0} (m : Meaning Seed Out S) (source : R → SourceSeen) (blocks : List BlockAt) (lanes : List (Lane R S)) (seeds : List Seed) (queue budget : ℕ) : Type 0 where
  pub some_lane : 0 < length lanes
  pub few_lanes : length lanes ≤ 64
  pub seeded : length seeds ≡ length lanes
  pub few_blocks : length blocks ≤ 2 ^ 24
  pub ascend : Ascend blocks
  pub some_room : 0 < queue
  pub few_places : queue ≤ 1024
  pub affordable : AreAffordable blocks budget
  pub inside : Each (λ lane. FitIn blocks (source lane.reader).bytes) lanes
  pub ready : (k : ℕ) (lane : Lane R S) (seed : Seed) (out : Out) → get_elem? lanes k ≡ some lane → get_elem? seeds k ≡ some seed → m.starts k seed out → m.fits k out (objects_of lane)

-- The entry is the block at this place as some lane's source gave it.
abbrev pub IsGiven : {R S : Type 0} → (R → SourceSeen) → List BlockAt → List (Lane R S) → ℕ → Entry → Type 0
IsGiven {R} {S} source blocks lanes place entry = (j : ℕ) × (lane : Lane R S) × (get_elem? lanes j ≡ some lane) × IsLoaded blocks (source lane.reader).bytes place entry

-- no count of the lane's objects rose
abbrev pub IsUncounted : {R S : Type 0} → (R → SourceSeen) → (S → SpillSeen) → Lane R S → Lane R S → Type 0
IsUncounted source spill old new = ((source new.reader).faults ≡ (source old.reader).faults) × AreUncounted spill (objects_of old) (objects_of new)

-- One lane of a pass that ended well: it loaded the bodies of the blocks that it claimed, each once, and its out is what `start` on its seed, `work` on the
-- entries that it popped, in order, and `end` gave.
pub record LaneEnds {Seed Out R S : Type 0} (m : Meaning Seed Out S) (source : R → SourceSeen) (spill : S → SpillSeen) (blocks : List BlockAt) (lanes : List (Lane R S)) (number : ℕ) (old new : Lane R S) (seed : Seed) (out : Out) (claims popped : List ℕ) (entries : List Entry) (done : List Done) : Type 0 where
  pub loads : (source new.reader).log ≡ option_map (λ log. log ++ map (load_at blocks) claims) (source old.reader).log
  pub counts : IsUncounted source spill old new
  pub given : Paired (IsGiven source blocks lanes) popped entries
  pub numbers : map (λ d. d.block) (done_by done number) ≡ map (λ e. e.no) entries
  pub start : Out
  pub worked : Out
  pub between : Objects S
  pub started : m.starts number seed start
  pub works : Worked m number entries start worked (objects_of old) between
  pub ended : m.ends number worked out between (objects_of new)

-- A block that was worked: it is one of the blocks, and its need was granted.
abbrev pub IsGranted : List BlockAt → Done → Type 0
IsGranted blocks d = (place : ℕ) × (place < length blocks) × (d.block ≡ number_at blocks place) × (block_need (block_at blocks place).len ≤ d.granted)

-- What a pass gives that ended well: each block was claimed, pushed, popped and worked once.
pub record PassEnds {L Seed Out R S : Type 0} (m : Meaning Seed Out S) (source : R → SourceSeen) (spill : S → SpillSeen) (blocks : List BlockAt) (old new : List (Lane R S)) (seeds : List Seed) (ends : Ends L Out) : Type 0 where
  pub settled : Settled (length blocks) ends.claims ends.pushed ends.popped (places_done blocks (length old) ends.done)
  pub lists : (length ends.outs ≡ length old) × (length ends.claims ≡ length old) × (length ends.pushed ≡ length old) × (length ends.popped ≡ length old)
  pub one_each : length ends.done ≡ length blocks
  pub granted : Each (IsGranted blocks) ends.done
  -- the seat has the claims, lane after lane, and none is left to claim
  pub seat : ends.seat.drawn ≡ concat ends.claims
  pub seats_joined : desks.IsWhole ends.seat
  pub limit : ends.seat.limit ≡ length blocks
  pub at_end : desks.has_ended (length blocks) ends.seat.seen ≡ true
  -- the queue's pass has the numbers of all blocks pushed and popped, each once
  pub passes_joined : queues.IsWhole ends.queue
  pub pushed : IsSameBag (map (λ e. e.no) ends.queue.pushed) (numbers_at blocks (concat ends.pushed))
  pub popped : IsSameBag (map (λ e. e.no) ends.queue.popped) (numbers_at blocks (concat ends.popped))
  pub pushed_once : IsSameBag (map (λ e. e.no) ends.queue.pushed) (map (λ block. block.no) blocks)
  pub popped_once : IsSameBag (map (λ e. e.no) ends.queue.popped) (map (λ block. block.no) blocks)
  -- the entries that each lane worked; all together they are those that the queue's pass popped
  pub entries : List (List Entry)
  pub all_entries : IsSameBag (flat_map (λ es. es) entries) ends.queue.popped
  pub lanes :
      (k : ℕ) (lane lane' : Lane R S) (seed : Seed) (out : Out) (es : List Entry) → get_elem? old k ≡ some lane → get_elem? new k ≡ some lane' → get_elem? seeds k ≡ some seed → get_elem? ends.outs k ≡ some out → get_elem? entries k ≡ some es
      → LaneEnds m source spill blocks old k lane lane' seed out (list_at ends.claims k) (list_at ends.popped k) es ends.done

-- it holds of each lane, with its number, before and after
abbrev pub EachLane : {R S : Type 0} → (ℕ → Lane R S → Lane R S → Type 0) → List (Lane R S) → List (Lane R S) → Type 0
EachLane {R} {S} P old new = (k : ℕ) (lane lane' : Lane R S) → get_elem? old k ≡ some lane → get_elem? new k ≡ some lane' → P k lane lane'

-- it holds of some lane
abbrev pub SomeLane : {R S : Type 0} → (ℕ → Lane R S → Lane R S → Type 0) → List (Lane R S) → List (Lane R S) → Type 0
SomeLane {R} {S} P old new = (k : ℕ) × (lane : Lane R S) × (lane' : Lane R S) × (get_elem? old k ≡ some lane) × (get_elem? new k ≡ some lane') × P k lane lane'

abbrev pub ReaderUncounted : {R S : Type 0} → (R → SourceSeen) → Lane R S → Lane R S → Type 0
ReaderUncounted source old new = (source new.reader).faults ≡ (source old.reader).faults

-- the reader of the lane of this number has this name, and its count rose
abbrev pub ReaderRose : {R S : Type 0} → (R → SourceSeen) → ℕ → Lane R S → Lane R S → Whom → Type 0
ReaderRose source number old new whom = (whom ≡ whoms.Lane number) × Rose (source old.reader).faults (source new.reader).faults

-- if the reader of the lane of this number stands before this name, its count is as it was
abbrev pub ReaderStaysBefore : {R S : Type 0} → (R → SourceSeen) → ℕ → Lane R S → Lane R S → Whom → Type 0
ReaderStaysBefore source number old new whom = whom_order (whoms.Lane number) whom ≡ Less → ReaderUncounted source old new

-- a block that some lane's source gave, on whose bytes the job's test holds
abbrev pub IsChanged : {Seed Out R S : Type 0} → Meaning Seed Out S → (R → SourceSeen) → List BlockAt → List (Lane R S) → ℕ → ℕ → Type 0
IsChanged m source blocks lanes pass block = (place : ℕ) × (entry : Entry) × IsGiven source blocks lanes place entry × MayChange m entry pass block

-- The cause of a pass's trouble. `Source` names the least reader whose count rose, and `Spill`, where no reader's did, the least other object whose count did.
-- Any other trouble comes only where none rose: `Outside` with the spill of some lane that doesn't tell its runs, and `Changed` with a block's number and a
-- pass for which the job's test holds on bytes that some lane loaded for that block.
abbrev pub PassCause : {Seed Out R S : Type 0} → Meaning Seed Out S → (R → SourceSeen) → (S → SpillSeen) → List BlockAt → List (Lane R S) → List (Lane R S) → Trouble → Type 0
PassCause m source spill blocks old new (troubles.Source whom) =
    SomeLane (λ k lane lane'. ReaderRose source k lane lane' whom) old new × EachLane (λ k lane lane'. ReaderStaysBefore source k lane lane' whom) old new
PassCause m source spill blocks old new (troubles.Spill whom) =
    SomeLane (λ k lane lane'. HasRisen spill k (objects_of lane) (objects_of lane') whom) old new
    × EachLane (λ k lane lane'. StayBefore spill k (objects_of lane) (objects_of lane') whom × ReaderUncounted source lane lane') old new
PassCause m source spill blocks old new (troubles.Outside whom run at) =
    m.may_be_outside × SomeLane (λ k lane lane'. (whom ≡ whoms.Lane k) × ((spill lane'.spill).runs ≡ None)) old new × EachLane (λ k lane lane'. IsUncounted source spill lane lane') old new
PassCause m source spill blocks old new (troubles.Changed pass block) =
    IsChanged m source blocks old pass block × EachLane (λ k lane lane'. IsUncounted source spill lane lane') old new
PassCause m source spill blocks old new troubles.Memory = EachLane (λ k lane lane'. IsUncounted source spill lane lane') old new

-- What a pass leaves of each lane, whatever it answers: the reader's bytes stay, its told log grew by bodies of blocks of the list, no count fell, and the
-- other objects changed as the job says.
pub record LaneStays {Seed Out R S : Type 0} (m : Meaning Seed Out S) (source : R → SourceSeen) (spill : S → SpillSeen) (blocks : List BlockAt) (old new : Lane R S) : Type 0 where
  pub bytes : (source new.reader).bytes ≡ (source old.reader).bytes
  pub loads : GrewByBlocks blocks (source old.reader).log (source new.reader).log
  pub never_falls : NoCountFell source spill old new
  pub moves : m.moves (objects_of old) (objects_of new)

pub record LanesStay {Seed Out R S : Type 0} (m : Meaning Seed Out S) (source : R → SourceSeen) (spill : S → SpillSeen) (blocks : List BlockAt) (old new : List (Lane R S)) : Type 0 where
  pub same : length new ≡ length old
  pub each : EachLane (λ k lane lane'. LaneStays m source spill blocks lane lane') old new
