-- The lanes' parts, before they run and after: what each lane works with, all of it joined, and what is left in the queue.
use Rattle.std.specs.Prelude.{◌≡◌, ◌⊎◌, ℕ, true, ◌-◌, ◌<◌, ◌≤◌, ◌++◌, [], ◌∷◌, None, List, length, map, Result, OnOk, IfErr, ⊤}
use Rattle.std.specs.List.{flat_map}
use Rattle.std.specs.Option.{option_map}
use mathlib.Core.Option.{some}
use lib.ListN.{get_elem?}
use Rattle.tb_types.specs.Bags.{IsSameBag}
use Rattle.tb_types.specs.declared.trouble.Trouble.{Trouble}
use Rattle.tb_outside.specs.declared.lane.Lane.{Lane}
use Rattle.tb_outside.specs.Source.{SourceSeen}
use Rattle.tb_outside.specs.Spill.{SpillSeen}
use Rattle.pbf_blobs.specs.declared.block.BlockAt.{BlockAt}
use Rattle.claim_desk.specs.Facts as desks
use Rattle.claim_desk.specs.Facts.{DeskFacts, SeatFacts, IsSeatOf, has_ended}
use Rattle.batch_queue.specs.Facts as queues
use Rattle.batch_queue.specs.Facts.{QueueFacts, PassFacts, IsPassHere}
use Rattle.batch_queue.specs.declared.entry.Entry.{Entry}
use Rattle.work_topology.specs.declared.ends.Done.{Done}
use Rattle.work_topology.specs.declared.post.Report.{Report}
use Rattle.work_topology.specs.declared.post.Post.{Post}
use Rattle.work_topology.specs.declared.post.Gathered.{Gathered}
use Rattle.work_topology.specs.Lists.{Each, Paired}
use Rattle.work_topology.specs.Blocks.{IsLoaded, load_at, FitIn}
use Rattle.work_topology.specs.Objects.{objects_of, AreUncounted, NoneFell}
use Rattle.work_topology.specs.Job.{Meaning, Worked, JobCause, SomeChanges}
use Rattle.work_topology.specs.Lane.{Scene, IsDone, RunsOut}
use Rattle.work_topology.specs.Spread.{AllRun}
use Rattle.work_topology.specs.Told.{IsFirstTold}
use Rattle.work_topology.specs.Ends.{IsUncounted}

-- a desk's first seat, and a queue's first pass, after so many splits, with which nothing else was done
abbrev pub first_seat : DeskFacts → ℕ → SeatFacts
first_seat desk n = record { place = desk.place; limit = desk.limit; first = true; out = n; splits = n; seen = None; past = 0; drawn = [] }

abbrev pub first_pass : QueueFacts → ℕ → PassFacts
first_pass queue n = record { place = queue.place; first = true; out = n; pushed = []; popped = []; pushed_in_order = true; popped_in_order = true }

-- a report, at a desk and a queue, with nothing claimed, pushed or popped
pub record IsDealt {L Out : Type 0} (desk : DeskFacts) (queue : QueueFacts) (report : Report Out) (post : Post L Out) : Type 0 where
  pub reports : post.report ≡ report
  pub at_desk : IsSeatOf desk post.seat
  pub at_queue : IsPassHere queue post.queue
  pub no_claim : post.seat.drawn ≡ []
  pub no_push : post.queue.pushed ≡ []
  pub no_pop : post.queue.popped ≡ []

-- the post has the first seat and the first pass, which count so many others
pub record Leads {L Out : Type 0} (others : ℕ) (post : Post L Out) : Type 0 where
  pub seat : (post.seat.first ≡ true) × (post.seat.out ≡ others)
  pub pass : (post.queue.first ≡ true) × (post.queue.out ≡ others)

-- what holds of the first of these
abbrev pub OfFirst : {A : Type 0} → (A → Type 0) → List A → Type 0
OfFirst P [] = ⊥
OfFirst P (x ∷ xs) = P x

-- a post for each report; the first one leads
pub record AreDealt {L Out : Type 0} (desk : DeskFacts) (queue : QueueFacts) (reports : List (Report Out)) (posts : List (Post L Out)) : Type 0 where
  pub each : Paired (IsDealt desk queue) reports posts
  pub leads : OfFirst (Leads (length reports - 1)) posts

-- the seats and passes that are dealt behind the first ones, which count them
pub record DealsRest {L Out : Type 0} (desk : DeskFacts) (queue : QueueFacts) (reports : List (Report Out)) (seat : SeatFacts) (pass : PassFacts) (posts : List (Post L Out)) : Type 0 where
  pub each : Paired (IsDealt desk queue) reports posts
  pub of_seat : seat ≡ first_seat desk (length reports)
  pub of_pass : pass ≡ first_pass queue (length reports)

-- posts of one desk and one queue, the first of which leads
pub record AreTogether {L Out : Type 0} (desk : DeskFacts) (queue : QueueFacts) (posts : List (Post L Out)) : Type 0 where
  pub here : Each (λ post. IsSeatOf desk post.seat × IsPassHere queue post.queue) posts
  pub leads : OfFirst (Leads (length posts - 1)) posts

-- all seats, all passes and all reports of these posts, lane after lane
pub record AreGathered {L Out : Type 0} (desk : DeskFacts) (queue : QueueFacts) (posts : List (Post L Out)) (seat : SeatFacts) (pass : PassFacts) (reports : List (Report Out)) : Type 0 where
  pub each : reports ≡ map (λ post. post.report) posts
  pub at_desk : IsSeatOf desk seat
  pub at_queue : IsPassHere queue pass
  pub seats : desks.IsWhole seat
  pub passes : queues.IsWhole pass
  pub drawn : seat.drawn ≡ flat_map (λ post. post.seat.drawn) posts
  pub pushed : pass.pushed ≡ flat_map (λ post. post.queue.pushed) posts
  pub popped : pass.popped ≡ flat_map (λ post. post.queue.popped) posts
  pub ended : OfFirst (λ post. has_ended desk.limit post.seat.seen ≡ true → has_ended desk.limit seat.seen ≡ true) posts

-- the seats, passes and reports of these posts, behind those that were there
pub record GathersRest {L Out : Type 0} (desk : DeskFacts) (posts : List (Post L Out)) (seat : SeatFacts) (pass : PassFacts) (reports : List (Report Out)) (seat' : SeatFacts) (pass' : PassFacts) (reports' : List (Report Out)) : Type 0 where
  pub each : reports' ≡ reports ++ map (λ post. post.report) posts
  pub of_seat : (seat'.place ≡ seat.place) × (seat'.limit ≡ seat.limit) × (seat'.first ≡ seat.first) × (seat'.out ≡ seat.out - length posts)
  pub of_pass : (pass'.place ≡ pass.place) × (pass'.first ≡ pass.first) × (pass'.out ≡ pass.out - length posts)
  pub drawn : seat'.drawn ≡ seat.drawn ++ flat_map (λ post. post.seat.drawn) posts
  pub pushed : pass'.pushed ≡ pass.pushed ++ flat_map (λ post. post.queue.pushed) posts
  pub popped : pass'.popped ≡ pass.popped ++ flat_map (λ post. post.queue.popped) posts
  pub ended : has_ended desk.limit seat.seen ≡ true → has_ended desk.limit seat'.seen ≡ true

-- batches that were left are worked on a lane, one after another, and listed
pub record WorksLeft {Seed Out R S : Type 0} (m : Meaning Seed Out S) (spill : S → SpillSeen) (number : ℕ) (entries : List Entry) (lane : Lane R S) (report : Report Out) (lane' : Lane R S) (report' : Report Out) (result : Result ⊤ Trouble) : Type 0 where
  pub reader : lane'.reader ≡ lane.reader
  pub claims : report'.claims ≡ report.claims
  pub moves : m.moves (objects_of lane) (objects_of lane')
  pub never_falls : NoneFell spill (objects_of lane) (objects_of lane')
  pub worked :
      OnOk result
      (Worked m number entries report.out report'.out (objects_of lane) (objects_of lane') × m.fits number report'.out (objects_of lane') × AreUncounted spill (objects_of lane) (objects_of lane'))
  pub listed : OnOk result ((ds : List Done) × (report'.done ≡ report.done ++ ds) × Paired (IsDone number) entries ds)
  pub cause : IfErr result (JobCause m spill number (SomeChanges m entries) (objects_of lane) (objects_of lane'))

-- these entries were popped, and nothing else became of the pass
abbrev pub PopsAlso : PassFacts → List Entry → PassFacts → Type 0
PopsAlso old entries new = new ≡ record old { popped = old.popped ++ entries }

-- what was left in the queue is worked, up to the first trouble; without trouble all of it
abbrev pub EmptiesQueue : {Seed Out R S : Type 0} → Meaning Seed Out S → (S → SpillSeen) → ℕ → PassFacts → Lane R S → Report Out → PassFacts → Lane R S → Report Out → Result ⊤ Trouble → Type 0
EmptiesQueue m spill number pass lane report pass' lane' report' result =
    (entries : List Entry) × PopsAlso pass entries pass' × WorksLeft m spill number entries lane report lane' report' result × OnOk result (IsSameBag pass'.pushed pass'.popped)

-- the first lane and its report meet the job's fact
abbrev pub FirstFits : {Seed Out R S : Type 0} → Meaning Seed Out S → List (Lane R S) → List (Report Out) → Type 0
FirstFits {Seed} {Out} {R} {S} m lanes reports =
    (lane : Lane R S) (report : Report Out) → get_elem? lanes 0 ≡ some lane → get_elem? reports 0 ≡ some report → m.fits 0 report.out (objects_of lane)

-- what was left in the queue is worked on the first lane; the others and their reports are as they were
pub record WorksOnFirst {Seed Out R S : Type 0} (m : Meaning Seed Out S) (spill : S → SpillSeen) (pass : PassFacts) (lanes : List (Lane R S)) (reports : List (Report Out)) (pass' : PassFacts) (lanes' : List (Lane R S)) (reports' : List (Report Out)) (result : Result ⊤ Trouble) : Type 0 where
  pub lane : Lane R S
  pub lane' : Lane R S
  pub rest : List (Lane R S)
  pub report : Report Out
  pub report' : Report Out
  pub others : List (Report Out)
  pub were : (lanes ≡ lane ∷ rest) × (reports ≡ report ∷ others)
  pub are : (lanes' ≡ lane' ∷ rest) × (reports' ≡ report' ∷ others)
  pub does : EmptiesQueue m spill 0 pass lane report pass' lane' report' result

-- no lane had trouble
abbrev pub NoneTold : {Out : Type 0} → List (Report Out) → Type 0
NoneTold reports = Each (λ r. r.trouble ≡ None) reports

-- a lane's trouble is told, and nothing else was done
pub record IsRefused {Out R S : Type 0} (pass : PassFacts) (lanes : List (Lane R S)) (reports : List (Report Out)) (pass' : PassFacts) (lanes' : List (Lane R S)) (result : Result ⊤ Trouble) : Type 0 where
  pub err : OnOk result ⊥
  pub first : IfErr result (IsFirstTold reports)
  pub same_pass : pass' ≡ pass
  pub same_lanes : lanes' ≡ lanes

-- what was left in the queue is worked on the first lane, or a lane had trouble, which is told
abbrev pub WorksRest : {Seed Out R S : Type 0} → Meaning Seed Out S → (S → SpillSeen) → PassFacts → List (Lane R S) → List (Report Out) → PassFacts → List (Lane R S) → List (Report Out) → Result ⊤ Trouble → Type 0
WorksRest m spill pass lanes reports pass' lanes' reports' result =
    (NoneTold reports × WorksOnFirst m spill pass lanes reports pass' lanes' reports' result) ⊎ IsRefused pass lanes reports pass' lanes' result

-- what was left in the queue is popped, all of it
abbrev pub GivesLeft : PassFacts → PassFacts → Type 0
GivesLeft pass pass' = (entries : List Entry) × PopsAlso pass entries pass' × IsSameBag pass'.pushed pass'.popped

-- The conditions of the work on all blocks: each lane has started, has nothing claimed nor worked, and meets the job's fact.
pub record MayWork {Seed Out R S : Type 0} (m : Meaning Seed Out S) (source : R → SourceSeen) (blocks : List BlockAt) (lanes : List (Lane R S)) (desk : DeskFacts) (starts : List (Report Out)) (queue : ℕ) : Type 0 where
  pub some_lane : 0 < length lanes
  pub few_lanes : length lanes ≤ 64
  pub same : length starts ≡ length lanes
  pub limit : desk.limit ≡ length blocks
  pub some_room : 0 < queue
  pub few_places : queue ≤ 1024
  pub inside : Each (λ lane. FitIn blocks (source lane.reader).bytes) lanes
  pub fresh : Each (λ start. (start.claims ≡ []) × (start.done ≡ [])) starts
  pub ready : (k : ℕ) (lane : Lane R S) (start : Report Out) → get_elem? lanes k ≡ some lane → get_elem? starts k ≡ some start → m.fits k start.out (objects_of lane)

-- Each lane was dealt a post, ran to its end from there, and all that they did was gathered.
pub record HaveRunOut {L Seed Out R S : Type 0} (c : Scene Seed Out R S) (lanes : List (Lane R S)) (starts : List (Report Out)) (lanes' : List (Lane R S)) (g : Gathered L Out) : Type 0 where
  pub posts : List (Post L Out)
  pub posts' : List (Post L Out)
  pub dealt : AreDealt c.desk c.queue starts posts
  pub ran : AllRun (λ number lane post lane' post'. RunsOut c number lane post lane' post') 0 lanes posts lanes' posts'
  pub gathered : AreGathered c.desk c.queue posts' g.seat g.pass g.reports.items

-- One lane after all blocks were worked: what it claimed, loaded and pushed, and what it popped and worked.
pub record HasWorked {Seed Out R S : Type 0} (m : Meaning Seed Out S) (source : R → SourceSeen) (spill : S → SpillSeen) (blocks : List BlockAt) (number : ℕ) (old new : Lane R S) (start report : Report Out) (pushed popped : List Entry) : Type 0 where
  pub within : Each (λ place. place < length blocks) report.claims
  pub loaded : Paired (IsLoaded blocks (source old.reader).bytes) report.claims pushed
  pub done : Paired (IsDone number) popped report.done
  pub works : Worked m number popped start.out report.out (objects_of old) (objects_of new)
  pub fits : m.fits number report.out (objects_of new)
  pub moves : m.moves (objects_of old) (objects_of new)
  pub bytes : (source new.reader).bytes ≡ (source old.reader).bytes
  pub log : (source new.reader).log ≡ option_map (λ loads. loads ++ map (load_at blocks) report.claims) (source old.reader).log
  pub counts : IsUncounted source spill old new

-- all lanes after all blocks were worked, with seats and passes joined
pub record HaveWorked {Seed Out R S : Type 0} (m : Meaning Seed Out S) (source : R → SourceSeen) (spill : S → SpillSeen) (blocks : List BlockAt) (old new : List (Lane R S)) (starts reports : List (Report Out)) (seat : SeatFacts) (pass : PassFacts) : Type 0 where
  pub lanes_len : length new ≡ length old
  pub reports_len : length reports ≡ length old
  pub pushed : List (List Entry)
  pub popped : List (List Entry)
  pub pushed_len : length pushed ≡ length old
  pub popped_len : length popped ≡ length old
  pub each :
      (k : ℕ) (lane lane' : Lane R S) (start report : Report Out) (es fs : List Entry) → get_elem? old k ≡ some lane → get_elem? new k ≡ some lane' → get_elem? starts k ≡ some start → get_elem? reports k ≡ some report → get_elem? pushed k ≡ some es → get_elem? popped k ≡ some fs
      → HasWorked m source spill blocks k lane lane' start report es fs
  pub seats : desks.IsWhole seat
  pub limit : seat.limit ≡ length blocks
  pub ended : has_ended (length blocks) seat.seen ≡ true
  pub drawn : seat.drawn ≡ flat_map (λ report. report.claims) reports
  pub passes : queues.IsWhole pass
  pub all_pushed : pass.pushed ≡ flat_map (λ es. es) pushed
  pub all_popped : IsSameBag (flat_map (λ es. es) popped) pass.popped
  pub moved : IsSameBag pass.pushed pass.popped
