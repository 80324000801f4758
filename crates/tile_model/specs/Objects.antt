-- The objects outside that a build uses, as a contract sees them at one moment, and their counts of faults.
use Rattle.std.specs.Prelude.{◌≡◌, ℕ, zero, suc, ◌≤◌, Bool, true, false, ◌||◌, ◌&&◌, ◌==◌, nat_lt, Option, None, Some, option_and_then, List, [], ◌∷◌, All}
use Rattle.std.specs.declared.cmp.Ordering.{Ordering}
use Rattle.std.specs.declared.cmp.Ordering.TheVariants.{Less, Equal, Greater}
use Rattle.tb_types.specs.Counts.{Rose}
use Rattle.tb_types.specs.Orders.{whom_order}
use Rattle.tb_types.specs.declared.trouble.Whom.{Whom}
use Rattle.tb_types.specs.declared.trouble.Whom.TheVariants.{Profile, Lane, Spool, Archive, Console}
use Rattle.tb_outside.specs.Source.{SourceSeen}
use Rattle.tb_outside.specs.Spill.{Runs, SpillSeen}
use Rattle.tb_outside.specs.Sink.{SinkSeen}
use Rattle.tb_outside.specs.declared.lane.Lane as lanes

pub record Objects : Type 0 where
  pub profile : SourceSeen
  pub readers : List SourceSeen
  pub spills : List SpillSeen
  pub spool : SpillSeen
  pub archive : SinkSeen

-- the objects of a build on one lane
abbrev pub one_lane : {P R S K : Type 0} → (P → SourceSeen) → (R → SourceSeen) → (S → SpillSeen) → (K → SinkSeen) → P → lanes.Lane R S → S → K → Objects
one_lane profiles readers spills sinks profile lane spool archive =
    record {
      profile = profiles profile;
      readers = readers lane.reader ∷ [];
      spills = spills lane.spill ∷ [];
      spool = spills spool;
      archive = sinks archive;
    }

abbrev pub first_bytes : List SourceSeen → Option (List ℕ)
first_bytes [] = None
first_bytes (r ∷ readers) = r.bytes

-- the bytes of the extract, where the reader of lane 0 tells them
abbrev pub extract_in : Objects → Option (List ℕ)
extract_in objects = first_bytes objects.readers

-- what is done with an object: it is read, spilled to or written to
pub data Role : Type 0 where
  reading : Role
  spilling : Role
  writing : Role

abbrev pub reader_count : List SourceSeen → ℕ → ℕ
reader_count [] k = 0
reader_count (r ∷ readers) zero = r.faults
reader_count (r ∷ readers) (suc k) = reader_count readers k

abbrev pub spill_count : List SpillSeen → ℕ → ℕ
spill_count [] k = 0
spill_count (s ∷ spills) zero = s.faults
spill_count (s ∷ spills) (suc k) = spill_count spills k

-- the count of faults of an object in its role; what isn't used has none
abbrev pub count_of : Objects → Role → Whom → ℕ
count_of objects reading Profile = objects.profile.faults
count_of objects reading (Lane k) = reader_count objects.readers k
count_of objects reading Spool = 0
count_of objects reading Archive = 0
count_of objects reading Console = 0
count_of objects spilling Profile = 0
count_of objects spilling (Lane k) = spill_count objects.spills k
count_of objects spilling Spool = objects.spool.faults
count_of objects spilling Archive = 0
count_of objects spilling Console = 0
count_of objects writing Profile = 0
count_of objects writing (Lane k) = 0
count_of objects writing Spool = 0
count_of objects writing Archive = objects.archive.faults
count_of objects writing Console = 0

-- all counts are as they were
abbrev pub CountsStay : Objects → Objects → Type 0
CountsStay before after = (role : Role) (whom : Whom) → count_of after role whom ≡ count_of before role whom

-- no count can have risen
abbrev pub NoneRose : Objects → Objects → Type 0
NoneRose before after = (role : Role) (whom : Whom) → Rose (count_of before role whom) (count_of after role whom) → ⊥

-- no count fell
abbrev pub NoneFell : Objects → Objects → Type 0
NoneFell before after = (role : Role) (whom : Whom) → count_of before role whom ≤ count_of after role whom

-- sources stand before spills, and these before sinks; objects of one role by their order
abbrev pub role_rank : Role → ℕ
role_rank reading = 0
role_rank spilling = 1
role_rank writing = 2

abbrev pub is_less : Ordering → Bool
is_less Less = true
is_less Equal = false
is_less Greater = false

abbrev pub stands_before : Role → Whom → Role → Whom → Bool
stands_before role whom other_role other = nat_lt (role_rank role) (role_rank other_role) || ((role_rank role == role_rank other_role) && is_less (whom_order whom other))

-- the count of an object rose, and all that stand before it are as they were: it is the least whose count rose
pub record LeastRose (before after : Objects) (role : Role) (whom : Whom) : Type 0 where
  pub rose : Rose (count_of before role whom) (count_of after role whom)
  pub least : (other_role : Role) (other : Whom) → stands_before other_role other role whom ≡ true → count_of after other_role other ≡ count_of before other_role other

-- all readers tell the same bytes
abbrev pub TellTheSame : List SourceSeen → Type 0
TellTheSame readers = (bytes : List ℕ) × All (λ (r : SourceSeen). r.bytes ≡ Some bytes) readers

-- the runs that a spill tells, by its object's name; what is no spill tells that it has none
abbrev pub spill_runs : List SpillSeen → ℕ → Option Runs
spill_runs [] k = Some (record { ended = []; begun = None })
spill_runs (s ∷ spills) zero = s.runs
spill_runs (s ∷ spills) (suc k) = spill_runs spills k

abbrev pub runs_told : Objects → Whom → Option Runs
runs_told objects Profile = Some (record { ended = []; begun = None })
runs_told objects (Lane k) = spill_runs objects.spills k
runs_told objects Spool = objects.spool.runs
runs_told objects Archive = Some (record { ended = []; begun = None })
runs_told objects Console = Some (record { ended = []; begun = None })

-- the spool's runs, where it and all spills tell theirs
abbrev pub if_told : List SpillSeen → Option Runs → Option Runs
if_told [] runs = runs
if_told (s ∷ spills) runs = option_and_then (λ (told : Runs). if_told spills runs) s.runs

abbrev pub all_told : Objects → Option Runs
all_told objects = if_told objects.spills objects.spool.runs
