-- The lanes and the spool, as contracts see them, and what a call does to them.
use Rattle.std.specs.Prelude.{◌≡◌, ◌≢◌, ◌<◌, ◌≤◌, Option, None, Some, IsSome, List, [], length, map, slice_index_or, ⊤}
use Rattle.tb_types.specs.Counts.{Rose}
use Rattle.tb_types.specs.declared.trouble.Whom.{Whom}
use Rattle.tb_types.specs.declared.trouble.Whom.TheVariants as whoms
use Rattle.tb_outside.specs.declared.lane.Lane.{Lane}
use Rattle.tb_outside.specs.Spill.{Runs, SpillSeen}
use Rattle.feature_runs.specs.Writing.{KeepsEnded}
use Rattle.run_merge.specs.declared.named_run.Store.{Store}
use Rattle.run_merge.specs.declared.named_run.Store.TheVariants as stores
use Rattle.run_merge.specs.declared.named_run.NamedRun.{NamedRun}

-- the readers and the spills of the lanes, and the spool
pub record Objects (R : Type 0) : Type 0 where
  pub readers : List R
  pub spills : List SpillSeen
  pub spool : SpillSeen

abbrev pub objects_of : {R S : Type 0} → (S → SpillSeen) → List (Lane R S) → S → Objects R
objects_of seen lanes spool = record { readers = map (λ lane. lane.reader) lanes; spills = map (λ lane. seen lane.spill) lanes; spool = seen spool }

-- a spill that tells that it has no run
abbrev pub nowhere : SpillSeen
nowhere = record { runs = Some (record { ended = []; begun = None }); faults = 0 }

-- the spill of a name
abbrev pub spill_of : {R : Type 0} → Objects R → Store → SpillSeen
spill_of o (stores.Lane k) = slice_index_or o.spills k nowhere
spill_of o stores.Spool = o.spool

-- the runs that it tells, if it does
abbrev pub told_of : {R : Type 0} → Objects R → NamedRun → Option Runs
told_of o run = (spill_of o run.store).runs

-- a name that is among the lanes, or is the spool's
abbrev pub IsThere : {R : Type 0} → Objects R → Store → Type 0
IsThere o (stores.Lane k) = k < length o.spills
IsThere o stores.Spool = ⊤

-- the object's name in an error
abbrev pub whom_of : Store → Whom
whom_of (stores.Lane k) = whoms.Lane k
whom_of stores.Spool = whoms.Spool

-- every spill tells its runs
abbrev pub AllTell : {R : Type 0} → Objects R → Type 0
AllTell o = (store : Store) → IsSome (spill_of o store).runs

-- the lanes' readers and what their spills tell stay, and the spool keeps its ended runs
pub record Keeps {R : Type 0} (old new : Objects R) : Type 0 where
  pub readers : new.readers ≡ old.readers
  pub spills : map (λ (s : SpillSeen). s.runs) new.spills ≡ map (λ (s : SpillSeen). s.runs) old.spills
  pub spool : KeepsEnded old.spool.runs new.spool.runs

-- this object's count of faults rose, and no other's changed
pub record OnlyRose {R : Type 0} (old new : Objects R) (store : Store) : Type 0 where
  pub rose : Rose (spill_of old store).faults (spill_of new store).faults
  pub never_falls : (spill_of old store).faults ≤ (spill_of new store).faults
  pub others : (other : Store) → other ≢ store → (spill_of new other).faults ≡ (spill_of old other).faults

-- no count changed
abbrev pub NoneRose : {R : Type 0} → Objects R → Objects R → Type 0
NoneRose old new = (store : Store) → (spill_of new store).faults ≡ (spill_of old store).faults
