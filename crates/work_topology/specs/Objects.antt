-- What a job sees of a lane: all of the lane's objects but its reader. And what became of their counts of faults.
use Rattle.std.specs.Prelude.{◌≡◌, ℕ, ◌≤◌}
use Rattle.std.specs.declared.cmp.Ordering.TheVariants.{Less}
use Rattle.tb_types.specs.Counts.{Rose}
use Rattle.tb_types.specs.Orders.{whom_order}
use Rattle.tb_types.specs.declared.trouble.Whom.{Whom}
use Rattle.tb_types.specs.declared.trouble.Whom.TheVariants as whoms
use Rattle.tb_outside.specs.declared.lane.Lane.{Lane}
use Rattle.tb_outside.specs.Spill.{SpillSeen}

pub record Objects (S : Type 0) : Type 0 where
  pub spill : S

abbrev pub objects_of : {R S : Type 0} → Lane R S → Objects S
objects_of lane = record { spill = lane.spill }

-- the count of each object is as it was
abbrev pub AreUncounted : {S : Type 0} → (S → SpillSeen) → Objects S → Objects S → Type 0
AreUncounted spill old new = (spill new.spill).faults ≡ (spill old.spill).faults

-- no object's count fell
abbrev pub NoneFell : {S : Type 0} → (S → SpillSeen) → Objects S → Objects S → Type 0
NoneFell spill old new = (spill old.spill).faults ≤ (spill new.spill).faults

-- an object of the lane of this number has this name, and its count rose
abbrev pub HasRisen : {S : Type 0} → (S → SpillSeen) → ℕ → Objects S → Objects S → Whom → Type 0
HasRisen spill number old new whom = (whom ≡ whoms.Lane number) × Rose (spill old.spill).faults (spill new.spill).faults

-- the counts of those objects of the lane that stand before this name are as they were
abbrev pub StayBefore : {S : Type 0} → (S → SpillSeen) → ℕ → Objects S → Objects S → Whom → Type 0
StayBefore spill number old new whom = whom_order (whoms.Lane number) whom ≡ Less → (spill new.spill).faults ≡ (spill old.spill).faults

-- this name is that of the lane's least object whose count rose
abbrev pub IsLeastRisen : {S : Type 0} → (S → SpillSeen) → ℕ → Objects S → Objects S → Whom → Type 0
IsLeastRisen spill number old new whom = HasRisen spill number old new whom × StayBefore spill number old new whom
