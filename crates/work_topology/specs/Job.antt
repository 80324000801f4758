-- What a job's calls mean, and what they may be refused for.
use Rattle.std.specs.Prelude.{◌≡◌, ℕ, List, [], ◌∷◌, None, Result, IfErr, OnOk, ⊤}
use mathlib.Core.Option.{some}
use lib.ListN.{get_elem?}
use Rattle.tb_types.specs.declared.trouble.Trouble.{Trouble}
use Rattle.tb_types.specs.declared.trouble.Trouble.TheVariants as troubles
use Rattle.tb_types.specs.declared.trouble.Whom.TheVariants as whoms
use Rattle.tb_outside.specs.Spill.{SpillSeen}
use Rattle.batch_queue.specs.declared.entry.Entry.{Entry}
use Rattle.work_topology.specs.Objects.{Objects, AreUncounted, NoneFell, IsLeastRisen}

-- A job's meaning. Lanes are named by number.
pub record Meaning (Seed Out S : Type 0) : Type 1 where
  -- what `start` gives on a seed, what `work` does with a block, and what `end` does
  pub starts : ℕ → Seed → Out → Type 0
  pub works : ℕ → Entry → Out → Out → Objects S → Objects S → Type 0
  pub ends : ℕ → Out → Out → Objects S → Objects S → Type 0
  -- the fact that `work` and `end` need, and that `work` keeps
  pub fits : ℕ → Out → Objects S → Type 0
  -- how the objects may change over any number of calls, whatever these answer
  pub moves : Objects S → Objects S → Type 0
  -- the test on a pass number and the bytes of a body, without which `Changed` doesn't come
  pub finds_changed : ℕ → List ℕ → Type 0
  -- whether `Outside` may come at all
  pub may_be_outside : Type 0

-- The cause of a refusal of one of a job's calls. `Spill` names the least object of that lane whose count rose; on any other answer none rose.
abbrev pub JobCause : {Seed Out S : Type 0} → Meaning Seed Out S → (S → SpillSeen) → ℕ → (ℕ → ℕ → Type 0) → Objects S → Objects S → Trouble → Type 0
JobCause m spill lane changed old new (troubles.Source whom) = ⊥
JobCause m spill lane changed old new (troubles.Spill whom) = IsLeastRisen spill lane old new whom
JobCause m spill lane changed old new (troubles.Outside whom run at) = m.may_be_outside × (whom ≡ whoms.Lane lane) × ((spill new.spill).runs ≡ None) × AreUncounted spill old new
JobCause m spill lane changed old new (troubles.Changed pass block) = changed pass block × AreUncounted spill old new
JobCause m spill lane changed old new troubles.Memory = AreUncounted spill old new

-- only a block's own number, and a pass for which the job's test holds on its bytes
abbrev pub MayChange : {Seed Out S : Type 0} → Meaning Seed Out S → Entry → ℕ → ℕ → Type 0
MayChange m entry pass block = (block ≡ entry.no) × m.finds_changed pass entry.bytes

-- one of these blocks is changed
abbrev pub SomeChanges : {Seed Out S : Type 0} → Meaning Seed Out S → List Entry → ℕ → ℕ → Type 0
SomeChanges m entries pass block = (k : ℕ) × (entry : Entry) × (get_elem? entries k ≡ some entry) × MayChange m entry pass block

abbrev pub NeverChanges : ℕ → ℕ → Type 0
NeverChanges pass block = ⊥

-- a call of `work` on a block
pub record WorkAnswers {Seed Out S : Type 0} (m : Meaning Seed Out S) (spill : S → SpillSeen) (entry : Entry) (out out' : Out) (old new : Objects S) (result : Result ⊤ Trouble) : Type 0 where
  pub moves : m.moves old new
  pub never_falls : NoneFell spill old new
  pub worked : (lane : ℕ) → m.fits lane out old → OnOk result (m.works lane entry out out' old new × m.fits lane out' new)
  pub counts : OnOk result (AreUncounted spill old new)
  pub cause : (lane : ℕ) → m.fits lane out old → IfErr result (JobCause m spill lane (MayChange m entry) old new)

-- a call of `end`
pub record EndAnswers {Seed Out S : Type 0} (m : Meaning Seed Out S) (spill : S → SpillSeen) (out out' : Out) (old new : Objects S) (result : Result ⊤ Trouble) : Type 0 where
  pub moves : m.moves old new
  pub never_falls : NoneFell spill old new
  pub ended : (lane : ℕ) → m.fits lane out old → OnOk result (m.ends lane out out' old new)
  pub counts : OnOk result (AreUncounted spill old new)
  pub cause : (lane : ℕ) → m.fits lane out old → IfErr result (JobCause m spill lane NeverChanges old new)

-- what `work` on these blocks, one after another, made of an out and of the objects
abbrev pub Worked : {Seed Out S : Type 0} → Meaning Seed Out S → ℕ → List Entry → Out → Out → Objects S → Objects S → Type 0
Worked m lane [] out out' old new = (out' ≡ out) × (new ≡ old)
Worked {Seed} {Out} {S} m lane (entry ∷ entries) out out' old new = (mid : Out) × (between : Objects S) × m.works lane entry out mid old between × Worked m lane entries mid out' between new

-- moves are those of a job: each moment stands in them with itself, and they go on
pub record GoesOn {Seed Out S : Type 0} (m : Meaning Seed Out S) : Type 0 where
  pub stays : (o : Objects S) → m.moves o o
  pub follows : (a b c : Objects S) → m.moves a b → m.moves b c → m.moves a c
