-- What steps mean, and what was done by a list of them.
use Rattle.std.specs.Prelude.{◌≡◌, ℕ, ⊤, Option, Some, Result, Ok, Err, List, [], ◌∷◌, ◌++◌, length, slice_get}
use Rattle.pass_order.specs.declared.step.Step.{Step}
use Rattle.pass_order.specs.declared.step.Step.TheVariants.{Load, Put, Emit}
use Rattle.pass_order.specs.Whole.{steps_on}
use Rattle.pass_order.specs.declared.error.OrderErr.{OrderErr}
use Rattle.pass_order.specs.declared.error.OrderErr.TheVariants.{Failed, Memory}

-- What the steps of a pass mean, where S is what they stand on, and B is a body.
pub record Meaning (S B E : Type 0) : Type 1 where
  -- what the steps on a unit need
  pub ready : S → ℕ → Type 0
  -- what was before, the unit, the answer, and what is now; the steps behind the first know the unit's body
  pub loads : S → ℕ → Result B E → S → Type 0
  pub puts : S → ℕ → B → Result ⊤ E → S → Type 0
  pub emits : S → ℕ → B → Result ⊤ E → S → Type 0

-- the body is what a load of the unit gave
abbrev pub IsLoaded : {S B E : Type 0} → Meaning S B E → ℕ → B → Type 0
IsLoaded {S} m unit body = (old new : S) × m.loads old unit (Ok body) new

-- all units that were ready are ready
abbrev pub StaysReady : {S B E : Type 0} → Meaning S B E → S → S → Type 0
StaysReady m old new = (unit : ℕ) → m.ready old unit → m.ready new unit

-- a step was done, or it failed for a reason
abbrev pub Does : {S B E : Type 0} → Meaning S B E → (ℕ → Option B) → Step → S → S → Type 0
Does {S} {B} m bodies (Load unit) old new = (body : B) × (bodies unit ≡ Some body) × m.loads old unit (Ok body) new
Does {S} {B} m bodies (Put unit) old new = (body : B) × (bodies unit ≡ Some body) × m.puts old unit body (Ok tt) new
Does {S} {B} m bodies (Emit unit) old new = (body : B) × (bodies unit ≡ Some body) × m.emits old unit body (Ok tt) new

abbrev pub Fails : {S B E : Type 0} → Meaning S B E → (ℕ → Option B) → Step → E → S → S → Type 0
Fails m bodies (Load unit) fault old new = m.loads old unit (Err fault) new
Fails {S} {B} m bodies (Put unit) fault old new = (body : B) × (bodies unit ≡ Some body) × m.puts old unit body (Err fault) new
Fails {S} {B} m bodies (Emit unit) fault old new = (body : B) × (bodies unit ≡ Some body) × m.emits old unit body (Err fault) new

-- these steps were done one after another, each on its unit's body
abbrev pub Did : {S B E : Type 0} → Meaning S B E → (ℕ → Option B) → List Step → S → S → Type 0
Did m bodies [] old new = new ≡ old
Did {S} m bodies (step ∷ steps) old new = (mid : S) × Does m bodies step old mid × Did m bodies steps mid new

-- the steps of n units were all done: there is one body for each unit, in the order of the file
pub record DidAll {S B E : Type 0} (m : Meaning S B E) (n : ℕ) (steps : List Step) (old new : S) : Type 0 where
  pub bodies : List B
  pub many : length bodies ≡ n
  pub did : Did m (slice_get bodies) steps old new

-- the steps up to one were done, and that one failed
pub record DidSome {S B E : Type 0} (m : Meaning S B E) (bodies : ℕ → Option B) (steps : List Step) (fault : E) (old new : S) : Type 0 where
  pub done : List Step
  pub failed : Step
  pub rest : List Step
  pub are : steps ≡ done ++ failed ∷ rest
  pub mid : S
  pub did : Did m bodies done old mid
  pub fails : Fails m bodies failed fault mid new

-- what driving these steps of n units answers; where memory wants, nothing was done
abbrev pub Drives : {S B E : Type 0} → Meaning S B E → ℕ → List Step → S → S → Result ⊤ (OrderErr E) → Type 0
Drives m n steps old new (Ok _) = DidAll m n steps old new
Drives {S} {B} m n steps old new (Err (Failed fault)) = (bodies : ℕ → Option B) × DidSome m bodies steps fault old new
Drives m n steps old new (Err Memory) = new ≡ old

-- what driving the steps of one unit answers, whatever the bodies of other units are
abbrev pub DrivesUnit : {S B E : Type 0} → Meaning S B E → ℕ → S → S → Result ⊤ E → Type 0
DrivesUnit {S} {B} m unit old new (Ok _) = (body : B) × ((bodies : ℕ → Option B) → bodies unit ≡ Some body → Did m bodies (steps_on unit) old new)
DrivesUnit {S} {B} m unit old new (Err fault) = (known : Option B) × ((bodies : ℕ → Option B) → bodies unit ≡ known → DidSome m bodies (steps_on unit) fault old new)
