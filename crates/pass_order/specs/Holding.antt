-- The bodies that are held while steps are done: one place for each unit.
use Rattle.std.specs.Prelude.{◌≡◌, ℕ, ◌<◌, ⊤, Option, Some, None, IsSome, Result, Ok, Err, List, length, slice_index_or, slice_set}
use Rattle.pass_order.specs.declared.step.Step.{Step}
use Rattle.pass_order.specs.declared.step.Step.TheVariants.{Load, Put, Emit}
use Rattle.pass_order.specs.Driven.{Meaning, IsLoaded}

-- a unit's body, where it is held
abbrev pub held : {B : Type 0} → List (Option B) → ℕ → Option B
held places unit = slice_index_or places unit None

-- each body that is held is what a load of its unit gave
abbrev pub AreLoaded : {S B E : Type 0} → Meaning S B E → List (Option B) → Type 0
AreLoaded {S} {B} m places = (unit : ℕ) (body : B) → held places unit ≡ Some body → IsLoaded m unit body

-- there is a place for the unit, and its body in it, where the step works on one
abbrev pub HasBody : {B : Type 0} → List (Option B) → Step → Type 0
HasBody places (Load unit) = unit < length places
HasBody places (Put unit) = (unit < length places) × IsSome (held places unit)
HasBody places (Emit unit) = (unit < length places) × IsSome (held places unit)

abbrev pub IsReadyFor : {S B E : Type 0} → Meaning S B E → S → Step → Type 0
IsReadyFor m state (Load unit) = m.ready state unit
IsReadyFor m state (Put unit) = m.ready state unit
IsReadyFor m state (Emit unit) = m.ready state unit

-- what a step answers and does with the places
abbrev pub Takes : {S B E : Type 0} → Meaning S B E → Step → List (Option B) → List (Option B) → S → S → Result ⊤ E → Type 0
Takes {S} {B} m (Load unit) before after old new (Ok _) = (body : B) × m.loads old unit (Ok body) new × (after ≡ slice_set before unit (Some body))
Takes m (Load unit) before after old new (Err fault) = m.loads old unit (Err fault) new
Takes {S} {B} m (Put unit) before after old new result = (body : B) × (held before unit ≡ Some body) × m.puts old unit body result new × (after ≡ before)
Takes {S} {B} m (Emit unit) before after old new result = (body : B) × (held before unit ≡ Some body) × m.emits old unit body result new × (after ≡ slice_set before unit None)
