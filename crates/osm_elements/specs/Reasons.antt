-- Why a block is refused: the reasons in the order in which they are named.
use Rattle.std.specs.Prelude.{◌≡◌, ℕ, if◌then◌else◌, nat_lt, Option, None, Some, IfSome, Result, Ok, Err}
use Rattle.tb_types.specs.Results.{GivesBy}
use Rattle.tb_types.specs.declared.damage.Why.{Why}
use Rattle.tb_types.specs.declared.damage.Why.TheVariants as reasons
use Rattle.osm_elements.specs.declared.fault.BlockErr.{BlockErr}
use Rattle.osm_elements.specs.declared.fault.BlockErr.TheVariants as faults

-- the place of a reason in their order
abbrev pub rank : Why → ℕ
rank reasons.Wire = 0
rank reasons.Missing = 1
rank reasons.Feature = 2
rank reasons.Uneven = 3
rank reasons.Index = 4
rank reasons.Range = 5
rank _ = 6

-- the one of two reasons that is named
abbrev pub first : Why → Why → Why
first one other = if nat_lt (rank other) (rank one) then other else one

-- what has to stand
abbrev pub require : {A : Type 0} → Option A → Result A Why
require None = Err reasons.Missing
require (Some x) = Ok x

-- the reason of an error; want of memory has none
abbrev pub reason_of : BlockErr → Option Why
reason_of (faults.Bad why) = Some why
reason_of faults.Memory = None

abbrev pub IsStop : {A : Type 0} → BlockErr → Result A Why → Type 0
IsStop e found = IfSome (reason_of e) (λ why. found ≡ Err why)

-- The code gives what the definition does: the value, or the reason. It may want memory.
abbrev pub Gives : {X A : Type 0} → (X → A) → Result X BlockErr → Result A Why → Type 0
Gives view result found = GivesBy reason_of view result found
