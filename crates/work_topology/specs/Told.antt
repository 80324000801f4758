-- Which of several lanes' troubles is told.
use Rattle.std.specs.Prelude.{◌≡◌, ℕ, Option, None, Some, IfSome, List, MatchOption, if◌then◌else◌}
use Rattle.std.specs.Ordering.{nat_cmp, ordering_then, is_lt}
use Rattle.std.specs.declared.cmp.Ordering.{Ordering}
use Rattle.std.specs.declared.cmp.Ordering.TheVariants.{Less}
use mathlib.Core.Option.{some}
use lib.ListN.{get_elem?}
use Rattle.tb_types.specs.Orders.{whom_order}
use Rattle.tb_types.specs.declared.trouble.Trouble.{Trouble}
use Rattle.tb_types.specs.declared.trouble.Trouble.TheVariants as troubles
use Rattle.tb_types.specs.declared.trouble.Whom.{Whom}
use Rattle.tb_types.specs.declared.trouble.Whom.TheVariants as whoms
use Rattle.work_topology.specs.declared.post.Report.{Report}
use Rattle.work_topology.specs.Lists.{Each}

-- the kinds of trouble, in the order in which they are told
abbrev pub rank : Trouble → ℕ
rank (troubles.Source whom) = 0
rank (troubles.Spill whom) = 1
rank (troubles.Outside whom run at) = 2
rank (troubles.Changed pass block) = 3
rank troubles.Memory = 4

-- the object that a trouble names; one that names none counts as if it named the first of all
abbrev pub named : Trouble → Whom
named (troubles.Source whom) = whom
named (troubles.Spill whom) = whom
named (troubles.Outside whom run at) = whom
named (troubles.Changed pass block) = whoms.Profile
named troubles.Memory = whoms.Profile

-- troubles stand by their kinds, and in a kind by the objects that they name
abbrev pub trouble_order : Trouble → Trouble → Ordering
trouble_order t u = ordering_then (nat_cmp (rank t) (rank u)) (whom_order (named t) (named u))

-- the one of two that is told
abbrev pub first_told : Option Trouble → Option Trouble → Option Trouble
first_told None u = u
first_told (Some t) None = Some t
first_told (Some t) (Some u) = if is_lt (trouble_order u t) then Some u else Some t

-- it isn't before the one that is told
abbrev pub NotBefore : Trouble → Trouble → Type 0
NotBefore told t = trouble_order t told ≡ Less → ⊥

-- one of these reports has this trouble, and none has one that stands before it
pub record IsFirstTold {Out : Type 0} (reports : List (Report Out)) (told : Trouble) : Type 0 where
  pub place : ℕ
  pub report : Report Out
  pub at : get_elem? reports place ≡ some report
  pub has : report.trouble ≡ Some told
  pub first : Each (λ r. IfSome r.trouble (NotBefore told)) reports

-- what is told of all troubles; nothing exactly where there is none
abbrev pub IsTold : {Out : Type 0} → List (Report Out) → Option Trouble → Type 0
IsTold reports told = MatchOption told (Each (λ r. r.trouble ≡ None) reports) (λ t. IsFirstTold reports t)
