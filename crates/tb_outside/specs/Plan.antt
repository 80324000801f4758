-- Which calls of an object in memory fail.
use Rattle.std.specs.Prelude.{ℕ, ◌+◌, Bool, true, false, ◌==◌, if◌then◌else◌, min, List, Result, Ok, Err}
use Rattle.std.specs.List.{list_any}
use Rattle.tb_types.specs.Counts.{last_count}

-- the numbers of the calls that fail, how many calls there were, and how many faults
pub record Planned : Type 0 where
  pub fails : List ℕ
  pub calls : ℕ
  pub faults : ℕ

-- a plan of an object that wasn't called yet
abbrev pub uncalled : List ℕ → Planned
uncalled fails = record { fails = fails; calls = 0; faults = 0 }

-- one more, up to the last value of a counter
abbrev pub counted_up : ℕ → ℕ
counted_up n = min (n + 1) last_count

-- the next call is one that fails
abbrev pub fails_next : Planned → Bool
fails_next plan = list_any (λ n. n == plan.calls) plan.fails

-- after a fault
abbrev pub with_fault : Planned → Planned
with_fault plan = record { fails = plan.fails; calls = plan.calls; faults = counted_up plan.faults }

-- after a call, which failed if it was to
abbrev pub after_call : Planned → Planned
after_call plan = record { fails = plan.fails; calls = counted_up plan.calls; faults = if fails_next plan then counted_up plan.faults else plan.faults }

-- the call was refused
abbrev pub is_refused : {A E : Type 0} → Result A E → Bool
is_refused (Ok x) = false
is_refused (Err e) = true
