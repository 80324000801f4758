-- What is kept of the sums of differences while these are read.
use Rattle.std.specs.Prelude.{◌≡◌, ℕ, ℤ, Bool, true, false, if◌then◌else◌, Result, Ok, Err, List, [], ◌++◌, length, map, pos, ⊤}
use Rattle.tb_types.specs.declared.damage.Why.{Why}
use Rattle.tb_types.specs.declared.damage.Why.TheVariants as reasons
use Rattle.tb_types.specs.Results.{◌>>=◌}
use Rattle.osm_elements.specs.declared.fault.BlockErr.{BlockErr}
use Rattle.osm_elements.specs.declared.sums.Sums.{Sums}
use Rattle.osm_elements.specs.Reasons.{IsStop}
use Rattle.osm_elements.specs.Fields.{with_found}
use Rattle.osm_elements.specs.Granularity.{sums_from}

module _ {T : Type 0} (made : ℤ → T) where
  -- the sums from a number before them, as they are kept
  abbrev pub made_from : ℤ → List ℕ → Result (List T) Why
  made_from before differences = sums_from before differences >>= λ ns. Ok (map made ns)

  -- what is left to add, where all sums have 64 bits so far
  abbrev pub left_of : Sums T → List ℕ → Result (List T) Why
  left_of kept later = if kept.is_over then Err reasons.Range else with_found kept.items.items (made_from kept.sum later)

  -- the sums of these differences, whatever is read behind them
  abbrev pub IsSummed : List ℕ → Sums T → Type 0
  IsSummed differences kept = ((later : List ℕ) → made_from (pos 0) (differences ++ later) ≡ left_of kept later) × (length kept.items.items ≡ length differences)

  -- a call reads differences and adds their sums to whatever is kept, or it stops
  abbrev pub Notes : Sums T → Sums T → Result ⊤ BlockErr → Result (List ℕ) Why → Type 0
  Notes old new (Ok u) read = (more : List ℕ) × (read ≡ Ok more) × ((differences : List ℕ) → IsSummed differences old → IsSummed (differences ++ more) new)
  Notes old new (Err e) read = IsStop e read

-- the sums that are kept, if all have 64 bits
abbrev pub seen_sums : {T : Type 0} → Sums T → Result (List T) Why
seen_sums kept = if kept.is_over then Err reasons.Range else Ok kept.items.items
