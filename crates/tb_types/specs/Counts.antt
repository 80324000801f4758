-- Counts of faults. A count is a number of 64 bits that never falls.
use Rattle.std.specs.Prelude.{◌≡◌, ℕ, ◌+◌, ◌-◌, ◌^◌, ◌≤◌, Bool, true, false, min}

-- the last value of a count
abbrev pub last_count : ℕ
last_count = 2 ^ 64 - 1

-- A count rose, or ended at its last value, where nothing tells whether it rose.
abbrev pub Rose : ℕ → ℕ → Type 0
Rose old new = min (old + 1) last_count ≤ new

-- the count where a call failed or didn't: it rose, and never falls, or else it stays
abbrev pub Counted : Bool → ℕ → ℕ → Type 0
Counted true old new = Rose old new × (old ≤ new)
Counted false old new = new ≡ old
