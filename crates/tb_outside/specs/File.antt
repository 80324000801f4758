-- What a contract sees of the objects over files: their counts of faults, and nothing of their content.
use Rattle.std.specs.Prelude.{ℕ, ◌+◌, ◌-◌, ◌^◌, ◌<◌, ◌≤◌, Bool, Option, None, Some, if◌then◌else◌, min, List, ◌++◌, length, slice_index, option_to_list}
use Rattle.std.specs.Option.{option_map}
use Rattle.tb_outside.specs.Plan.{counted_up}
use Rattle.tb_outside.specs.Source.{SourceSeen}
use Rattle.tb_outside.specs.Sink.{SinkSeen}
use Rattle.tb_outside.specs.Spill.{SpillSeen}

abbrev pub untold_source : ℕ → SourceSeen
untold_source faults = record { bytes = None; log = None; faults = faults }

abbrev pub untold_sink : ℕ → SinkSeen
untold_sink faults = record { bytes = None; faults = faults }

-- A spill's count, the lengths of its ended runs, and that of the begun one: the bytes that were written, without those of an append
-- that failed. A length stops at the last number of 64 bits.
pub record FileSpillSeen : Type 0 where
  pub faults : ℕ
  pub ended : List ℕ
  pub begun : Option ℕ

-- the lengths where the begun run is ended, and another one is begun
abbrev pub with_next : FileSpillSeen → FileSpillSeen
with_next s = record s { ended = s.ended ++ option_to_list s.begun; begun = Some 0 }

-- the lengths where the begun run is ended
abbrev pub without_begun : FileSpillSeen → FileSpillSeen
without_begun s = record s { ended = s.ended ++ option_to_list s.begun; begun = None }

-- the lengths where so many bytes were written behind the begun run
abbrev pub with_written : FileSpillSeen → ℕ → FileSpillSeen
with_written s more = record s { begun = option_map (λ len. min (len + more) (2 ^ 64 - 1)) s.begun }

-- so many bytes at a place lie in an ended run
abbrev pub LiesIn : List ℕ → ℕ → ℕ → ℕ → Type 0
LiesIn ended run at len = (run < length ended) × (at + len ≤ slice_index ended run)

abbrev pub untold_spill : FileSpillSeen → SpillSeen
untold_spill s = record { runs = None; faults = s.faults }

-- the count after an answer, which was a fault or not
abbrev pub after_answer : ℕ → Bool → ℕ
after_answer faults failed = if failed then counted_up faults else faults
