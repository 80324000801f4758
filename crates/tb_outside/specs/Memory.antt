-- What a contract sees of the objects in memory.
use Rattle.std.specs.Prelude.{ℕ, ◌-◌, Bool, ◌||◌, Some, List, [], ◌∷◌, ◌++◌, take, length, nat_le, nat_lt, if◌then◌else◌}
use Rattle.tb_outside.specs.Plan.{Planned, fails_next, after_call, with_fault}
use Rattle.tb_outside.specs.Source.{SourceSeen}
use Rattle.tb_outside.specs.Sink.{SinkSeen}
use Rattle.tb_outside.specs.Spill.{SpillSeen, Runs}

-- a source: its log has room for so many loads
pub record MemSourceSeen : Type 0 where
  pub bytes : List ℕ
  pub log : List (ℕ × ℕ)
  pub room : ℕ
  pub plan : Planned

abbrev pub as_source : MemSourceSeen → SourceSeen
as_source s = record { bytes = Some s.bytes; log = Some s.log; faults = s.plan.faults }

-- after a load, which fails where it was to or where the log is full
abbrev pub refuses_load : MemSourceSeen → Bool
refuses_load s = fails_next s.plan || nat_le s.room (length s.log)

abbrev pub after_load : MemSourceSeen → ℕ → ℕ → MemSourceSeen
after_load s at len =
    if fails_next s.plan then record s { plan = after_call s.plan } else
    if nat_le s.room (length s.log) then record s { plan = with_fault (after_call s.plan) } else
    record s { log = s.log ++ (at, len) ∷ []; plan = after_call s.plan }

-- a sink: it has room for so many bytes
pub record MemSinkSeen : Type 0 where
  pub bytes : List ℕ
  pub room : ℕ
  pub plan : Planned

abbrev pub as_sink : MemSinkSeen → SinkSeen
as_sink s = record { bytes = Some s.bytes; faults = s.plan.faults }

-- after an append, which takes nothing where it was to fail, and else what fits; it fails where that isn't all
abbrev pub refuses_append : MemSinkSeen → List ℕ → Bool
refuses_append s piece = fails_next s.plan || nat_lt (s.room - length s.bytes) (length piece)

abbrev pub after_append : MemSinkSeen → List ℕ → MemSinkSeen
after_append s piece =
    if fails_next s.plan then record s { plan = after_call s.plan } else
    if nat_lt (s.room - length s.bytes) (length piece) then
    record s { bytes = s.bytes ++ take (s.room - length s.bytes) piece; plan = with_fault (after_call s.plan) } else
    record s { bytes = s.bytes ++ piece; plan = after_call s.plan }

-- a spill
pub record MemSpillSeen : Type 0 where
  pub runs : Runs
  pub plan : Planned

abbrev pub as_spill : MemSpillSeen → SpillSeen
as_spill s = record { runs = Some s.runs; faults = s.plan.faults }
