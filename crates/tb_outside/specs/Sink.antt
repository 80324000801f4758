-- What a contract sees of a sink.
use Rattle.std.specs.Prelude.{◌≡◌, ℕ, ◌≤◌, Option, None, Some, List, ◌++◌, Result, OnOk, OnErr, ⊤}
use Rattle.tb_types.specs.Counts.{Rose}
use Rattle.tb_outside.specs.declared.failed.Failed.{Failed}

-- the bytes that it was given, where it tells them; its count of faults
pub record SinkSeen : Type 0 where
  pub bytes : Option (List ℕ)
  pub faults : ℕ

-- told bytes grow by more
abbrev pub with_more : Option (List ℕ) → List ℕ → Option (List ℕ)
with_more None more = None
with_more (Some bytes) more = Some (bytes ++ more)

-- told bytes grow by a prefix of the piece
abbrev pub GrowsByPrefix : Option (List ℕ) → Option (List ℕ) → List ℕ → Type 0
GrowsByPrefix old new piece = (prefix rest : List ℕ) × (piece ≡ prefix ++ rest) × (new ≡ with_more old prefix)

-- what an append does
pub record SinkAnswers (old new : SinkSeen) (piece : List ℕ) (result : Result ⊤ Failed) : Type 0 where
  pub appended : OnOk result (new.bytes ≡ with_more old.bytes piece)
  pub prefix : OnErr result (GrowsByPrefix old.bytes new.bytes piece)
  pub ok : OnOk result (new.faults ≡ old.faults)
  pub err : OnErr result (Rose old.faults new.faults)
  pub never_falls : old.faults ≤ new.faults
