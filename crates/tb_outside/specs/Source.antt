-- What a contract sees of a source of bytes.
use Rattle.std.specs.Prelude.{◌≡◌, ℕ, ◌+◌, ◌≤◌, Option, IfSome, List, [], ◌∷◌, ◌++◌, length, slice_range, Result, IfOk, OnOk, OnErr, ⊤}
use Rattle.std.specs.Option.{option_map}
use Rattle.tb_types.specs.Counts.{Rose}
use Rattle.tb_outside.specs.declared.failed.Failed.{Failed}

-- its bytes, and the place and length of each load that it answered, where it tells them; its count of faults
pub record SourceSeen : Type 0 where
  pub bytes : Option (List ℕ)
  pub log : Option (List (ℕ × ℕ))
  pub faults : ℕ

-- what the size says, and what it leaves
pub record SizeAnswers (old new : SourceSeen) (result : Result ℕ Failed) : Type 0 where
  pub value : IfOk result (λ n. IfSome old.bytes (λ bytes. n ≡ length bytes))
  pub bytes : new.bytes ≡ old.bytes
  pub log : new.log ≡ old.log
  pub ok : OnOk result (new.faults ≡ old.faults)
  pub err : OnErr result (Rose old.faults new.faults)
  pub never_falls : old.faults ≤ new.faults

-- what a load of `out` from a place on gives, and what it leaves
pub record LoadAnswers (old new : SourceSeen) (at : ℕ) (out : List ℕ) (result : Result ⊤ Failed) : Type 0 where
  pub value : OnOk result (IfSome old.bytes (λ bytes. out ≡ slice_range bytes at (at + length out)))
  pub bytes : new.bytes ≡ old.bytes
  pub log_ok : OnOk result (new.log ≡ option_map (λ loads. loads ++ (at, length out) ∷ []) old.log)
  pub log_err : OnErr result (new.log ≡ old.log)
  pub ok : OnOk result (new.faults ≡ old.faults)
  pub err : OnErr result (Rose old.faults new.faults)
  pub never_falls : old.faults ≤ new.faults
