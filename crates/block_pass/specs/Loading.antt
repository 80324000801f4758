-- What loading a block answers.
use Rattle.std.specs.Prelude.{◌≡◌, ℕ, ◌+◌, ◌≤◌, Option, IfSome, Result, Ok, Err, List, [], ◌∷◌, length}
use Rattle.tb_types.specs.Counts.{Rose}
use Rattle.tb_outside.specs.Source.{SourceSeen}
use Rattle.pbf_blobs.specs.declared.block.BlockAt.{BlockAt}
use Rattle.tile_model.specs.Contents.{body_at}
use Rattle.tile_model.specs.Loads.{whole, Logs}
use Rattle.block_pass.specs.declared.error.PassErr.{PassErr}
use Rattle.block_pass.specs.declared.error.PassErr.TheVariants as errors
use Rattle.block_pass.specs.Meaning.{Meaning}

-- a block's body lies within an extract that is told
abbrev pub FitsIn : Option (List ℕ) → BlockAt → Type 0
FitsIn told block = IfSome told (λ extract. block.at + block.len ≤ length extract)

-- these are a block's bytes, where the extract is told
abbrev pub AreOf : Option (List ℕ) → BlockAt → List ℕ → Type 0
AreOf told block bytes = IfSome told (λ extract. bytes ≡ body_at extract block)

module _ {W B F : Type 0} (m : Meaning W B F) where
  -- a block was given so, or refused
  pub record IsGiven (told : Option (List ℕ)) (x : BlockAt × B) : Type 0 where
    pub bytes : List ℕ
    pub of : AreOf told x.0 bytes
    pub gives : m.gives x.0 bytes x.1

  pub record IsRefused (told : Option (List ℕ)) (fault : F) (block : BlockAt) : Type 0 where
    pub bytes : List ℕ
    pub of : AreOf told block bytes
    pub refuses : m.refuses block bytes fault

  -- the reader's count rose, or it didn't
  abbrev pub LoadTold : BlockAt → SourceSeen → SourceSeen → Result B (PassErr F) → Type 0
  LoadTold block old new (Ok body) = (new.faults ≡ old.faults) × Logs old new (whole block ∷ []) × IsGiven old.bytes (block, body)
  LoadTold block old new (Err errors.Source) = Rose old.faults new.faults × (old.faults ≤ new.faults)
  LoadTold block old new (Err (errors.Work fault)) = (new.faults ≡ old.faults) × IsRefused old.bytes fault block
  LoadTold block old new (Err errors.Memory) = new.faults ≡ old.faults

  pub record LoadAnswers (block : BlockAt) (old new : SourceSeen) (result : Result B (PassErr F)) : Type 0 where
    pub bytes : new.bytes ≡ old.bytes
    pub told : LoadTold block old new result
