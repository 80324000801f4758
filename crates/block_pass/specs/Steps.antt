-- What the steps of a pass over blocks mean.
use Rattle.std.specs.Prelude.{◌≡◌, ℕ, ⊤, Result, Ok, Err, Some, slice_get}
use Rattle.tb_outside.specs.Source.{SourceSeen}
use Rattle.pbf_blobs.specs.declared.block.BlockAt.{BlockAt}
use Rattle.pass_order.specs.Driven as order
use Rattle.block_pass.specs.declared.error.PassErr.{PassErr}
use Rattle.block_pass.specs.declared.error.PassErr.TheVariants as errors
use Rattle.block_pass.specs.declared.steps.BlockSteps.{BlockSteps}
use Rattle.block_pass.specs.Meaning.{Meaning, PutAnswers, EmitAnswers}
use Rattle.block_pass.specs.Loading.{FitsIn, LoadAnswers}

-- putting or emitting fails as the worker does, and for nothing else
abbrev pub OfWork : {F : Type 0} → (Result ⊤ F → Type 0) → Result ⊤ (PassErr F) → Type 0
OfWork answers (Ok _) = answers (Ok tt)
OfWork answers (Err errors.Source) = ⊥
OfWork answers (Err (errors.Work fault)) = answers (Err fault)
OfWork answers (Err errors.Memory) = ⊥

module _ {R W B F : Type 0} (seen : R → SourceSeen) (m : Meaning W B F) where
  -- the steps go on over the same reader, blocks and worker
  pub record IsSame (old new : BlockSteps R W) : Type 0 where
    pub reader : new.reader.ghost_name ≡ old.reader.ghost_name
    pub work : new.work.ghost_name ≡ old.work.ghost_name
    pub blocks : new.blocks.now ≡ old.blocks.now

  -- the unit is a block that lies within the extract
  pub record IsReady (s : BlockSteps R W) (unit : ℕ) : Type 0 where
    pub block : BlockAt
    pub is : slice_get s.blocks.now unit ≡ Some block
    pub fits : FitsIn (seen s.reader.now).bytes block

  pub record Loads (old : BlockSteps R W) (unit : ℕ) (result : Result B (PassErr F)) (new : BlockSteps R W) : Type 0 where
    pub same : IsSame old new
    pub work : new.work.now ≡ old.work.now
    pub block : BlockAt
    pub is : slice_get old.blocks.now unit ≡ Some block
    pub answers : LoadAnswers m block (seen old.reader.now) (seen new.reader.now) result

  -- the reader is left alone
  pub record Works (answers : BlockAt → Result ⊤ F → Type 0) (old : BlockSteps R W) (unit : ℕ) (result : Result ⊤ (PassErr F)) (new : BlockSteps R W) : Type 0 where
    pub same : IsSame old new
    pub reader : new.reader.now ≡ old.reader.now
    pub block : BlockAt
    pub is : slice_get old.blocks.now unit ≡ Some block
    pub answers_are : OfWork (answers block) result

  abbrev pub steps_meaning : order.Meaning (BlockSteps R W) B (PassErr F)
  steps_meaning = record {
    ready = IsReady;
    loads = Loads;
    puts = λ old unit body result new. Works (λ block. PutAnswers m (block, body) old.work.now new.work.now) old unit result new;
    emits = λ old unit body result new. Works (λ block. EmitAnswers m (block, body) old.work.now new.work.now) old unit result new;
  }
