-- What a pass over blocks answers.
use Rattle.std.specs.Prelude.{◌≡◌, ◌⊎◌, ◌≤◌, ⊤, Result, Ok, Err, List, map, All, Contains}
use Rattle.std.specs.List.Sorted.{IsPermutation}
use Rattle.tb_types.specs.Counts.{Rose}
use Rattle.tb_outside.specs.Source.{SourceSeen}
use Rattle.pbf_blobs.specs.declared.block.BlockAt.{BlockAt}
use Rattle.pass_order.specs.declared.order.Order.{Order}
use Rattle.tile_model.specs.Loads.{whole, Logs}
use Rattle.block_pass.specs.declared.error.PassErr.{PassErr}
use Rattle.block_pass.specs.declared.error.PassErr.TheVariants as errors
use Rattle.block_pass.specs.Meaning.{Meaning}
use Rattle.block_pass.specs.Loading.{IsGiven, IsRefused}
use Rattle.block_pass.specs.Orders.{load_order}

module _ {W B F : Type 0} (m : Meaning W B F) where
  -- Each block was loaded, whole, in the order of the pass; each was put and emitted, once, as it was read.
  pub record Passed (order : Order) (blocks : List BlockAt) (r r' : SourceSeen) (old new : W) : Type 0 where
    pub faults : r'.faults ≡ r.faults
    pub logs : Logs r r' (map whole (load_order order blocks))
    pub read : List (BlockAt × B)
    pub are : map (λ x. x.0) read ≡ blocks
    pub given : All (IsGiven m r.bytes) read
    pub puts : List (BlockAt × B)
    pub all_put : IsPermutation read puts
    pub emits : List (BlockAt × B)
    pub all_emitted : IsPermutation read emits
    pub did : m.did puts emits old new

  -- something was done
  abbrev pub SomeDid : W → W → Type 0
  SomeDid old new = (puts : List (BlockAt × B)) × (emits : List (BlockAt × B)) × m.did puts emits old new

  -- one of the blocks was refused when it was read
  abbrev pub SomeRefused : List BlockAt → SourceSeen → F → Type 0
  SomeRefused blocks r fault = (block : BlockAt) × Contains blocks block × IsRefused m r.bytes fault block

  abbrev pub PassTold : Order → List BlockAt → SourceSeen → SourceSeen → W → W → Result ⊤ (PassErr F) → Type 0
  PassTold order blocks r r' old new (Ok _) = Passed order blocks r r' old new
  PassTold order blocks r r' old new (Err errors.Source) = Rose r.faults r'.faults × (r.faults ≤ r'.faults) × SomeDid old new
  PassTold order blocks r r' old new (Err (errors.Work fault)) = (r'.faults ≡ r.faults) × ((SomeRefused blocks r fault × SomeDid old new) ⊎ m.stops fault old new)
  PassTold order blocks r r' old new (Err errors.Memory) = (r'.faults ≡ r.faults) × SomeDid old new

  pub record PassAnswers (order : Order) (blocks : List BlockAt) (r r' : SourceSeen) (old new : W) (result : Result ⊤ (PassErr F)) : Type 0 where
    pub bytes : r'.bytes ≡ r.bytes
    pub told : PassTold order blocks r r' old new result
