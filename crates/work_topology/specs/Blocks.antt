-- The blocks of a pass, and the bytes that are loaded for them.
use Rattle.std.specs.Prelude.{◌≡◌, ℕ, ◌==◌, ◌+◌, ◌<◌, ◌≤◌, Option, IfSome, List, ◌++◌, length, map, slice_index_or, slice_range}
use Rattle.std.specs.List.{position_or_len}
use Rattle.std.specs.Option.{option_map}
use Rattle.pbf_blobs.specs.declared.block.BlockAt.{BlockAt}
use Rattle.pbf_blobs.specs.declared.block.BlockKind.TheVariants as kinds
use Rattle.tb_types.specs.Needs.{block_need}
use Rattle.batch_queue.specs.declared.entry.Entry.{Entry}
use Rattle.work_topology.specs.Lists.{Each}

-- the block at a place of a list, and its number
abbrev pub block_at : List BlockAt → ℕ → BlockAt
block_at blocks place = slice_index_or blocks place (record { no = 0; at = 0; len = 0; kind = kinds.Header })

abbrev pub number_at : List BlockAt → ℕ → ℕ
number_at blocks place = (block_at blocks place).no

abbrev pub numbers_at : List BlockAt → List ℕ → List ℕ
numbers_at blocks places = map (number_at blocks) places

-- the load of the body of a block
abbrev pub load_at : List BlockAt → ℕ → ℕ × ℕ
load_at blocks place = ((block_at blocks place).at, (block_at blocks place).len)

-- told loads grew by loads of bodies of these blocks
abbrev pub GrewByBlocks : List BlockAt → Option (List (ℕ × ℕ)) → Option (List (ℕ × ℕ)) → Type 0
GrewByBlocks blocks old new =
    (places : List ℕ) × Each (λ place. place < length blocks) places × (new ≡ option_map (λ loads. loads ++ map (load_at blocks) places) old)

-- the numbers ascend
abbrev pub Ascend : List BlockAt → Type 0
Ascend blocks = (j k : ℕ) → j < k → k < length blocks → number_at blocks j < number_at blocks k

-- each body lies inside the bytes, where they are told
abbrev pub FitIn : List BlockAt → Option (List ℕ) → Type 0
FitIn blocks told = IfSome told (λ bytes. Each (λ block. block.at + block.len ≤ length bytes) blocks)

-- each block's need is at most the budget
abbrev pub AreAffordable : List BlockAt → ℕ → Type 0
AreAffordable blocks budget = Each (λ block. block_need block.len ≤ budget) blocks

-- The entry is the block at this place, as a source gave it: its number, and as many bytes as its body has. Where the source tells its bytes, they are the body.
pub record IsLoaded (blocks : List BlockAt) (told : Option (List ℕ)) (place : ℕ) (entry : Entry) : Type 0 where
  pub within : place < length blocks
  pub number : entry.no ≡ number_at blocks place
  pub size : length entry.bytes ≡ (block_at blocks place).len
  pub bytes : IfSome told (λ bytes. entry.bytes ≡ slice_range bytes (block_at blocks place).at ((block_at blocks place).at + (block_at blocks place).len))

-- the same for some place
abbrev pub IsSomeBlock : List BlockAt → Option (List ℕ) → Entry → Type 0
IsSomeBlock blocks told entry = (place : ℕ) × IsLoaded blocks told place entry

-- the place of the first block with this number; the number of blocks, where there is none
abbrev pub place_of : List BlockAt → ℕ → ℕ
place_of blocks number = position_or_len (λ block. block.no == number) blocks

-- the place of the block with this number, where there is one and the numbers ascend
abbrev pub IsPlaceOf : List BlockAt → ℕ → ℕ → Type 0
IsPlaceOf blocks number place = Ascend blocks → (k : ℕ) → k < length blocks → number_at blocks k ≡ number → place ≡ k
