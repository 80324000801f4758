-- What is meant by the calls that work on blocks.
use Rattle.std.specs.Prelude.{ℕ, ⊤, Result, Ok, Err, List, [], ◌∷◌, ◌++◌}
use Rattle.pbf_blobs.specs.declared.block.BlockAt.{BlockAt}

-- What a worker's calls mean, where W is the worker, B is a block as it was read, and F is why it refuses one.
pub record Meaning (W B F : Type 0) : Type 1 where
  -- a body is read as this, or refused
  pub gives : BlockAt → List ℕ → B → Type 0
  pub refuses : BlockAt → List ℕ → F → Type 0
  -- between two moments these blocks were put and these were emitted, each list in its order
  pub did : List (BlockAt × B) → List (BlockAt × B) → W → W → Type 0
  -- between two moments something was done, and then putting or emitting a block failed
  pub stops : F → W → W → Type 0

module _ {W B F : Type 0} (m : Meaning W B F) where
  abbrev pub ReadAnswers : BlockAt → List ℕ → Result B F → Type 0
  ReadAnswers block body (Ok read) = m.gives block body read
  ReadAnswers block body (Err fault) = m.refuses block body fault

  -- whatever was done before, one block more is put, or emitted
  abbrev pub PutAnswers : BlockAt × B → W → W → Result ⊤ F → Type 0
  PutAnswers x old new (Ok _) = (start : W) (puts emits : List (BlockAt × B)) → m.did puts emits start old → m.did (puts ++ x ∷ []) emits start new
  PutAnswers x old new (Err fault) = m.stops fault old new

  abbrev pub EmitAnswers : BlockAt × B → W → W → Result ⊤ F → Type 0
  EmitAnswers x old new (Ok _) = (start : W) (puts emits : List (BlockAt × B)) → m.did puts emits start old → m.did puts (emits ++ x ∷ []) start new
  EmitAnswers x old new (Err fault) = m.stops fault old new

  abbrev pub Begins : Type 0
  Begins = (w : W) → m.did [] [] w w

  abbrev pub StopsAfter : Type 0
  StopsAfter = (a b c : W) (puts emits : List (BlockAt × B)) (fault : F) → m.did puts emits a b → m.stops fault b c → m.stops fault a c
