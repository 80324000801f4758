-- Going on with what was read, also along a list.
use Rattle.std.specs.Prelude.{Result, Ok, List, [], ◌∷◌, ◌++◌}
pub use Rattle.tb_types.specs.Results.{◌>>=◌}

-- What is read of each, in turn, behind what was read before it. What went before may decide on what is read.
abbrev pub in_turn : {A B E : Type 0} → (List B → A → Result B E) → List B → List A → Result (List B) E
in_turn read before [] = Ok before
in_turn read before (x ∷ more) = read before x >>= λ y. in_turn read (before ++ y ∷ []) more
