-- Words whose number no command has.
use Rattle.std.proofs.Common.{◌≡◌, ℕ, ◌<◌, ◌≤◌, None, List, [], ◌∷◌, length, map, refl, arith}
use Rattle.build_cli.specs.Command.{command_of}

pub one-word : {A : Type 0} (f : A → List ℕ) (words : List A) → 1 ≤ length words → length words < 2 → command_of (map f words) ≡ None
one-word f [] least below = refl
one-word f (a ∷ []) least below = refl
one-word f (a ∷ b ∷ words) least below = absurd (omega arith)

pub three-words : {A : Type 0} (f : A → List ℕ) (words : List A) → 3 ≤ length words → length words < 4 → command_of (map f words) ≡ None
three-words f [] least below = refl
three-words f (a ∷ []) least below = refl
three-words f (a ∷ b ∷ []) least below = absurd (omega arith)
three-words f (a ∷ b ∷ c ∷ []) least below = refl
three-words f (a ∷ b ∷ c ∷ d ∷ words) least below = absurd (omega arith)

pub many-words : {A : Type 0} (f : A → List ℕ) (words : List A) → 7 ≤ length words → command_of (map f words) ≡ None
many-words f [] least = refl
many-words f (a ∷ []) least = refl
many-words f (a ∷ b ∷ []) least = absurd (omega arith)
many-words f (a ∷ b ∷ c ∷ []) least = refl
many-words f (a ∷ b ∷ c ∷ d ∷ []) least = absurd (omega arith)
many-words f (a ∷ b ∷ c ∷ d ∷ e ∷ []) least = absurd (omega arith)
many-words f (a ∷ b ∷ c ∷ d ∷ e ∷ g ∷ []) least = absurd (omega arith)
many-words f (a ∷ b ∷ c ∷ d ∷ e ∷ g ∷ h ∷ words) least = refl
