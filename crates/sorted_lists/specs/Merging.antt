-- Lists that are in order, merged into one.
use Rattle.std.specs.Prelude.{Bool, if◌then◌else◌, List, [], ◌∷◌, flat_map}

-- x in front of a first list, merged with ys, where `rest` merges the first list with any other
abbrev pub merged_with : {X : Type 0} → (X → X → Bool) → X → (List X → List X) → List X → List X
merged_with lt x rest [] = x ∷ rest []
merged_with lt x rest (y ∷ ys) = if lt y x then y ∷ merged_with lt x rest ys else x ∷ rest (y ∷ ys)

-- two lists as one: again and again the lesser of the two first elements, and the first list's where neither is less
abbrev pub merged : {X : Type 0} → (X → X → Bool) → List X → List X → List X
merged lt [] ys = ys
merged lt (x ∷ xs) ys = merged_with lt x (merged lt xs) ys

-- lists merged into one
abbrev pub all_merged : {X : Type 0} → (X → X → Bool) → List (List X) → List X
all_merged lt [] = []
all_merged lt (xs ∷ lists) = merged lt xs (all_merged lt lists)

-- lists one behind another
abbrev pub concatenated : {X : Type 0} → List (List X) → List X
concatenated lists = flat_map (λ xs. xs) lists

-- a fact of a list's first element, if there is one
abbrev pub OnFirst : {X : Type 0} → (X → Type 0) → List X → Type 0
OnFirst P [] = Unit {0}
OnFirst P (x ∷ xs) = P x
