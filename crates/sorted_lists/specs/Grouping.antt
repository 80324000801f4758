-- Groups of neighbours that have one class, a number, such as the items of one tile.
use Rattle.std.specs.Prelude.{◌≡◌, ℕ, ◌<◌, ◌==◌, true, Bool, if◌then◌else◌, Option, None, Some, List, [], ◌∷◌, length, map, filter, filter_map, flat_map, All}
use Rattle.std.specs.List.Sorted.{IsSortedBy, IsPermutation, IsStrictlyIncreasing}

-- an element in front of groups: it joins the first of them, if that has its class, and else is a group of its own
abbrev pub with_first : {X : Type 0} → ℕ → X → List (ℕ × List X) → List (ℕ × List X)
with_first n x [] = (n, x ∷ []) ∷ []
with_first n x (g ∷ gs) = if g.0 == n then (n, x ∷ g.1) ∷ gs else (n, x ∷ []) ∷ g ∷ gs

-- neighbours of one class together, each group with its class
abbrev pub grouped_by : {X : Type 0} → (X → ℕ) → List X → List (ℕ × List X)
grouped_by class [] = []
grouped_by class (x ∷ xs) = with_first (class x) x (grouped_by class xs)

-- all elements of a class, in their order
abbrev pub of_class : {X : Type 0} → (X → ℕ) → ℕ → List X → List X
of_class class n xs = filter (λ x. class x == n) xs

-- a group, if it has an element
abbrev pub group_of : {X : Type 0} → ℕ → List X → Option (ℕ × List X)
group_of n [] = None
group_of n (x ∷ xs) = Some (n, x ∷ xs)

-- of these classes, in turn, each that some element has, with all its elements
abbrev pub groups_of : {X : Type 0} → (X → ℕ) → List ℕ → List X → List (ℕ × List X)
groups_of class classes xs = filter_map (λ n. group_of n (of_class class n xs)) classes

-- all elements of groups, one group behind another
abbrev pub elements_of : {X : Type 0} → List (ℕ × List X) → List X
elements_of groups = flat_map (λ g. g.1) groups

-- a test that puts elements of lower classes first
abbrev pub ClassFirst : {X : Type 0} → (X → ℕ) → (X → X → Bool) → Type 0
ClassFirst {X} class lt = (x y : X) → class x < class y → lt x y ≡ true

-- A group as one tells it: it has an element, its elements are of its class, and they stand in order.
pub record IsGroup {X : Type 0} (lt : X → X → Bool) (class : X → ℕ) (group : ℕ × List X) : Type 0 where
  pub some : 0 < length group.1
  pub one : All (λ x. class x ≡ group.0) group.1
  pub sorted : IsSortedBy lt group.1

-- Groups as one tells them, one by one: their classes ascend, and together they have these elements, each as often.
pub record AreGroups {X : Type 0} (lt : X → X → Bool) (class : X → ℕ) (xs : List X) (groups : List (ℕ × List X)) : Type 0 where
  pub each : All (λ g. IsGroup lt class g) groups
  pub ascend : IsStrictlyIncreasing (map (λ g. g.0) groups)
  pub same : IsPermutation xs (elements_of groups)
