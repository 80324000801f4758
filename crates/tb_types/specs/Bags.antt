-- How often values stand in lists, and sums over the views of several lanes.
use Rattle.std.specs.Prelude.{◌≡◌, ℕ, zero, suc, ◌+◌, ◌==◌, List, [], ◌∷◌, ◌++◌, count_by, sum_by}

-- the numbers below n, in order
abbrev pub below : ℕ → List ℕ
below zero = []
below (suc n) = below n ++ n ∷ []

-- how often a number stands in a list
abbrev pub times : ℕ → List ℕ → ℕ
times x xs = count_by (λ y. y == x) xs

-- these are the numbers below n, each once, in any order
abbrev pub IsEachOnce : ℕ → List ℕ → Type 0
IsEachOnce n xs = (x : ℕ) → times x xs ≡ times x (below n)

-- each value stands equally often in both lists: however values are weighed, both weigh the same
abbrev pub IsSameBag : {A : Type 0} → List A → List A → Type 0
IsSameBag xs ys = (weight : _ → ℕ) → sum_by weight xs ≡ sum_by weight ys

-- the sum of what all views have of something
abbrev pub total : {V : Type 0} → (V → ℕ) → List V → ℕ
total f [] = 0
total f (v ∷ vs) = f v + total f vs
