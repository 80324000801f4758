-- A list in order, by a test that says whether one element is less than another.
use Rattle.std.specs.Prelude.{◌≡◌, ◌≢◌, ℕ, nat_lt, true, Bool, if◌then◌else◌, List, [], ◌∷◌, AllPairs, Contains}
use Rattle.std.specs.Ordering.{is_lt}
use Rattle.std.specs.declared.cmp.Ordering.{Ordering}
use Rattle.std.specs.List.Sorted.{ties}

-- an element put into a list: before the first element that isn't less
abbrev pub inserted_by : {X : Type 0} → (X → X → Bool) → X → List X → List X
inserted_by lt x [] = x ∷ []
inserted_by lt x (y ∷ ys) = if lt y x then y ∷ inserted_by lt x ys else x ∷ y ∷ ys

-- the elements in order; those of which neither is less stand as they stood
abbrev pub sorted_by : {X : Type 0} → (X → X → Bool) → List X → List X
sorted_by lt [] = []
sorted_by lt (x ∷ xs) = inserted_by lt x (sorted_by lt xs)

-- whether an element's key is less than another's
abbrev pub by_key : {X K : Type 0} → (X → K) → (K → K → Ordering) → X → X → Bool
by_key key cmp x y = is_lt (cmp (key x) (key y))

-- whether an element's rank, a number, is less than another's
abbrev pub by_rank : {X : Type 0} → (X → ℕ) → X → X → Bool
by_rank rank x y = nat_lt (rank x) (rank y)

-- the elements in the order of their keys
abbrev pub sorted_by_key : {X K : Type 0} → (X → K) → (K → K → Ordering) → List X → List X
sorted_by_key key cmp xs = sorted_by (by_key key cmp) xs

-- no two places of a list have one key
abbrev pub KeysDiffer : {X K : Type 0} → (X → K) → List X → Type 0
KeysDiffer key xs = AllPairs (λ x y. key x ≢ key y) xs

-- elements of which neither is less are equal
abbrev pub TiesAreEqual : {X : Type 0} → (X → X → Bool) → List X → Type 0
TiesAreEqual {X} lt xs = (x y : X) → Contains xs x → Contains xs y → ties lt x y ≡ true → x ≡ y
