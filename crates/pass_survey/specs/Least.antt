-- The element of the least number.
use Rattle.std.specs.Prelude.{◌≡◌, ℕ, ◌≤◌, nat_lt, if◌then◌else◌, Option, None, Some, List, [], All, Contains}

-- It is one of them, and none has a lesser number; or there is none. In whatever order they stand.
abbrev pub IsLeast : {X : Type 0} → (X → ℕ) → List X → Option X → Type 0
IsLeast number xs None = xs ≡ []
IsLeast number xs (Some x) = Contains xs x × All (λ y. number x ≤ number y) xs

-- that of two
abbrev pub lesser : {X : Type 0} → (X → ℕ) → X → X → X
lesser number x y = if nat_lt (number y) (number x) then y else x

abbrev pub least_of : {X : Type 0} → (X → ℕ) → Option X → Option X → Option X
least_of number None other = other
least_of number (Some x) None = Some x
least_of number (Some x) (Some y) = Some (lesser number x y)
