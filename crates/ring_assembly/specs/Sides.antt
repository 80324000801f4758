-- Where a point lies beside a ring.
use Rattle.std.specs.Prelude.{ℕ, ◌+◌, ◌-◌, ◌*◌, min, max, Bool, false, not, ◌&&◌, ◌||◌, ◌==◌, nat_lt, nat_le, if◌then◌else◌, Option, Some, None, List, [], ◌∷◌, ◌++◌}
use Rattle.tb_types.specs.declared.location.World.{World}

-- The sums of x times the next y, and of y times the next x, round the triangle a, b, p. They are equal where p is in line with
-- a and b.
abbrev pub forth_round : World → World → World → ℕ
forth_round a b p = a.x * b.y + b.x * p.y + p.x * a.y

abbrev pub back_round : World → World → World → ℕ
back_round a b p = b.x * a.y + p.x * b.y + a.x * p.y

-- p lies on the edge from a to b: within the box of a and b, and in line with them
unfoldable pub on_edge : World → World → World → Bool
on_edge a b p =
    nat_le (min a.y b.y) p.y && nat_le p.y (max a.y b.y) && nat_le (min a.x b.x) p.x && nat_le p.x (max a.x b.x)
    && (forth_round a b p == back_round a b p)

-- Where p's height is from a's on and below b's, the edge from a to b passes it at a greater x than p's. That x is
-- (a.x (b.y - p.y) + b.x (p.y - a.y)) / (b.y - a.y).
abbrev pub passes : World → World → World → Bool
passes a b p = nat_lt (p.x * (b.y - a.y)) (a.x * (b.y - p.y) + b.x * (p.y - a.y))

-- exactly one end of the edge from a to b has a greater y than p, and the edge passes p's height at a greater x than p's
unfoldable pub crosses : World → World → World → Bool
crosses a b p =
    if nat_le a.y p.y && nat_lt p.y b.y then passes a b p
    else (if nat_le b.y p.y && nat_lt p.y a.y then passes b a p
    else false)

-- exactly one of two holds
abbrev pub differ : Bool → Bool → Bool
differ a b = if a then not b else b

-- p lies on one of the edges along a path from a on
abbrev pub on_path : World → World → List World → Bool
on_path p a [] = false
on_path p a (b ∷ rest) = on_edge a b p || on_path p b rest

-- p lies on an edge of a ring
abbrev pub lies_on : List World → World → Bool
lies_on [] p = false
lies_on (a ∷ rest) p = on_path p a (rest ++ a ∷ [])

-- an odd number of the edges along a path from a on are crossed on the way from p to the right
abbrev pub odd_path : World → World → List World → Bool
odd_path p a [] = false
odd_path p a (b ∷ rest) = differ (crosses a b p) (odd_path p b rest)

-- a point is inside a ring by the crossing rule
abbrev pub is_inside : List World → World → Bool
is_inside [] p = false
is_inside (a ∷ rest) p = odd_path p a (rest ++ a ∷ [])

-- what a path shows of p: nothing where p lies on it, and else whether an odd number of its edges are crossed
abbrev pub shown_along : World → World → List World → Option Bool
shown_along p a path = if on_path p a path then None else Some (odd_path p a path)

-- what a ring shows of p: nothing where p lies on it, and else whether p is inside
abbrev pub shown : List World → World → Option Bool
shown ring p = if lies_on ring p then None else Some (is_inside ring p)
