-- Which points a path keeps.
use Rattle.std.specs.Prelude.{◌≡◌, ℕ, zero, suc, ◌+◌, ◌-◌, ◌*◌, ◌<◌, max, nat_lt, if◌then◌else◌, Option, Some, None, List, [], ◌∷◌, ◌++◌, map, length, take, drop, slice_index_or, slice_range, pos}
use Rattle.tb_types.specs.declared.location.Grid.{Grid}
use Rattle.line_simplify.specs.Key.{distance_of, key_of}

-- the greatest of some numbers, 0 where there is none
abbrev pub greatest : List ℕ → ℕ
greatest [] = 0
greatest (k ∷ ks) = max k (greatest ks)

-- the first place at which the greatest of some numbers stands
abbrev pub place_of_greatest : List ℕ → ℕ
place_of_greatest [] = 0
place_of_greatest (k ∷ ks) = if nat_lt k (greatest ks) then place_of_greatest ks + 1 else 0

-- that place, if the number there is above a limit
abbrev pub place_above : ℕ → List ℕ → Option ℕ
place_above limit ks = if nat_lt limit (greatest ks) then Some (place_of_greatest ks) else None

-- The place of the point that is kept among those between the ends a and b of a part. Its key is above the square of the
-- tolerance times the square of the part's length, which counts as 1 where it is 0.
unfoldable pub split_of : ℕ → Grid → List Grid → Grid → Option ℕ
split_of tolerance a ps b = place_above (tolerance * tolerance * max (distance_of a b) 1) (map (key_of a b) ps)

-- the point at a place
abbrev pub point : List Grid → ℕ → Grid
point ps at = slice_index_or ps at (record { x = pos 0; y = pos 0 })

-- The part of a path between two places is split at a third one.
pub record IsSplitAt (tolerance : ℕ) (path : List Grid) (from at to : ℕ) : Type 0 where
  pub after : from < at
  pub before : at < to
  pub split : split_of tolerance (point path from) (slice_range path (from + 1) to) (point path to) ≡ Some (at - (from + 1))

-- what is kept at a place, and nothing where there is no place
abbrev pub if_split : Option ℕ → (ℕ → List Grid) → List Grid
if_split None kept = []
if_split (Some at) kept = kept at

-- The points that are kept of those between the ends a and b of a part. No part is split more often than it has points.
unfoldable pub kept : ℕ → ℕ → Grid → List Grid → Grid → List Grid
kept zero tolerance a ps b = []
kept (suc most) tolerance a ps b =
    if_split (split_of tolerance a ps b) (λ at.
    let p = point ps at in
    kept most tolerance a (take at ps) p ++ p ∷ kept most tolerance p (drop (at + 1) ps) b)

-- the points that a path keeps: both ends, and what is kept between them
unfoldable pub simplified : ℕ → List Grid → List Grid
simplified tolerance [] = []
simplified tolerance (a ∷ []) = a ∷ []
simplified tolerance (a ∷ p ∷ ps) =
    let between = length ps in
    let b = point (p ∷ ps) between in
    a ∷ (kept between tolerance a (take between (p ∷ ps)) b ++ b ∷ [])
