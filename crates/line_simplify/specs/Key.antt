-- How far points lie from a part of a path, in whole numbers.
use Rattle.std.specs.Prelude.{ℕ, ◌+◌, ◌*◌, ◌^◌, ◌==◌, if◌then◌else◌, ℤ, pos, ◌+ℤ◌, ◌-ℤ◌, ◌*ℤ◌, ◌≤ℤ◌, int_le, unsigned_abs}
use Rattle.tb_types.specs.declared.location.Grid.{Grid}

-- a coordinate is within 0 and 2 ^ 28
pub record IsCoordinate (n : ℤ) : Type 0 where
  pub low : pos 0 ≤ℤ n
  pub high : n ≤ℤ pos (2 ^ 28)

-- both coordinates of a point are
pub record IsOnGrid (p : Grid) : Type 0 where
  pub x : IsCoordinate p.x
  pub y : IsCoordinate p.y

-- the square of the distance of two points
unfoldable pub distance_of : Grid → Grid → ℕ
distance_of p q =
    let wide = unsigned_abs (p.x -ℤ q.x) in
    let high = unsigned_abs (p.y -ℤ q.y) in
    wide * wide + high * high

-- the scalar product of p - a and b - a
unfoldable pub scalar_of : Grid → Grid → Grid → ℤ
scalar_of a b p = ((p.x -ℤ a.x) *ℤ (b.x -ℤ a.x)) +ℤ ((p.y -ℤ a.y) *ℤ (b.y -ℤ a.y))

-- the cross product of p - a and b - a
unfoldable pub cross_of : Grid → Grid → Grid → ℤ
cross_of a b p = ((p.x -ℤ a.x) *ℤ (b.y -ℤ a.y)) -ℤ ((p.y -ℤ a.y) *ℤ (b.x -ℤ a.x))

-- The key of a point p between the ends a and b of a part, by the first case that applies: the ends are one point; p lies
-- before a; p lies past b; p lies beside the part.
unfoldable pub key_of : Grid → Grid → Grid → ℕ
key_of a b p =
    let length = distance_of a b in
    let along = scalar_of a b p in
    let off = unsigned_abs (cross_of a b p) in
    if length == 0 then distance_of p a
    else (if int_le along (pos 0) then distance_of p a * length
    else (if int_le (pos length) along then distance_of p b * length
    else off * off))
