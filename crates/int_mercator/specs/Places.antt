-- The point of the world at a latitude and a longitude in nanodegrees, and its points on the grids.
use Rattle.std.specs.Prelude.{ℕ, suc, ◌+◌, ◌-◌, ◌*◌, ◌/◌, ◌%◌, ◌^◌, ◌≤◌, min, nat_lt, if◌then◌else◌, slice_index, ℤ, pos, negsuc, unsigned_abs}
use Rattle.tb_types.specs.declared.location.World.{World}
use Rattle.int_mercator.specs.Quarter.{quarter}

-- the latitude of the poles and the longitude of the antimeridian
abbrev pub lat_limit : ℕ
lat_limit = 90000000000

abbrev pub lon_limit : ℕ
lon_limit = 180000000000

-- the distance of two knots, 1/64 degree, and the number of the last one
abbrev pub knot_step : ℕ
knot_step = 15625000

abbrev pub last_knot : ℕ
last_knot = 5444

-- latitude and longitude are on the earth
pub record IsOnEarth (lat lon : ℤ) : Type 0 where
  pub north_or_south : unsigned_abs lat ≤ lat_limit
  pub east_or_west : unsigned_abs lon ≤ lon_limit

-- how far east of the antimeridian a longitude lies, in nanodegrees
abbrev pub from_antimeridian : ℤ → ℕ
from_antimeridian (pos n) = lon_limit + n
from_antimeridian (negsuc n) = lon_limit - suc n

-- the x of a longitude: the world is 2 ^ 32 wide, and its east bound belongs to the last column
unfoldable pub x_of : ℤ → ℕ
x_of lon = min (2 ^ 32 - 1) (from_antimeridian lon * 2 ^ 32 / (2 * lon_limit))

-- how far north a latitude of that many nanodegrees lies: on a straight line between its two knots, or at the last one
unfoldable pub north_of : ℕ → ℕ
north_of lat =
    let knot = lat / knot_step in
    let here = slice_index quarter knot in
    if nat_lt knot last_knot then here + (slice_index quarter (knot + 1) - here) * (lat % knot_step) / knot_step else slice_index quarter last_knot

-- the y of a latitude: it counts from the north, and the south bound belongs to the last row
unfoldable pub y_of : ℤ → ℕ
y_of (pos n) = 2 ^ 31 - north_of n
y_of (negsuc n) = min (2 ^ 32 - 1) (2 ^ 31 + north_of (suc n))

-- the point of the world
unfoldable pub world_of : ℤ → ℤ → World
world_of lat lon = record { x = x_of lon; y = y_of lat }

-- a coordinate of the world on the grid of a zoom, which is 4096 * 2 ^ zoom wide, rounded to the nearest
unfoldable pub grid_of : ℕ → ℕ → ℕ
grid_of w zoom = (w + 2 ^ (19 - zoom)) / 2 ^ (20 - zoom)
