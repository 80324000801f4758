-- The integers of a feature's geometry: commands and their parameters (Mapbox Vector Tile 2.1, section 4.3).
use Rattle.std.specs.Prelude.{ℕ, zero, suc, ◌+◌, ◌*◌, ◌/◌, ◌%◌, ◌==◌, nat_le, Bool, true, false, not, ◌&&◌, if◌then◌else◌, Option, None, Some, is_some, List, [], ◌∷◌, length, take, drop}
use Rattle.mvt_geom.specs.Options.{◌>>=◌}
use Rattle.mvt_geom.specs.declared.path.Path.{Path}

-- a command integer: what is done, and how often
abbrev pub command : ℕ → ℕ → ℕ
command id count = id + 8 * count

-- what is done: MoveTo, LineTo or ClosePath
abbrev pub move_to : ℕ
move_to = 1

abbrev pub line_to : ℕ
line_to = 2

abbrev pub close_path : ℕ
close_path = 7

-- a path at the front of integers: its parameters, two for each point, and the integers behind it
pub record NextPath : Type 0 where
  pub parameters : List ℕ
  pub behind : List ℕ

-- how many points a LineTo has at least: a line goes on to another point, and a ring, which is closed, to two
abbrev pub least : Bool → ℕ
least false = 1
least true = 2

-- a ring ends with ClosePath, once
abbrev pub ended : Bool → List ℕ → List ℕ → Option NextPath
ended false parameters behind = Some (record { parameters = parameters; behind = behind })
ended true parameters [] = None
ended true parameters (close ∷ behind) = if close == command close_path 1 then Some (record { parameters = parameters; behind = behind }) else None

-- a LineTo of at least so many points stands before its parameters
abbrev pub is_line : ℕ → ℕ → List ℕ → Bool
is_line fewest line rest = (line % 8 == line_to) && (nat_le fewest (line / 8) && nat_le (2 * (line / 8)) (length rest))

-- the path at the front: MoveTo of one point, LineTo of the others, and ClosePath where it is a ring
unfoldable pub path_at : Bool → List ℕ → Option NextPath
path_at closed [] = None
path_at closed (move ∷ []) = None
path_at closed (move ∷ x ∷ []) = None
path_at closed (move ∷ x ∷ y ∷ []) = None
path_at closed (move ∷ x ∷ y ∷ line ∷ rest) =
    if (move == command move_to 1) && is_line (least closed) line rest
    then ended closed (x ∷ y ∷ take (2 * (line / 8)) rest) (drop (2 * (line / 8)) rest)
    else None

-- the parameters of paths up to the end, at most so many
abbrev pub paths_within : ℕ → Bool → List ℕ → Option (List (List ℕ))
paths_within most closed [] = Some []
paths_within zero closed (n ∷ ints) = None
paths_within (suc most) closed (n ∷ ints) = path_at closed (n ∷ ints) >>= λ path. paths_within most closed path.behind >>= λ later. Some (path.parameters ∷ later)

-- the parameters of the paths that integers are: no more than integers, since each path has some
unfoldable pub paths_of : Bool → List ℕ → Option (List (List ℕ))
paths_of closed ints = paths_within (length ints) closed ints

-- one path or more
abbrev pub are_paths : Bool → List ℕ → Bool
are_paths closed ints = if length ints == 0 then false else is_some (paths_of closed ints)

-- MoveTo of one point or more
abbrev pub is_move : List ℕ → Bool
is_move [] = false
is_move (n ∷ parameters) = (n % 8 == move_to) && (not (n / 8 == 0) && (2 * (n / 8) == length parameters))

-- The integers are whole commands of the form of a feature's type: 0 unknown, whose integers may be any, 1 point, 2 line, 3 polygon.
unfoldable pub has_form : ℕ → List ℕ → Bool
has_form form ints =
    if form == 1 then is_move ints
    else if form == 2 then are_paths false ints
    else if form == 3 then are_paths true ints
    else form == 0

-- what the code answers, without where its integers lie
abbrev pub next_of : Path → NextPath
next_of path = record { parameters = path.x ∷ path.y ∷ path.more.now; behind = path.behind.now }

abbrev pub seen_path : Option Path → Option NextPath
seen_path None = None
seen_path (Some path) = Some (next_of path)
