-- What is written of a shape after clean-up is read again.
use Rattle.std.proofs.Common.{◌≡◌, ℕ, suc, ◌+◌, ◌*◌, ◌/◌, ◌%◌, ◌<◌, ◌≤◌, ◌==◌, nat_le, Bool, true, false, ℤ, pos, negsuc, ◌+ℤ◌, ◌-ℤ◌, ◌≤ℤ◌, ◌<ℤ◌, Some, List, [], ◌∷◌, ◌++◌, length, take, drop, refl, sym, ap, ◌∙◌, arith, append_assoc, length-append, All, is_some}
use Rattle.std.specs.Prelude.{int_lt}
use Rattle.std.proofs.lemmas.Int.{ints}
use Rattle.std.proofs.lemmas.Bool.{le-leb, ne_eqb}
use Rattle.std.proofs.lemmas.List.{append-nil}
use Rattle.std.proofs.lemmas.List.Elements.{All-head, All-tail}
use Rattle.std.proofs.Math.Seq.{take-append_seam, drop-append_seam}
use Rattle.tb_types.specs.declared.location.Grid.{Grid}
use Rattle.tb_types.specs.declared.shape.Shape.TheVariants.{Point, Line, Area}
use Rattle.tb_types.specs.declared.shape.GridPolygon.{GridPolygon}
use Rattle.tb_types.specs.Zigzag.{zigzag_of, unzigzag_of}
use Rattle.mvt_geom.specs.Options.{◌>>=◌}
use Rattle.mvt_geom.specs.Commands.{command, line_to, least, ended, path_at, paths_of, are_paths, has_form}
use Rattle.tb_types.specs.Clean.{doubled_area, IsPath, IsInner, IsPolygon}
use Rattle.mvt_geom.specs.Rings.{polygon, polygons_from, polygons_of}
use Rattle.mvt_geom.specs.Geometry.{origin, in_32_bits, shifted, moved, points_of, cursor_after, all_points, lines_of, line_of, area_of, geometry_of}
use Rattle.mvt_geom.specs.Text.{differences, closing, path_ints, paths_ints, rings_of, IsPoint, GeometryIsReadAgain, GeometryHasItsForm}
use Rattle.mvt_geom.proofs.CleanRings.{all_rings, all_paths}
use Rattle.mvt_geom.proofs.PathSteps.{with_path, paths_of-step, paths_of-end, are_paths-some}

lt_true : (a b : ℤ) → a <ℤ b → int_lt a b ≡ true
lt_true a b h = grind (arith, ints)

lt_false : (a b : ℤ) → b ≤ℤ a → int_lt a b ≡ false
lt_false a b h = grind (arith, ints)

-- a number from its zigzag number
unzigzag-zigzag : (z : ℤ) → unzigzag_of (zigzag_of z) ≡ z
unzigzag-zigzag (pos n) = let even : 2 * n % 2 ≡ 0 = omega arith in let half : 2 * n / 2 ≡ n = omega arith in rw (even, half) refl
unzigzag-zigzag (negsuc n) = let odd : (2 * n + 1) % 2 ≡ 1 = omega arith in let half : (2 * n + 1) / 2 ≡ n = omega arith in rw (odd, half) refl

back : (from z : ℤ) → from +ℤ (z -ℤ from) ≡ z
back from z = omega (arith, ints)

in_32_bits-fits : (z : ℤ) → negsuc 2147483647 ≤ℤ z → z <ℤ pos 2147483648 → in_32_bits z ≡ Some z
unfolding in_32_bits
in_32_bits-fits z low high = rw (lt_false z (negsuc 2147483647) low, lt_true z (pos 2147483648) high) refl

shifted-back : (from z : ℤ) → negsuc 2147483647 ≤ℤ z → z <ℤ pos 2147483648 → shifted from (zigzag_of (z -ℤ from)) ≡ Some z
unfolding shifted
shifted-back from z low high = ap (λ d. in_32_bits (from +ℤ d)) (unzigzag-zigzag (z -ℤ from)) ∙ ap in_32_bits (back from z) ∙ in_32_bits-fits z low high

moved-back : (from p : Grid) → IsPoint p → moved from (zigzag_of (p.x -ℤ from.x)) (zigzag_of (p.y -ℤ from.y)) ≡ Some p
moved-back from p is = rw (shifted-back from.x p.x is.x.0 is.x.1, shifted-back from.y p.y is.y.0 is.y.1) refl

points-back : (from : Grid) (points : List Grid) → All IsPoint points → points_of from (differences from points) ≡ Some points
points-back from [] is = refl
points-back from (p ∷ points) is = rw (moved-back from p (All-head IsPoint p points is), points-back p points (All-tail IsPoint p points is)) refl

length-differences : (from : Grid) (points : List Grid) → length (differences from points) ≡ 2 * length points
length-differences from [] = refl
length-differences from (p ∷ points) = let rest = length-differences p points in omega (arith, rest)

-- a path at the prefix of its integers
ended-back : (closed : Bool) (parameters behind : List ℕ) → ended closed parameters (closing closed ++ behind) ≡ Some (record { parameters = parameters; behind = behind })
ended-back false parameters behind = refl
ended-back true parameters behind = refl

line-back : (closed : Bool) (x y n : ℕ) (d behind : List ℕ) → length d ≡ 2 * n → least closed ≤ n
    → path_at closed (9 ∷ x ∷ y ∷ command line_to n ∷ (d ++ (closing closed ++ behind))) ≡ Some (record { parameters = x ∷ y ∷ d; behind = behind })
unfolding path_at
line-back closed x y n d behind long enough =
    let rest = d ++ (closing closed ++ behind) in
    let its_count : command line_to n / 8 ≡ n = omega arith in
    let its_id : command line_to n % 8 ≡ 2 = omega arith in
    let fewest : nat_le (least closed) n ≡ true = le-leb _ _ enough in
    let fits : nat_le (2 * n) (length rest) ≡ true = le-leb _ _ (omega (arith, long, length-append d (closing closed ++ behind))) in
    let prefix : take (2 * n) rest ≡ d = rw (sym long) (take-append_seam d (closing closed ++ behind)) in
    let left : drop (2 * n) rest ≡ closing closed ++ behind = rw (sym long) (drop-append_seam d (closing closed ++ behind)) in
    rw (its_count, its_id, fewest, fits, prefix, left) (ended-back closed (x ∷ y ∷ d) behind)

path-back : (closed : Bool) (from p : Grid) (points : List Grid) (behind : List ℕ) → least closed ≤ length points
    → path_at closed (path_ints closed from (p ∷ points) ++ behind) ≡ Some (record { parameters = differences from (p ∷ points); behind = behind })
unfolding path_ints
path-back closed from p points behind enough =
    let d = differences p points in
    let whole : path_ints closed from (p ∷ points) ++ behind ≡ 9 ∷ zigzag_of (p.x -ℤ from.x) ∷ zigzag_of (p.y -ℤ from.y) ∷ command line_to (length points) ∷ (d ++ (closing closed ++ behind)) =
    ap (λ l. 9 ∷ zigzag_of (p.x -ℤ from.x) ∷ zigzag_of (p.y -ℤ from.y) ∷ command line_to (length points) ∷ l) (append_assoc d (closing closed) behind) in
    ap (path_at closed) whole ∙ line-back closed _ _ (length points) d behind (length-differences p points) enough

-- the parameters of several paths
abbrev pub parameters_of : Grid → List (List Grid) → List (List ℕ)
parameters_of from [] = []
parameters_of from (path ∷ paths) = differences from path ∷ parameters_of (cursor_after from path) paths

abbrev pub IsLong : Bool → List Grid → Type 0
IsLong closed path = least closed + 1 ≤ length path

some_ints : (closed : Bool) (from p : Grid) (points : List Grid) (behind : List ℕ) → (length (path_ints closed from (p ∷ points) ++ behind) == 0) ≡ false
unfolding path_ints
some_ints closed from p points behind = ne_eqb _ 0 (λ same. absurd (omega (arith, same)))

paths-back : (closed : Bool) (from : Grid) (paths : List (List Grid)) → All (IsLong closed) paths → paths_of closed (paths_ints closed from paths) ≡ Some (parameters_of from paths)
paths-back closed from [] long = paths_of-end closed [] refl
paths-back closed from ([] ∷ paths) long = let none : least closed + 1 ≤ 0 = All-head (IsLong closed) [] paths long in absurd (omega (arith, none))
paths-back closed from ((p ∷ points) ∷ paths) long =
    let later = paths_ints closed (cursor_after p points) paths in
    let enough : least closed + 1 ≤ suc (length points) = All-head (IsLong closed) (p ∷ points) paths long in
    let prefix = path-back closed from p points later (omega (arith, enough)) in
    let rest = paths-back closed (cursor_after p points) paths (All-tail (IsLong closed) (p ∷ points) paths long) in
    paths_of-step closed (path_ints closed from (p ∷ points) ++ later) (some_ints closed from p points later) ∙ ap (λ r. r >>= with_path closed) prefix
    ∙ ap (λ r. r >>= λ more. Some (differences from (p ∷ points) ∷ more)) rest

all_points-back : (from : Grid) (paths : List (List Grid)) → All (All IsPoint) paths → all_points from (parameters_of from paths) ≡ Some paths
all_points-back from [] is = refl
all_points-back from (path ∷ paths) is =
    rw (points-back from path (All-head (All IsPoint) path paths is), all_points-back (cursor_after from path) paths (All-tail (All IsPoint) path paths is)) refl

lines-back : (closed : Bool) (paths : List (List Grid)) → All (IsLong closed) paths → All (All IsPoint) paths → lines_of closed (paths_ints closed origin paths) ≡ Some paths
lines-back closed paths long is = ap (λ r. r >>= all_points origin) (paths-back closed origin paths long) ∙ all_points-back origin paths is

-- inner rings join the polygon before them
inners-back : (outer : List Grid) (prefix inners rings : List (List Grid)) → All (IsInner IsPoint) inners → polygons_from outer prefix (inners ++ rings) ≡ polygons_from outer (prefix ++ inners) rings
inners-back outer prefix [] rings is = ap (λ l. polygons_from outer l rings) (sym (append-nil prefix))
inners-back outer prefix (ring ∷ inners) rings is =
    let inner = All-head (IsInner IsPoint) ring inners is in
    let negative = inner.negative in
    let e : int_lt (pos 0) (doubled_area ring) ≡ false = lt_false (pos 0) (doubled_area ring) (omega (arith, ints, negative)) in
    let f : int_lt (doubled_area ring) (pos 0) ≡ true = lt_true (doubled_area ring) (pos 0) negative in
    let step : polygons_from outer prefix (ring ∷ inners ++ rings) ≡ polygons_from outer (prefix ++ ring ∷ []) (inners ++ rings) = rw (e, f) refl in
    step ∙ inners-back outer (prefix ++ ring ∷ []) inners rings (All-tail (IsInner IsPoint) ring inners is) ∙ ap (λ l. polygons_from outer l rings) (append_assoc prefix (ring ∷ []) inners)

polygons-back : (outer : List Grid) (inners : List (List Grid)) (polygons : List GridPolygon) → All (IsPolygon IsPoint) polygons → polygons_from outer inners (rings_of polygons) ≡ Some (polygon outer inners ∷ polygons)
polygons-back outer inners [] is = refl
polygons-back outer inners (g ∷ polygons) is =
    let one = All-head (IsPolygon IsPoint) g polygons is in
    let e : int_lt (pos 0) (doubled_area g.outer) ≡ true = lt_true (pos 0) (doubled_area g.outer) one.outer.positive in
    let step : polygons_from outer inners (g.outer ∷ (g.inners ++ rings_of polygons)) ≡ polygons_from g.outer [] (g.inners ++ rings_of polygons) >>= λ later. Some (polygon outer inners ∷ later) = rw e refl in
    let rest = inners-back g.outer [] g.inners (rings_of polygons) one.inners ∙ polygons-back g.outer g.inners polygons (All-tail (IsPolygon IsPoint) g polygons is) in
    step ∙ ap (λ r. r >>= λ later. Some (polygon outer inners ∷ later)) rest

first-back : (g : GridPolygon) (polygons : List GridPolygon) → All (IsPolygon IsPoint) (g ∷ polygons) → polygons_of (rings_of (g ∷ polygons)) ≡ Some (g ∷ polygons)
first-back g polygons is =
    let one = All-head (IsPolygon IsPoint) g polygons is in
    let e : int_lt (pos 0) (doubled_area g.outer) ≡ true = lt_true (pos 0) (doubled_area g.outer) one.outer.positive in
    let step : polygons_of (g.outer ∷ (g.inners ++ rings_of polygons)) ≡ polygons_from g.outer [] (g.inners ++ rings_of polygons) = rw e refl in
    step ∙ inners-back g.outer [] g.inners (rings_of polygons) one.inners ∙ polygons-back g.outer g.inners polygons (All-tail (IsPolygon IsPoint) g polygons is)

line-again : (paths : List (List Grid)) → 0 < length paths → All (IsPath IsPoint) paths → (lines_of false (paths_ints false origin paths) >>= line_of) ≡ Some (Line paths)
line-again [] some is = absurd (omega (arith, some))
line-again (path ∷ paths) some is =
    ap (λ r. r >>= line_of) (lines-back false (path ∷ paths) (all_paths IsPoint (IsLong false) (λ p one. one.long) (path ∷ paths) is) (all_paths IsPoint (All IsPoint) (λ p one. one.points) (path ∷ paths) is))

area-again : (polygons : List GridPolygon) → 0 < length polygons → All (IsPolygon IsPoint) polygons → (lines_of true (paths_ints true origin (rings_of polygons)) >>= area_of) ≡ Some (Area polygons)
area-again [] some is = absurd (omega (arith, some))
area-again (g ∷ polygons) some is =
    let rings = rings_of (g ∷ polygons) in
    let long = all_rings IsPoint (IsLong true) (λ r one. one.long) (λ r one. one.long) (g ∷ polygons) is in
    let points = all_rings IsPoint (All IsPoint) (λ r one. one.points) (λ r one. one.points) (g ∷ polygons) is in
    ap (λ r. r >>= area_of) (lines-back true rings long points) ∙ ap (λ r. r >>= λ polygons. Some (Area polygons)) (first-back g polygons is)

pub geometry_is_read_again : GeometryIsReadAgain
unfolding geometry_of
geometry_is_read_again (Point p) is = rw (moved-back origin p is) refl
geometry_is_read_again (Line paths) is = line-again paths is.0 is.1
geometry_is_read_again (Area polygons) is = area-again polygons is.0 is.1

-- what is written has its form
lines-form : (closed : Bool) (paths : List (List Grid)) → 0 < length paths → All (IsLong closed) paths → are_paths closed (paths_ints closed origin paths) ≡ true
lines-form closed [] some long = absurd (omega (arith, some))
lines-form closed ([] ∷ paths) some long = let none : least closed + 1 ≤ 0 = All-head (IsLong closed) [] paths long in absurd (omega (arith, none))
lines-form closed ((p ∷ points) ∷ paths) some long =
    are_paths-some closed _ (some_ints closed origin p points (paths_ints closed (cursor_after p points) paths)) ∙ ap is_some (paths-back closed origin ((p ∷ points) ∷ paths) long)

pub geometry_has_its_form : GeometryHasItsForm
unfolding has_form
geometry_has_its_form (Point p) is = refl
geometry_has_its_form (Line paths) is = lines-form false paths is.0 (all_paths IsPoint (IsLong false) (λ p one. one.long) paths is.1)
geometry_has_its_form (Area []) is = absurd (omega (arith, is.0))
geometry_has_its_form (Area (g ∷ polygons)) is =
    lines-form true (rings_of (g ∷ polygons)) (omega arith) (all_rings IsPoint (IsLong true) (λ r one. one.long) (λ r one. one.long) (g ∷ polygons) is.1)
