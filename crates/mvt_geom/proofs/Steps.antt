-- Points that are steps away from each other, one by one.
use Rattle.std.proofs.Common.{◌≡◌, ℕ, zero, suc, ◌+◌, ◌^◌, ◌<◌, ℤ, pos, negsuc, List, [], ◌∷◌, ◌++◌, length, take, get_or, All, refl, sym, ap, subst, ◌∙◌, arith}
use Rattle.std.proofs.lemmas.Int.{ints}
use Rattle.std.proofs.lemmas.List.{append-nil, take_more}
use Rattle.std.proofs.lemmas.List.Concat.{flat_map-append}
use Rattle.std.proofs.lemmas.List.Elements.{All-nil, All-cons, All-head, All-tail, All-append}
use Rattle.tb_types.specs.declared.location.Grid.{Grid}
use Rattle.tb_types.specs.declared.shape.Shape.TheVariants.{Point, Line, Area}
use Rattle.tb_types.specs.declared.shape.GridPolygon.{GridPolygon}
use Rattle.tb_types.specs.Zigzag.{zigzag_of}
use Rattle.mvt_geom.specs.Geometry.{origin, cursor_after}
use Rattle.mvt_geom.specs.Text.{rings_of, all_of, Fits32, IsStep, AreSteps, IsShort, IsNear, NearShapesAreDrawable}
use Rattle.mvt_geom.proofs.PointSteps.{cursor_after-append}
use Rattle.mvt_geom.proofs.CleanRings.{all_rings, all_paths}

-- the zigzag number of a number of 32 bits
pub zigzag_small : (z : ℤ) → Fits32 z → zigzag_of z < 2 ^ 32
zigzag_small (pos n) h = let high = h.1 in omega (arith, ints, high)
zigzag_small (negsuc n) h = let low = h.0 in omega (arith, ints, low)

pub steps-first : (from : Grid) (xs ys : List Grid) → AreSteps from (xs ++ ys) → AreSteps from xs
steps-first from [] ys h = tt
steps-first from (p ∷ xs) ys h = (h.0, steps-first p xs ys h.1)

pub steps-later : (from : Grid) (xs ys : List Grid) → AreSteps from (xs ++ ys) → AreSteps (cursor_after from xs) ys
steps-later from [] ys h = h
steps-later from (p ∷ xs) ys h = steps-later p xs ys h.1

-- the next point
pub steps-at : (from : Grid) (points : List Grid) (i : ℕ) (p : Grid) → i < length points → get_or points i p ≡ p → AreSteps from points → IsStep (cursor_after from (take i points)) p
steps-at from [] i p within at h = absurd (omega (arith, within))
steps-at from (q ∷ points) zero p within at h = subst (IsStep from) at h.0
steps-at from (q ∷ points) (suc i) p within at h = steps-at q points i p (omega (arith, within)) at h.1

-- the next line
pub steps-line : (from : Grid) (paths : List (List Grid)) (i : ℕ) (path : List Grid) → i < length paths → get_or paths i path ≡ path → AreSteps from (all_of paths)
    → AreSteps (cursor_after from (all_of (take i paths))) path
steps-line from [] i path within at h = absurd (omega (arith, within))
steps-line from (q ∷ paths) zero path within at h = subst (AreSteps from) at (steps-first from q (all_of paths) h)
steps-line from (q ∷ paths) (suc i) path within at h =
    subst (λ c. AreSteps c path) (sym (cursor_after-append from q (all_of (take i paths)))) (steps-line (cursor_after from q) paths i path (omega (arith, within)) at (steps-later from q (all_of paths) h))

All-first : (P : List Grid → Type 0) (xs ys : List (List Grid)) → All P (xs ++ ys) → All P xs
All-first P [] ys h = All-nil P
All-first P (x ∷ xs) ys h = All-cons P x xs (All-head P x (xs ++ ys) h) (All-first P xs ys (All-tail P x (xs ++ ys) h))

All-second : (P : List Grid → Type 0) (xs ys : List (List Grid)) → All P (xs ++ ys) → All P ys
All-second P [] ys h = h
All-second P (x ∷ xs) ys h = All-second P xs ys (All-tail P x (xs ++ ys) h)

all_of-append : (paths later : List (List Grid)) → all_of (paths ++ later) ≡ all_of paths ++ all_of later
all_of-append paths later = flat_map-append (λ (path : List Grid). path) paths later

-- the rings of the next polygon
pub steps-polygon : (from : Grid) (polygons : List GridPolygon) (i : ℕ) (g : GridPolygon) → i < length polygons → get_or polygons i g ≡ g → AreSteps from (all_of (rings_of polygons))
    → AreSteps (cursor_after from (all_of (rings_of (take i polygons)))) (all_of (g.outer ∷ g.inners))
steps-polygon from [] i g within at h = absurd (omega (arith, within))
steps-polygon from (q ∷ polygons) zero g within at h =
    let split = subst (AreSteps from) (all_of-append (q.outer ∷ q.inners) (rings_of polygons)) h in
    subst (λ (p : GridPolygon). AreSteps from (all_of (p.outer ∷ p.inners))) at (steps-first from (all_of (q.outer ∷ q.inners)) (all_of (rings_of polygons)) split)
steps-polygon from (q ∷ polygons) (suc i) g within at h =
    let first = all_of (q.outer ∷ q.inners) in
    let split = subst (AreSteps from) (all_of-append (q.outer ∷ q.inners) (rings_of polygons)) h in
    let cursor = cursor_after-append from first (all_of (rings_of (take i polygons))) ∙ refl in
    let taken : all_of (rings_of (take (suc i) (q ∷ polygons))) ≡ first ++ all_of (rings_of (take i polygons)) = all_of-append (q.outer ∷ q.inners) (rings_of (take i polygons)) in
    subst (λ c. AreSteps c (all_of (g.outer ∷ g.inners))) (sym (ap (cursor_after from) taken ∙ cursor))
    (steps-polygon (cursor_after from first) polygons i g (omega (arith, within)) at (steps-later from first (all_of (rings_of polygons)) split))

-- the lines so far and one more, and where the cursor is after them
pub cursor-line : (from at new : Grid) (paths : List (List Grid)) (i : ℕ) (path : List Grid) → i < length paths → get_or paths i path ≡ path → at ≡ cursor_after from (all_of (take i paths)) → new ≡ cursor_after at path
    → new ≡ cursor_after from (all_of (take (i + 1) paths))
cursor-line from at new paths i path within itself so_far last =
    let more : take (i + 1) paths ≡ take i paths ++ path ∷ [] = take_more paths i path within ∙ ap (λ q. take i paths ++ q ∷ []) itself in
    let points : all_of (take (i + 1) paths) ≡ all_of (take i paths) ++ path = ap all_of more ∙ all_of-append (take i paths) (path ∷ []) ∙ ap (λ l. all_of (take i paths) ++ l) (append-nil path) in
    last ∙ ap (λ c. cursor_after c path) so_far ∙ sym (cursor_after-append from (all_of (take i paths)) path) ∙ ap (cursor_after from) (sym points)

-- the rings of the polygons so far and of one more
abbrev rings : GridPolygon → List (List Grid)
rings g = g.outer ∷ g.inners

pub cursor-polygon : (from at new : Grid) (polygons : List GridPolygon) (i : ℕ) (g : GridPolygon) → i < length polygons → get_or polygons i g ≡ g → at ≡ cursor_after from (all_of (rings_of (take i polygons)))
    → new ≡ cursor_after at (all_of (g.outer ∷ g.inners)) → new ≡ cursor_after from (all_of (rings_of (take (i + 1) polygons)))
cursor-polygon from at new polygons i g within itself so_far last =
    let more : take (i + 1) polygons ≡ take i polygons ++ g ∷ [] = take_more polygons i g within ∙ ap (λ q. take i polygons ++ q ∷ []) itself in
    let parts : rings_of (take (i + 1) polygons) ≡ rings_of (take i polygons) ++ rings g =
    ap rings_of more ∙ flat_map-append rings (take i polygons) (g ∷ []) ∙ ap (λ l. rings_of (take i polygons) ++ l) (append-nil (rings g)) in
    let points : all_of (rings_of (take (i + 1) polygons)) ≡ all_of (rings_of (take i polygons)) ++ all_of (rings g) = ap all_of parts ∙ all_of-append (rings_of (take i polygons)) (rings g) in
    last ∙ ap (λ c. cursor_after c (all_of (rings g))) so_far ∙ sym (cursor_after-append from (all_of (rings_of (take i polygons))) (all_of (rings g))) ∙ ap (cursor_after from) (sym points)

-- the rings of the next polygon are short
pub short-polygon : (polygons : List GridPolygon) (i : ℕ) (g : GridPolygon) → i < length polygons → get_or polygons i g ≡ g → All IsShort (rings_of polygons) → All IsShort (g.outer ∷ g.inners)
short-polygon [] i g within itself h = absurd (omega (arith, within))
short-polygon (q ∷ polygons) zero g within itself h = subst (λ (p : GridPolygon). All IsShort (p.outer ∷ p.inners)) itself (All-first IsShort (rings q) (rings_of polygons) h)
short-polygon (q ∷ polygons) (suc i) g within itself h = short-polygon polygons i g (omega (arith, within)) itself (All-second IsShort (rings q) (rings_of polygons) h)

-- near points are steps away from each other
near-step : (p q : Grid) → IsNear p → IsNear q → IsStep p q
near-step p q hp hq =
    let a = hp.x_low in
    let b = hp.x_high in
    let c = hp.y_low in
    let d = hp.y_high in
    let e = hq.x_low in
    let f = hq.x_high in
    let g = hq.y_low in
    let h = hq.y_high in
    record { x = (omega (arith, ints, a, b, e, f), omega (arith, ints, a, b, e, f)); y = (omega (arith, ints, c, d, g, h), omega (arith, ints, c, d, g, h)) }

near-steps : (from : Grid) (points : List Grid) → IsNear from → All IsNear points → AreSteps from points
near-steps from [] near all = tt
near-steps from (p ∷ points) near all = let one = All-head IsNear p points all in (near-step from p near one, near-steps p points one (All-tail IsNear p points all))

near-origin : IsNear origin
near-origin = record { x_low = omega (arith, ints); x_high = omega (arith, ints); y_low = omega (arith, ints); y_high = omega (arith, ints) }

all-near : (paths : List (List Grid)) → All (All IsNear) paths → All IsNear (all_of paths)
all-near [] h = All-nil IsNear
all-near (path ∷ paths) h = All-append IsNear path (all_of paths) (All-head (All IsNear) path paths h) (all-near paths (All-tail (All IsNear) path paths h))

pub near_shapes_are_drawable : NearShapesAreDrawable
near_shapes_are_drawable (Point p) clean short = record { short = short; steps = (near-step origin p near-origin clean, tt) }
near_shapes_are_drawable (Line paths) clean short =
    record { short = short; steps = near-steps origin (all_of paths) near-origin (all-near paths (all_paths IsNear (All IsNear) (λ p one. one.points) paths clean.1)) }
near_shapes_are_drawable (Area polygons) clean short =
    let near = all_rings IsNear (All IsNear) (λ r one. one.points) (λ r one. one.points) polygons clean.1 in
    record { short = short; steps = near-steps origin (all_of (rings_of polygons)) near-origin (all-near (rings_of polygons) near) }
