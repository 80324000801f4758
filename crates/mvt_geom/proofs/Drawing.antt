-- Paths are written one after another.
use Rattle.std.proofs.Common.{◌≡◌, ℕ, ◌+◌, ◌<◌, Bool, true, ℤ, ◌-ℤ◌, FitsSigned, w32, to_z, of_z, List, [], ◌∷◌, ◌++◌, take, length, get_or, refl, sym, ap, subst, ◌∙◌, append_assoc}
use Rattle.std.proofs.lemmas.Int.{to_z-of_z}
use Rattle.std.proofs.lemmas.List.{append-nil, take_more}
use Rattle.std.proofs.lemmas.List.Concat.{flat_map-append}
use Rattle.tb_types.specs.declared.location.Grid.{Grid}
use Rattle.tb_types.specs.declared.shape.GridPolygon.{GridPolygon}
use Rattle.tb_types.specs.Zigzag.{zigzag_of}
use Rattle.mvt_geom.specs.declared.put.Pen.{Pen}
use Rattle.mvt_geom.specs.Geometry.{cursor_after}
use Rattle.mvt_geom.specs.Text.{difference, differences, path_ints, paths_ints, rings_of}
use Rattle.mvt_geom.specs.Walks.{Draws}
use Rattle.mvt_geom.proofs.PointSteps.{cursor_after-push}

pub differences-push : (from : Grid) (points : List Grid) (p : Grid) → differences from (points ++ p ∷ []) ≡ differences from points ++ difference (cursor_after from points) p
differences-push from [] p = append-nil (difference from p)
differences-push from (q ∷ points) p = ap (λ l. difference from q ++ l) (differences-push q points p) ∙ sym (append_assoc (difference from q) (differences q points) (difference (cursor_after q points) p))

pub draws-none : (closed : Bool) (pen : Pen) → Draws closed pen pen []
draws-none closed pen later = refl

pub draws-path : (closed : Bool) (old new : Pen) (path : List Grid) → new.ints.items ≡ old.ints.items ++ path_ints closed old.at path → new.at ≡ cursor_after old.at path → Draws closed old new (path ∷ [])
draws-path closed old new path ints at later = (λ i. ints i ++ paths_ints closed (at i) later) ∙ append_assoc old.ints.items (path_ints closed old.at path) (paths_ints closed (cursor_after old.at path) later)

pub draws-more : (closed : Bool) (old mid new : Pen) (paths others : List (List Grid)) → Draws closed old mid paths → Draws closed mid new others → Draws closed old new (paths ++ others)
draws-more closed old mid new paths others h k later = k later ∙ h (others ++ later) ∙ ap (λ l. old.ints.items ++ paths_ints closed old.at l) (sym (append_assoc paths others later))

-- all paths so far, and one more
pub paths-more : (closed : Bool) (old mid new : Pen) (paths : List (List Grid)) (i : ℕ) (path : List Grid) → i < length paths → get_or paths i path ≡ path
    → Draws closed old mid (take i paths) → Draws closed mid new (path ∷ []) → Draws closed old new (take (i + 1) paths)
paths-more closed old mid new paths i path within at h k =
    let more : take (i + 1) paths ≡ take i paths ++ path ∷ [] = take_more paths i path within ∙ ap (λ p. take i paths ++ p ∷ []) at in
    subst (Draws closed old new) (sym more) (draws-more closed old mid new (take i paths) (path ∷ []) h k)

-- all polygons so far, and one more
pub polygons-more : (old mid new : Pen) (polygons : List GridPolygon) (i : ℕ) (g : GridPolygon) → i < length polygons → get_or polygons i g ≡ g
    → Draws true old mid (rings_of (take i polygons)) → Draws true mid new (g.outer ∷ g.inners) → Draws true old new (rings_of (take (i + 1) polygons))
polygons-more old mid new polygons i g within at h k =
    let more : take (i + 1) polygons ≡ take i polygons ++ g ∷ [] = take_more polygons i g within ∙ ap (λ p. take i polygons ++ p ∷ []) at in
    let rings : rings_of (take (i + 1) polygons) ≡ rings_of (take i polygons) ++ (g.outer ∷ g.inners) =
    ap rings_of more ∙ flat_map-append (λ (p : GridPolygon). p.outer ∷ p.inners) (take i polygons) (g ∷ []) ∙ ap (λ l. rings_of (take i polygons) ++ l) (append-nil (g.outer ∷ g.inners)) in
    subst (Draws true old new) (sym rings) (draws-more true old mid new (rings_of (take i polygons)) (g.outer ∷ g.inners) h k)

-- what the integers are where all is written
pub drawn : (closed : Bool) (old new : Pen) (paths : List (List Grid)) → Draws closed old new paths → new.ints.items ≡ old.ints.items ++ paths_ints closed old.at paths
drawn closed old new paths h = sym (append-nil new.ints.items) ∙ h [] ∙ ap (λ l. old.ints.items ++ paths_ints closed old.at l) (append-nil paths)

-- all points so far, and one more
pub points-more : (old mid new : Pen) (points : List Grid) (i : ℕ) (p : Grid) → i < length points → get_or points i p ≡ p
    → mid.ints.items ≡ old.ints.items ++ differences old.at (take i points) → mid.at ≡ cursor_after old.at (take i points) → new.ints.items ≡ mid.ints.items ++ difference mid.at p → new.at ≡ p
    → (new.ints.items ≡ old.ints.items ++ differences old.at (take (i + 1) points)) × (new.at ≡ cursor_after old.at (take (i + 1) points))
points-more old mid new points i p within at ints cursor more last =
    let all : take (i + 1) points ≡ take i points ++ p ∷ [] = take_more points i p within ∙ ap (λ q. take i points ++ q ∷ []) at in (
      more ∙ (λ j. ints j ++ difference (cursor j) p) ∙ append_assoc old.ints.items (differences old.at (take i points)) (difference (cursor_after old.at (take i points)) p)
          ∙ ap (λ l. old.ints.items ++ l) (sym (ap (differences old.at) all ∙ differences-push old.at (take i points) p)),
      last ∙ sym (ap (cursor_after old.at) all ∙ cursor_after-push old.at (take i points) p),
    )

-- the integers of a whole shape
pub drawn-shape : (closed : Bool) (old new : Pen) (paths : List (List Grid)) (at : Grid) → Draws closed old new paths → old.ints.items ≡ [] → old.at ≡ at → new.ints.items ≡ paths_ints closed at paths
drawn-shape closed old new paths at h none start = drawn closed old new paths h ∙ (λ i. none i ++ paths_ints closed (start i) paths)

-- a point is written
pub point-put : (old mid new : List ℕ) (a b : ℕ) (from p : Grid) → mid ≡ old ++ a ∷ [] → new ≡ mid ++ b ∷ [] → a ≡ zigzag_of (p.x -ℤ from.x) → b ≡ zigzag_of (p.y -ℤ from.y) → new ≡ old ++ difference from p
point-put old mid new a b from p h k x y = k ∙ ap (λ l. l ++ b ∷ []) h ∙ append_assoc old (a ∷ []) (b ∷ []) ∙ (λ i. old ++ (x i ∷ y i ∷ []))

-- a difference of two coordinates, as the code reads them
pub difference-read : (n : ℕ) (z y : ℤ) → FitsSigned w32 z → FitsSigned w32 y → n ≡ zigzag_of (to_z w32 (of_z w32 z) -ℤ to_z w32 (of_z w32 y)) → n ≡ zigzag_of (z -ℤ y)
difference-read n z y fz fy e = e ∙ (λ i. zigzag_of (to_z-of_z w32 z fz i -ℤ to_z-of_z w32 y fy i))
