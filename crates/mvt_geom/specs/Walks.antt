-- Where a walk over integers or shapes has come to.
use Rattle.std.specs.Prelude.{◌≡◌, ℕ, Bool, Option, None, Some, List, ◌∷◌, ◌++◌}
use Rattle.tb_types.specs.declared.location.Grid.{Grid}
use Rattle.mvt_geom.specs.Geometry.{points_of, cursor_after}
use Rattle.mvt_geom.specs.Text.{paths_ints}
use Rattle.tb_types.specs.declared.shape.GridPolygon.{GridPolygon}
use Rattle.mvt_geom.specs.Rings.{polygons_from}
use Rattle.mvt_geom.specs.declared.put.Pen.{Pen}
use Rattle.mvt_geom.specs.declared.polygons.Pending.{Pending}

-- what was read, before what is read of the rest
abbrev pub with_prefix : {A : Type 0} → List A → Option (List A) → Option (List A)
with_prefix prefix None = None
with_prefix prefix (Some rest) = Some (prefix ++ rest)

-- the points of a path's parameters, and where the cursor is after them
abbrev pub ArePoints : Grid → List ℕ → Option (List Grid × Grid) → Type 0
ArePoints from parameters None = points_of from parameters ≡ None
ArePoints from parameters (Some found) = (points_of from parameters ≡ Some found.0) × (found.1 ≡ cursor_after from found.0)

-- paths were written, whatever paths come after them
abbrev pub Draws : Bool → Pen → Pen → List (List Grid) → Type 0
Draws closed old new paths = (later : List (List Grid)) → new.ints.items ++ paths_ints closed new.at later ≡ old.ints.items ++ paths_ints closed old.at (paths ++ later)

-- the polygons that are whole, and those of the one that is pending and of the rings that follow
abbrev pub polygons_behind : Pending → List (List Grid) → Option (List GridPolygon)
polygons_behind pending rings = with_prefix pending.whole (polygons_from pending.outer pending.inners rings)

-- what is pending behind a ring, whatever rings follow
abbrev pub GoesOn : Pending → List Grid → Option Pending → Type 0
GoesOn pending ring None = (rings : List (List Grid)) → polygons_behind pending (ring ∷ rings) ≡ None
GoesOn pending ring (Some next) = (rings : List (List Grid)) → polygons_behind pending (ring ∷ rings) ≡ polygons_behind next rings
