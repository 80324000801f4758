-- The rings of polygons: which are outer and which inner.
use Rattle.std.specs.Prelude.{if◌then◌else◌, pos, int_lt, Option, None, Some, List, [], ◌∷◌, ◌++◌}
use Rattle.tb_types.specs.declared.location.Grid.{Grid}
use Rattle.tb_types.specs.declared.shape.GridPolygon.{GridPolygon}
use Rattle.tb_types.specs.Clean.{doubled_area}
use Rattle.mvt_geom.specs.Options.{◌>>=◌}

abbrev pub polygon : List Grid → List (List Grid) → GridPolygon
polygon outer inners = record { outer = outer; inners = inners }

-- The polygons of an outer ring, of inner rings so far, and of the rings that follow. A ring of positive area begins the next
-- polygon, and one of negative area is inner to this one; a ring has to be one of the two.
abbrev pub polygons_from : List Grid → List (List Grid) → List (List Grid) → Option (List GridPolygon)
polygons_from outer inners [] = Some (polygon outer inners ∷ [])
polygons_from outer inners (ring ∷ rings) =
    if int_lt (pos 0) (doubled_area ring) then (polygons_from ring [] rings >>= λ later. Some (polygon outer inners ∷ later))
    else if int_lt (doubled_area ring) (pos 0) then polygons_from outer (inners ++ ring ∷ []) rings
    else None

-- the polygons of one ring or more, of which the first is outer
abbrev pub polygons_of : List (List Grid) → Option (List GridPolygon)
polygons_of [] = None
polygons_of (ring ∷ rings) = if int_lt (pos 0) (doubled_area ring) then polygons_from ring [] rings else None
