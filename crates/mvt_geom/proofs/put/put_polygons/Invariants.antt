use Rattle.std.proofs.Common.{◌≡◌, true, take}
use Rattle.mvt_geom.specs.Geometry.{cursor_after}
use Rattle.mvt_geom.specs.Text.{all_of, rings_of}
use Rattle.mvt_geom.specs.Walks.{Draws}
use Rattle.mvt_geom.proofs.put.put_polygons.Given as goal

-- the polygons so far are written
abbrev pub invariant-loop-polygon : goal.invariant-loop-polygon
invariant-loop-polygon l = record {
  draws : Draws true l.initial.pen l.pen (rings_of (take l.polygon-index l.polygons));
  at : l.pen.at ≡ cursor_after l.initial.pen.at (all_of (rings_of (take l.polygon-index l.polygons)));
}
