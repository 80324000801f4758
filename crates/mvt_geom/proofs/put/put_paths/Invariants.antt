use Rattle.std.proofs.Common.{◌≡◌, take}
use Rattle.mvt_geom.specs.Geometry.{cursor_after}
use Rattle.mvt_geom.specs.Text.{all_of}
use Rattle.mvt_geom.specs.Walks.{Draws}
use Rattle.mvt_geom.proofs.put.put_paths.Given as goal

-- the paths so far are written
abbrev pub invariant-loop-path : goal.invariant-loop-path
invariant-loop-path l = record {
  draws : Draws l.closed l.initial.pen l.pen (take l.path-index l.paths);
  at : l.pen.at ≡ cursor_after l.initial.pen.at (all_of (take l.path-index l.paths));
}
