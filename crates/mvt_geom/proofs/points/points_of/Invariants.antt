use Rattle.std.proofs.Common.{◌≡◌, ◌-◌, ◌≤◌, ◌∷◌, length, drop}
use Rattle.mvt_geom.specs.Geometry.{points_of, cursor_after}
use Rattle.mvt_geom.specs.Walks.{with_prefix}
use Rattle.mvt_geom.proofs.points.points_of.Given as goal

-- the points so far, and those of the parameters that are left, are all
abbrev pub invariant-loop-at : goal.invariant-loop-at
invariant-loop-at l = record {
  told : with_prefix l.points.items (points_of l.cursor (drop l.at l.path.more.now)) ≡ points_of l.fn.from (l.path.x ∷ l.path.y ∷ l.path.more.now);
  cursor : l.cursor ≡ cursor_after l.fn.from l.points.items;
  within : l.at ≤ length l.path.more.now;
}

abbrev pub decreases-loop-at : goal.decreases-loop-at
decreases-loop-at l = length l.path.more.now - l.at
